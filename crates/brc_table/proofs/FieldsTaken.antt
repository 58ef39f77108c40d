-- A hand takes a field by its first duty, and the rule holds again: the field was at home, and is the hand's from then
-- on.
use Rattle.std.proofs.Common.{◌≡◌, ◌^◌, ◌⊎◌, ℕ, ◌+◌, ◌<◌, Option, Some, List, ◌∷◌, cond, set, inl, inr, refl, sym, ap, ◌∙◌, subst, arith}
use Rattle.std.specs.Prelude.{◌==◌, slice_get, slice_index}
use Rattle.std.proofs.lemmas.Bool.{cases_Bool, cases_lt}
use Rattle.std.proofs.lemmas.Bool.Decides.{eqb_tells}
use mathlib.Core.Option as home
use mathlib.Core.Option.{some, some-injective}
use lib.ListN.{get_elem?}
use Rattle.atomic_table.specs.Table.{State, takes, Me, Allows}
use Rattle.atomic_table.proofs.Lists.{set_else}
use Rattle.brc_word.specs.Words.{free_word}
use Rattle.brc_model.specs.declared.address.Address.TheVariants.{Field}
use Rattle.brc_model.specs.declared.duty.Duty.{Duty}
use Rattle.brc_model.specs.declared.duty.Duty.TheVariants.{LockGate, UnlockGate, BirthKind, BirthLocal, SettleKind, SettleEnd}
use Rattle.brc_model.specs.declared.layout.Layout.{Layout}
use Rattle.brc_model.specs.Layout.{row_count}
use Rattle.brc_model.specs.Duties.{address_of}
use Rattle.brc_model.specs.Machine.{Machine, locked_by}
use Rattle.brc_model.specs.Within.{IsThere}
use Rattle.brc_model.specs.FieldLaws.{FieldUse, Stays, Takes, Gives, use_of, UsesField, FieldsAreKnown}
use Rattle.brc_table.specs.Plan.{Plan}
use Rattle.brc_table.specs.ModelLaws.{ModelLaws}
use Rattle.brc_table.specs.declared.view.View.{View}
use Rattle.brc_table.specs.Views.{view_by, taken_after}
use Rattle.brc_table.specs.Homes.{resources, held_in, times_taken, IsHome, HoldsHome, TableStands}
use Rattle.brc_table.specs.Begins.{Becomes}
use Rattle.brc_table.specs.Uses.{first_use, first_due, held_after, Uses}
use Rattle.brc_table.proofs.Lists.{set_view}
use Rattle.brc_table.proofs.FirstHand.{with_duty}
use Rattle.brc_table.proofs.Changing.{taken_same, locked_same}
use Rattle.brc_table.proofs.Stepping.{Does, read_of, relies}
use Rattle.brc_table.proofs.FieldsKept.{fields_taken}
use Rattle.brc_table.proofs.FieldsUsed.{used_left, used_now}
use Rattle.brc_table.proofs.Allowed as allowed
use Rattle.brc_table.proofs.Allowed.{Knows, IsNextAt}

-- ---- duties that take a field

takes_row : (x y : ℕ) → Takes y ≡ Takes x → y ≡ x
takes_row x y is = cc

-- The field that a duty takes is of a row.
taken_there : (layout : Layout) (t head : ℕ) (d : Duty) (found x : ℕ) → use_of d found ≡ Takes x
    → IsThere layout (address_of layout t head d) → x < row_count layout
taken_there layout t head (LockGate y) found x is there = elim (cases_Bool (found == free_word)) [
  | inl free ↦
      let same = takes_row x y (sym (ap (λ b. cond b (Takes y) Stays) free) ∙ is) in
      subst (λ (z : ℕ). z < row_count layout) same there
  | inr other ↦
      absurd (let wrong : Stays ≡ Takes x = sym (ap (λ b. cond b (Takes y) Stays) other) ∙ is in cc)
]
taken_there layout t head (BirthKind y h w) found x is there =
    subst (λ (z : ℕ). z < row_count layout) (takes_row x y is) there
taken_there layout t head (SettleKind y) found x is there =
    subst (λ (z : ℕ). z < row_count layout) (takes_row x y is) there
taken_there layout t head _ found x is there = absurd cc

-- A duty that takes a field whatever it finds leaves the hand's lock as it is.
pub takes_no_lock : (d : Duty) (x : ℕ) → ((found : ℕ) → use_of d found ≡ Takes x) → (locked : Option ℕ) (found : ℕ)
    → locked_by locked d found ≡ locked
takes_no_lock (LockGate y) x all locked found = absurd (let wrong : Stays ≡ Takes x = all 0 in cc)
takes_no_lock (UnlockGate y) x all locked found = absurd (let wrong : Gives y ≡ Takes x = all 0 in cc)
takes_no_lock _ x all locked found = refl

-- What such a duty knows of the field.
pub due_known : FieldsAreKnown → (plan : Plan) (words : List ℕ) (views : List View) (id : ℕ) (u : View) (d : Duty)
    (rest : List Duty) (does : Does plan words views id u d rest) (x : ℕ) → ((found : ℕ) → use_of d found ≡ Takes x)
    → does.stands.machine.memory (Field x)
    ≡ first_due (d ∷ rest) (does.stands.machine.memory (address_of does.stands.machine.layout u.thread u.actor.head d))
due_known law plan words views id u (LockGate y) rest does x all =
    absurd (let wrong : Stays ≡ Takes x = all 0 in cc)
due_known law plan words views id u (BirthKind y h w) rest does x all =
    let s = does.stands in
    let none =
    law.unborn s.accounts (1 + s.machine.layout.workers) s.machine u.thread u.actor y h w rest s.counts
    (record { found = s.same_actor id u does.here; agenda = does.agenda; alive = does.alive }) in
    ap (λ (z : ℕ). s.machine.memory (Field z)) (sym (takes_row x y (all 0))) ∙ none
due_known law plan words views id u (SettleKind y) rest does x all =
    let s = does.stands in
    let full =
    law.dying s.accounts (1 + s.machine.layout.workers) s.machine u.thread u.actor y rest s.counts
    (record { found = s.same_actor id u does.here; agenda = does.agenda; alive = does.alive }) in
    ap (λ (z : ℕ). s.machine.memory (Field z)) (sym (takes_row x y (all 0))) ∙ full
due_known law plan words views id u (UnlockGate y) rest does x all =
    absurd (let wrong : Gives y ≡ Takes x = all 0 in cc)
due_known law plan words views id u (BirthLocal y h) rest does x all =
    absurd (let wrong : Gives y ≡ Takes x = all 0 in cc)
due_known law plan words views id u (SettleEnd y) rest does x all =
    absurd (let wrong : Gives y ≡ Takes x = all 0 in cc)
due_known law plan words views id u _ rest does x all =
    absurd (let wrong : Stays ≡ Takes x = all 0 in cc)

-- ---- the step

module _ (laws : ModelLaws) (plan : Plan) (v u : View) (d : Duty)
    (rest : List Duty) (index : ℕ) (becomes : Becomes plan v u) (next : IsNextAt u d rest index) (x : ℕ) where
  module _ {T : Type 0} (s : State (Option T) View) (holds : TableStands plan s.words s.homes s.views) (id : ℕ)
      (here : get_elem? s.views id ≡ some v) (takes_it : use_of d (read_of u d (slice_index s.words index)) ≡ Takes x)
    where
      abbrev it : Does plan s.words (set s.views id u) id u d rest
      it = allowed.does laws plan v u d rest index becomes next s holds id here

      abbrev m : Machine
      m = holds.stands.machine

      abbrev k : Machine
      k = it.stands.machine

      abbrev found : ℕ
      found = read_of u d (slice_index s.words index)

      pub finds_found : k.memory (address_of k.layout u.thread u.actor.head d) ≡ found
      finds_found =
          allowed.finds_word laws plan v u d rest index becomes next s holds id here

      -- Nobody uses the field,
      free_of : (z : View) → slice_get k.actors z.thread ≡ Some z.actor → UsesField z.actor x → ⊥
      free_of z acts uses =
          laws.free it.stands.accounts (1 + k.layout.workers) k u.thread u.actor d rest z.thread z.actor x
          it.stands.counts
          (record { found = it.stands.same_actor id u it.here; agenda = next.agenda; alive = next.alive })
          (ap (use_of d) finds_found ∙ takes_it) acts uses

      uses_none : (other : ℕ) (z : View) → get_elem? s.views other ≡ some z → UsesField z.actor x → ⊥
      uses_none other z there uses = elim (eqb_tells other id) [
        | inl this ↦
            let mine : z ≡ v = some-injective z v (sym there ∙ (ap (get_elem? s.views) this.1 ∙ here)) in
            free_of u (it.stands.same_actor id u it.here)
            (becomes.uses x (subst (λ (w : View). UsesField w.actor x) mine uses))
        | inr apart ↦ free_of z (it.stands.same_actor other z (set_else s.views id other u apart.1 ∙ there)) uses
      ]

      -- so it is at home.
      pub is_home : IsHome s.views x
      is_home other z there = elim (cases_lt 0 (times_taken x z)) [
        | inl some_times ↦
            absurd (uses_none other z there (holds.fields.used other x z there (omega (arith, some_times))))
        | inr not ↦ omega (arith, not)
      ]

      row_low : x < row_count m.layout
      row_low =
          let relied = relies laws.kept laws.within laws.guarded plan s.words (set s.views id u) id u d rest it in
          let same : k.layout ≡ m.layout = it.stands.layout_is ∙ sym holds.stands.layout_is in
          subst (λ (l : Layout). x < row_count l) same
          (taken_there k.layout u.thread u.actor.head d found x takes_it
          relied.there)

      pub field_home : HoldsHome m s.homes x
      field_home = holds.fields.at_home x row_low is_home

      -- The hand's turning to this duty has not changed it.
      pub field_then : k.memory (Field x) ≡ m.memory (Field x)
      field_then =
          (allowed.first laws plan v u d rest index becomes next s holds id here).fields x
          (inl (is_home id v here))

      module _ (f : ℕ → ℕ)
          (leaves : allowed.LeavesWord laws plan v u d rest index becomes next f)
          (small : slice_index s.words index < 2 ^ 64)
          (lock : (y : ℕ) → u.actor.locked ≡ Some y → locked_by u.actor.locked d found ≡ Some y)
          (locks : (y : ℕ) → locked_by u.actor.locked d found ≡ Some y
          → ((y ≡ x) × (m.memory (Field x) ≡ u.in_field)) ⊎ ((v.actor.locked ≡ Some y)
          × (u.in_field ≡ v.in_field))) where
        -- The rule holds after the step.
        pub stands_now : TableStands plan (set s.words index (f (slice_index s.words index)))
            (set s.homes x home.none)
            (set s.views id (view_by u (d ∷ rest) found))
        stands_now =
            let now =
            allowed.now laws plan v u d rest index becomes next s holds id here f leaves small
            in
            record {
              stands = now.stands;
              fields =
                  fields_taken m now.stands.machine s.homes s.views id v (view_by u (d ∷ rest) found) holds.fields here
                  (allowed.layout_stays laws plan v u d rest index becomes next s holds id
                  here f leaves small) x
                  (ap (taken_after u.taken) takes_it ∙ ap (λ (rows : List ℕ). x ∷ rows) (taken_same becomes)) is_home
                  (used_now u d rest found x takes_it)
                  (λ y uses.
                  used_left u d rest found y next.agenda
                  (λ gives. let wrong : Takes x ≡ Gives y = sym takes_it ∙ gives in absurd cc) (lock y)
                  (becomes.uses y uses)) now.fields locks;
              first =
                  with_duty plan.layout (set s.views id (view_by u (d ∷ rest) found)) id u d rest found
                  (set_view s.views id v (view_by u (d ∷ rest) found) here);
            }

  -- A step is allowed whose duty takes the field whatever it finds.
  pub takes_allows : {T : Type 0} (fields id : ℕ) (me : Me (Option T) View) (f : ℕ → ℕ) (begins : View → View)
      (then : ℕ → Me (Option T) View → Type 0)
      → me.0 ≡ v → begins v ≡ u → (all : (found : ℕ) → use_of d found ≡ Takes x)
      → allowed.LeavesWord laws plan v u d rest index becomes next f
      → ((found : ℕ) (after : Me (Option T) View) → Knows plan.lines u d (read_of u d found)
      → Uses begins me (read_of u d found) after → then found after)
      → Allows (λ (s : State (Option T) View). TableStands plan s.words s.homes s.views) fields id me index f then
  takes_allows {T} fields id me f begins then is_me becomes_is all leaves goes s holds homes here below =
      let mine = here ∙ ap some is_me in
      let word = slice_index s.words index in
      let found_now = read_of u d word in
      let takes_it = all found_now in
      let field = field_home s holds id mine takes_it in
      let w = view_by u (d ∷ rest) found_now in
      let leave_lock = takes_no_lock d x all u.actor.locked found_now in
      let now =
      stands_now s holds id mine takes_it f leaves below (λ y locks. leave_lock ∙ locks)
      (λ y locks.
      let before : v.actor.locked ≡ Some y = sym (locked_same becomes) ∙ (sym leave_lock ∙ locks) in
      inr (before, becomes.in_field y before)) in
      let due : resources field.field ≡ first_due (d ∷ rest) found_now =
      field.holds ∙ (sym (field_then s holds id mine takes_it)
      ∙ (due_known laws.known plan s.words (set s.views id u) id u d rest (it s holds id mine takes_it) x all
      ∙ ap (first_due (d ∷ rest)) (finds_found s holds id mine takes_it))) in
      let is_u : begins me.0 ≡ u = ap begins is_me ∙ becomes_is in
      let after : Me (Option T) View = (w, (x, field.field) ∷ me.1) in (
        w,
        takes x field.field,
        field.there,
        now,
        goes word after
            (allowed.known laws plan v u d rest index becomes next s holds id mine) (
              ap (λ (ds : List Duty). view_by u ds found_now) (sym next.agenda)
                  ∙ ap (λ (z : View). view_by z z.actor.agenda found_now) (sym is_u),
              allowed.rows_now laws plan v u d rest index becomes next s holds id mine f
                  leaves below,
              λ follows.
                  ap (λ (rows : List ℕ). x ∷ rows) (follows ∙
                  (ap (λ (z : View). z.taken) is_me ∙ sym (taken_same becomes)))
                  ∙ sym (ap (taken_after u.taken) takes_it),
              ap (λ (n : ℕ). (x, n) ∷ held_in me.1) due
                  ∙ (sym (ap (λ (w : FieldUse). held_after (held_in me.1) w (first_due (d ∷ rest) found_now)) takes_it)
                  ∙ ap (λ (ds : List Duty). held_after (held_in me.1) (first_use ds found_now) (first_due ds found_now))
                  (sym next.agenda ∙ ap (λ (z : View). z.actor.agenda) (sym is_u))),
            ),
      )
