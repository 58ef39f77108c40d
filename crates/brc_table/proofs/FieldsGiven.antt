-- A hand gives back the field that it took last by its first duty, and the rule holds again.
use Rattle.std.proofs.Common.{◌≡◌, ◌^◌, ℕ, ◌+◌, ◌<◌, true, Option, Some, List, ◌∷◌, cond, set, inl, inr, sym, ap, ◌∙◌, subst}
use Rattle.std.specs.Prelude.{◌==◌, slice_index}
use Rattle.std.proofs.lemmas.Bool.{cases_Bool}
use mathlib.Core.Option as home
use mathlib.Core.Option.{some}
use lib.ListN.{get_elem?}
use Rattle.atomic_table.specs.Table.{State, gives, Me, Allows}
use Rattle.brc_word.specs.Words.{free_word}
use Rattle.brc_model.specs.declared.address.Address.TheVariants.{KindOf, Field}
use Rattle.brc_model.specs.declared.duty.Duty.{Duty}
use Rattle.brc_model.specs.declared.duty.Duty.TheVariants.{LockGate, UnlockGate, BirthLocal, SettleEnd}
use Rattle.brc_model.specs.declared.layout.Layout.{Layout}
use Rattle.brc_model.specs.Layout.{row_count}
use Rattle.brc_model.specs.Duties.{address_of, resources_of}
use Rattle.brc_model.specs.Machine.{Machine}
use Rattle.brc_model.specs.Within.{IsThere}
use Rattle.brc_model.specs.FieldLaws.{FieldUse, Stays, Takes, Gives, use_of, Unlocks, FieldsAreKnown}
use Rattle.brc_table.specs.ModelLaws.{ModelLaws}
use Rattle.brc_table.specs.declared.view.View.{View}
use Rattle.brc_table.specs.Views.{view_by, behind_first, taken_after}
use Rattle.brc_table.specs.KnownWords.{knows_kind}
use Rattle.brc_model.specs.Knowledge.{HeadOf}
use Rattle.brc_table.specs.Plan.{Plan}
use Rattle.brc_table.specs.Homes.{resources, rows_of, held_in, TableStands}
use Rattle.brc_table.specs.Begins.{Becomes}
use Rattle.brc_table.specs.Uses.{FirstField, IsDue, first_use, first_due, held_after, Uses}
use Rattle.brc_table.proofs.Lists.{set_view}
use Rattle.brc_table.proofs.FirstHand.{with_duty}
use Rattle.brc_table.proofs.Changing.{taken_same, locked_same}
use Rattle.brc_table.proofs.Stepping.{Does, read_of, relies}
use Rattle.brc_table.proofs.FieldLists.{last_of}
use Rattle.brc_table.proofs.FieldsKept.{fields_given}
use Rattle.brc_table.proofs.FieldsUsed.{used_left}
use Rattle.brc_table.proofs.Allowed as allowed
use Rattle.brc_table.proofs.Allowed.{Knows, IsNextAt}

-- ---- duties that give a field back

gives_row : (x y : ℕ) → Gives y ≡ Gives x → y ≡ x
gives_row x y is = cc

given_there : (layout : Layout) (t head : ℕ) (d : Duty) (found x : ℕ) → use_of d found ≡ Gives x
    → IsThere layout (address_of layout t head d) → x < row_count layout
given_there layout t head (LockGate y) found x is there = elim (cases_Bool (found == free_word)) [
  | inl free ↦
      absurd (let wrong : Takes y ≡ Gives x = sym (ap (λ b. cond b (Takes y) Stays) free) ∙ is in cc)
  | inr other ↦
      absurd (let wrong : Stays ≡ Gives x = sym (ap (λ b. cond b (Takes y) Stays) other) ∙ is in cc)
]
given_there layout t head (UnlockGate y) found x is there =
    subst (λ (z : ℕ). z < row_count layout) (gives_row x y is) there
given_there layout t head (BirthLocal y h) found x is there =
    subst (λ (z : ℕ). z < row_count layout) (gives_row x y is) there
given_there layout t head (SettleEnd y) found x is there =
    subst (λ (z : ℕ). z < row_count layout) (gives_row x y is) there
given_there layout t head _ found x is there = absurd cc

-- What is due is what the machine says that the field holds, after the hand has turned to the duty.
due_is : FieldsAreKnown → (plan : Plan) (words : List ℕ) (views : List View) (id : ℕ) (v u : View) (d : Duty)
    (rest : List Duty) (does : Does plan words views id u d rest) (found x n : ℕ) → use_of d found ≡ Gives x
    → v.actor.locked ≡ u.actor.locked → ((y : ℕ) → v.actor.locked ≡ Some y → u.in_field ≡ v.in_field)
    → ((y : ℕ) → v.actor.locked ≡ Some y → does.stands.machine.memory (Field y) ≡ v.in_field)
    → IsDue u (d ∷ rest) n → n ≡ does.stands.machine.memory (Field x)
due_is law plan words views id v u (LockGate y) rest does found x n is same in_field locked due = absurd due
due_is law plan words views id v u (UnlockGate y) rest does found x n is same in_field locked due =
    let s = does.stands in
    let fits = (s.counts.kept.core.each u.thread u.actor (s.same_actor id u does.here)).0.head_fits in
    let head = subst (HeadOf s.machine u.thread u.actor) does.agenda fits in
    let mine : v.actor.locked ≡ Some x = same ∙ (head.1 ∙ ap Some (gives_row x y is)) in
    due ∙ (in_field x mine ∙ sym (locked x mine))
due_is law plan words views id v u (BirthLocal y h) rest does found x n is same in_field locked due =
    let s = does.stands in
    let filled =
    law.born s.accounts (1 + s.machine.layout.workers) s.machine u.thread u.actor y h rest s.counts
    (record { found = s.same_actor id u does.here; agenda = does.agenda; alive = does.alive }) in
    let row = gives_row x y is in
    let seen : s.machine.memory (KindOf x) ≡ due.0 =
    s.kinds_seen id x due.0 u does.here due.1 (subst (λ (z : ℕ). knows_kind z due.0 u ≡ true) row due.2) in
    due.3 ∙ (ap resources_of (sym seen ∙ ap (λ (z : ℕ). s.machine.memory (KindOf z)) (sym row))
    ∙ (sym filled ∙ ap (λ (z : ℕ). s.machine.memory (Field z)) row))
due_is law plan words views id v u (SettleEnd y) rest does found x n is same in_field locked due =
    let s = does.stands in
    let none =
    law.closing s.accounts (1 + s.machine.layout.workers) s.machine u.thread u.actor y rest s.counts
    (record { found = s.same_actor id u does.here; agenda = does.agenda; alive = does.alive }) in
    due ∙ (sym none ∙ ap (λ (z : ℕ). s.machine.memory (Field z)) (gives_row x y is))
due_is law plan words views id v u _ rest does found x n is same in_field locked due = absurd due

-- ---- the step

module _ (laws : ModelLaws)
    (plan : Plan) (v u : View) (d : Duty) (rest : List Duty) (index : ℕ) (becomes : Becomes plan v u)
    (next : IsNextAt u d rest index) (x : ℕ) where
  module _ {T : Type 0} (s : State (Option T) View) (holds : TableStands plan s.words s.homes s.views) (id : ℕ)
      (here : get_elem? s.views id ≡ some v) (gives_it : use_of d (read_of u d (slice_index s.words index)) ≡ Gives x)
      (rows : List ℕ) (taken : v.taken ≡ x ∷ rows) (field : Option T) (due : IsDue u (d ∷ rest) (resources field)) where
    abbrev it : Does plan s.words (set s.views id u) id u d rest
    it = allowed.does laws plan v u d rest index becomes next s holds id here

    abbrev m : Machine
    m = holds.stands.machine

    abbrev k : Machine
    k = it.stands.machine

    abbrev found : ℕ
    found = read_of u d (slice_index s.words index)

    -- What becomes of the hand's lock.
    lock : Unlocks u.actor d found x
    lock =
        laws.unlocked it.stands.accounts (1 + k.layout.workers) k u.thread u.actor d rest found x it.stands.counts
        (record { found = it.stands.same_actor id u it.here; agenda = next.agenda; alive = next.alive }) gives_it

    row_low : x < row_count m.layout
    row_low =
        let relied = relies laws.kept laws.within laws.guarded plan s.words (set s.views id u) id u d rest it in
        let same : k.layout ≡ m.layout = it.stands.layout_is ∙ sym holds.stands.layout_is in
        subst (λ (l : Layout). x < row_count l) same
        (given_there k.layout u.thread u.actor.head d found x gives_it
        relied.there)

    -- What the field holds is what the machine says.
    holds_due : resources field ≡ k.memory (Field x)
    holds_due =
        let first = allowed.first laws plan v u d rest index becomes next s holds id here
        in
        due_is laws.known plan s.words (set s.views id u) id v u d rest it found x (resources field) gives_it
        (sym (locked_same becomes)) becomes.in_field
        (λ y locks. first.fields y (inr locks) ∙ (holds.fields.locked id y v here locks).1) due

    module _ (f : ℕ → ℕ)
        (leaves : allowed.LeavesWord laws plan v u d rest index becomes next f)
        (small : slice_index s.words index < 2 ^ 64) where
      -- The rule holds after the step.
      pub stands_now : TableStands plan (set s.words index (f (slice_index s.words index)))
          (set s.homes x (home.some field)) (set s.views id (view_by u (d ∷ rest) found))
      stands_now =
          let now =
          allowed.now laws plan v u d rest index becomes next s holds id here f leaves small in
          let stays =
          allowed.fields_stay laws plan v u d rest index becomes next s holds id here f
          leaves small in
          record {
            stands = now.stands;
            fields =
                fields_given m now.stands.machine s.homes s.views id v (view_by u (d ∷ rest) found) holds.fields here
                (allowed.layout_stays laws plan v u d rest index becomes next s holds id
                here f leaves small) x rows taken
                (ap (taken_after u.taken) gives_it ∙ ap behind_first ((taken_same becomes) ∙ taken)) field row_low
                (holds_due ∙ sym (stays x))
                (λ y apart uses.
                used_left u d rest found y next.agenda
                (λ same. apart (sym (gives_row y x (sym gives_it ∙ same))))
                (λ locks. lock.kept y apart locks) (becomes.uses y uses)) now.fields
                (λ y locks.
                let before = lock.left y locks in
                let mine : v.actor.locked ≡ Some y = sym (locked_same becomes) ∙ before.1 in
                (before.0, mine, becomes.in_field y mine));
            first =
                with_duty plan.layout (set s.views id (view_by u (d ∷ rest) found)) id u d rest found
                (set_view s.views id v (view_by u (d ∷ rest) found) here);
          }

  -- A step is allowed whose duty gives the field back, if it holds what is due.
  given_allows : {T : Type 0} (fields id : ℕ) (seat : View) (field : Option T) (ps : List (ℕ × Option T)) (f : ℕ → ℕ)
      (begins : View → View) (then : ℕ → Me (Option T) View → Type 0)
      → seat ≡ v → begins v ≡ u → x ∷ rows_of ps ≡ v.taken → IsDue u (d ∷ rest) (resources field)
      → (all : (found : ℕ) → use_of d found ≡ Gives x)
      → allowed.LeavesWord laws plan v u d rest index becomes next f
      → ((found : ℕ) (after : Me (Option T) View) → Knows plan.lines u d (read_of u d found)
      → Uses begins (seat, (x, field) ∷ ps) (read_of u d found) after → then found after)
      → Allows (λ (s : State (Option T) View). TableStands plan s.words s.homes s.views) fields id
      (seat, (x, field) ∷ ps) index f then
  given_allows fields id seat field ps f begins then is_me becomes_is follows due all leaves goes s holds homes here
      below =
      let mine = here ∙ ap some is_me in
      let word = slice_index s.words index in
      let found_now = read_of u d word in
      let gives_it = all found_now in
      let w = view_by u (d ∷ rest) found_now in
      let now = stands_now s holds id mine gives_it (rows_of ps) (sym follows) field due f leaves below in
      let is_u : begins seat ≡ u = ap begins is_me ∙ becomes_is in (
        w,
        gives,
        tt,
        now,
        goes word (w, ps)
            (allowed.known laws plan v u d rest index becomes next s holds id mine) (
              ap (λ (ds : List Duty). view_by u ds found_now) (sym next.agenda)
                  ∙ ap (λ (z : View). view_by z z.actor.agenda found_now) (sym is_u),
              allowed.rows_now laws plan v u d rest index becomes next s holds id mine f
                  leaves below,
              λ same.
                  ap behind_first (follows ∙ sym (taken_same becomes)) ∙ sym (ap (taken_after u.taken) gives_it),
              sym (ap (λ (z : FieldUse). held_after ((x, resources field) ∷ held_in ps) z
                  (first_due (d ∷ rest) found_now)) gives_it)
                  ∙ ap (λ (ds : List Duty). held_after ((x, resources field) ∷ held_in ps) (first_use ds found_now)
                  (first_due ds found_now))
                  (sym next.agenda ∙ ap (λ (z : View). z.actor.agenda) (sym is_u)),
            ),
      )

  pub gives_allows : {T : Type 0} (fields id n : ℕ) (me : Me (Option T) View) (f : ℕ → ℕ) (begins : View → View)
      (then : ℕ → Me (Option T) View → Type 0)
      → me.0 ≡ v → begins v ≡ u → rows_of me.1 ≡ v.taken → FirstField (held_in me.1) x n → IsDue u (d ∷ rest) n
      → (all : (found : ℕ) → use_of d found ≡ Gives x)
      → allowed.LeavesWord laws plan v u d rest index becomes next f
      → ((found : ℕ) (after : Me (Option T) View) → Knows plan.lines u d (read_of u d found)
      → Uses begins me (read_of u d found) after → then found after)
      → Allows (λ (s : State (Option T) View). TableStands plan s.words s.homes s.views) fields id me index f then
  gives_allows {T} fields id n me f begins then is_me becomes_is follows first due all leaves goes =
      let l = last_of me.1 x n first in
      let whole : me ≡ (me.0, (x, l.field) ∷ l.ps) = ap (λ (c : List (ℕ × Option T)). (me.0, c)) l.is in
      subst (λ (it : Me (Option T) View).
      Allows (λ (s : State (Option T) View). TableStands plan s.words s.homes s.views) fields id it index f then)
      (sym whole)
      (given_allows fields id me.0 l.field l.ps f begins then is_me becomes_is (sym (ap rows_of l.is) ∙ follows)
      (subst (IsDue u (d ∷ rest)) (sym l.count) due) all leaves
      (λ found after knows uses.
      goes found after knows (subst (λ (it : Me (Option T) View). Uses begins it (read_of u d found) after) (sym whole)
      uses)))
