-- A hand does a duty about a field or a resource, which changes no word of the table: a new object's resource goes into
-- its field, or a dying object's one is taken out and closed. The hand has the field meanwhile.
use Rattle.std.proofs.Common.{◌≡◌, ◌≢◌, ◌⊎◌, ℕ, zero, suc, ◌+◌, ◌≤◌, Bool, true, cond, Some, List, [], ◌∷◌, set, inl, inr, refl, sym, ap, ◌∙◌, subst, arith}
use Rattle.std.specs.Prelude.{◌==◌, ◌||◌}
use Rattle.std.specs.List.{list_any}
use Rattle.std.proofs.lemmas.Bool.{eq-eqb, ne_eqb, cases_Bool}
use mathlib.Core.Option.{some}
use lib.ListN.{get_elem?}
use Rattle.brc_model.specs.declared.address.Address.{Address}
use Rattle.brc_model.specs.declared.address.Address.TheVariants.{Local, Shared, Gate, KindOf, Marks, Cell, Field, Resource, ThreadWord}
use Rattle.brc_model.specs.declared.actor.Status.TheVariants.{Gone}
use Rattle.brc_model.specs.declared.duty.Holding.{Holding}
use Rattle.brc_model.specs.declared.duty.Duty.{Duty}
use Rattle.brc_model.specs.declared.duty.Duty.TheVariants.{Settle, BirthField, BirthLocal, Scan, TakeFound, TakeField, CloseResource, SettleEnd}
use Rattle.brc_model.specs.declared.layout.Layout.{Layout}
use Rattle.brc_model.specs.Duties.{address_of, new_word, continuation, ready}
use Rattle.brc_model.specs.declared.actor.Actor.{Actor}
use Rattle.brc_model.specs.Machine.{Machine, Life, written, is_running, life_by, actor_by, machine_by_duty}
use Rattle.brc_model.specs.CountingLaws.{ComesNext, DutiesAreKept}
use Rattle.brc_model.specs.FieldLaws.{needs_field, UsesField, NeededFieldsAreUnlocked}
use Rattle.brc_table.specs.Plan.{Plan}
use Rattle.brc_table.specs.declared.view.View.{View}
use Rattle.brc_table.specs.Places.{HasWord}
use Rattle.brc_table.specs.Views.{field_filled_by, field_emptied_by, with_next}
use Rattle.brc_table.specs.Homes.{times_in}
use Rattle.brc_table.specs.Rule.{Guards, Stands}
use Rattle.brc_table.specs.Begins.{Passes, Becomes}
use Rattle.brc_table.specs.Calls.{OwnsFirst, ClosesRow}
use Rattle.brc_table.proofs.Passing.{becomes_then}
use Rattle.brc_table.proofs.FieldsUsed.{or_true}
use Rattle.brc_table.proofs.Changing.{guards_before, passes, itself_becomes}
use Rattle.brc_table.proofs.ThreadsKept.{threads_same}

-- ---- duties about fields and resources

-- The address is the row's field or its resource.
data IsSilent (x : ℕ) : Address → Type 0 where
  AtField : IsSilent x (Field x)
  AtResource : IsSilent x (Resource x)

-- A word that is written there is no word of the table,
away : (x : ℕ) (a : Address) → IsSilent x a → (memory : Address → ℕ) (word : ℕ) (layout : Layout) (b : Address)
    → HasWord layout b → written memory a word b ≡ memory b
away x _ AtField memory word layout (Local y) has = refl
away x _ AtField memory word layout (Shared y) has = refl
away x _ AtField memory word layout (Gate y) has = refl
away x _ AtField memory word layout (KindOf y) has = refl
away x _ AtField memory word layout (Marks t w) has = refl
away x _ AtField memory word layout (Cell y i) has = refl
away x _ AtField memory word layout (Field y) has = absurd has
away x _ AtField memory word layout (Resource y) has = absurd has
away x _ AtField memory word layout (ThreadWord t) has = refl
away x _ AtResource memory word layout (Local y) has = refl
away x _ AtResource memory word layout (Shared y) has = refl
away x _ AtResource memory word layout (Gate y) has = refl
away x _ AtResource memory word layout (KindOf y) has = refl
away x _ AtResource memory word layout (Marks t w) has = refl
away x _ AtResource memory word layout (Cell y i) has = refl
away x _ AtResource memory word layout (Field y) has = absurd has
away x _ AtResource memory word layout (Resource y) has = absurd has
away x _ AtResource memory word layout (ThreadWord t) has = refl

-- no kind word, no cell,
kind_away : (x : ℕ) (a : Address) → IsSilent x a → (memory : Address → ℕ) (word y : ℕ)
    → written memory a word (KindOf y) ≡ memory (KindOf y)
kind_away x _ AtField memory word y = refl
kind_away x _ AtResource memory word y = refl

cell_away : (x : ℕ) (a : Address) → IsSilent x a → (memory : Address → ℕ) (word y i : ℕ)
    → written memory a word (Cell y i) ≡ memory (Cell y i)
cell_away x _ AtField memory word y i = refl
cell_away x _ AtResource memory word y i = refl

-- no gate,
gate_away : (x : ℕ) (a : Address) → IsSilent x a → (memory : Address → ℕ) (word y : ℕ)
    → written memory a word (Gate y) ≡ memory (Gate y)
gate_away x _ AtField memory word y = refl
gate_away x _ AtResource memory word y = refl

-- and no other row's field.
field_apart : (x : ℕ) (a : Address) → IsSilent x a → (memory : Address → ℕ) (word y : ℕ) → y ≢ x
    → written memory a word (Field y) ≡ memory (Field y)
field_apart x _ AtField memory word y apart =
    ap (λ (b : Bool). cond b word (memory (Field y))) (ne_eqb x y (λ e. apart (sym e)))
field_apart x _ AtResource memory word y apart = refl

-- The duty is about the row's field or resource, and another one takes its place. It changes nothing else of its
-- thread.
record Silent (x : ℕ) (d next : Duty) : Type 0 where
  at : (layout : Layout) (t head : ℕ) → IsSilent x (address_of layout t head d)
  needs : needs_field x d ≡ true
  on : (y : ℕ) → needs_field y d ≡ true → needs_field y next ≡ true
  lives : (life : ℕ → Life) (layout : Layout) (t : ℕ) (running : Bool) (head found y : ℕ)
      → life_by life t d (continuation layout t running head d found) y ≡ life y
  actor : (layout : Layout) (t found : ℕ) (v : View) (rest : List Duty)
      → actor_by layout t v.actor d rest found ≡ (with_next v (next ∷ rest)).actor

-- A duty that needs a field is never skipped.
ready_silent : (x head : ℕ) (d : Duty) (rest : List Duty) → needs_field x d ≡ true → ready head (d ∷ rest) ≡ d ∷ rest
ready_silent x zero Settle rest needs = absurd cc
ready_silent x zero (Scan i n) rest needs = absurd cc
ready_silent x (suc head) (Scan i n) rest needs = absurd cc
ready_silent x zero (TakeFound w marks) rest needs = absurd cc
ready_silent x (suc head) (TakeFound w marks) rest needs = absurd cc
ready_silent x zero _ rest needs = refl
ready_silent x (suc head) _ rest needs = refl

same_row : (x : ℕ) → (x == x) ≡ true
same_row x = eq-eqb x x refl

birth_silent : (x : ℕ) (h : Holding) → Silent x (BirthField x h) (BirthLocal x h)
birth_silent x h = record {
  at = λ layout t head. AtField;
  needs = same_row x;
  on = λ y is. is;
  lives = λ life layout t running head found y. refl;
  actor = λ layout t found v rest.
      ap (λ (ds : List Duty). (with_next v ds).actor) (ready_silent x v.actor.head (BirthLocal x h) rest (same_row x));
}

take_silent : (x : ℕ) → Silent x (TakeField x) (CloseResource x)
take_silent x = record {
  at = λ layout t head. AtField;
  needs = same_row x;
  on = λ y is. is;
  lives = λ life layout t running head found y. refl;
  actor = λ layout t found v rest.
      ap (λ (ds : List Duty). (with_next v ds).actor) (ready_silent x v.actor.head (CloseResource x) rest (same_row x));
}

close_silent : (x : ℕ) → Silent x (CloseResource x) (SettleEnd x)
close_silent x = record {
  at = λ layout t head. AtResource;
  needs = same_row x;
  on = λ y is. is;
  lives = λ life layout t running head found y. refl;
  actor = λ layout t found v rest.
      ap (λ (ds : List Duty). (with_next v ds).actor) (ready_silent x v.actor.head (SettleEnd x) rest (same_row x));
}

-- ---- the change

module _ (kept : DutiesAreKept) (unlocked : NeededFieldsAreUnlocked) (plan : Plan) (x : ℕ) where
  module _ (v : View) (d next : Duty) (rest : List Duty) (silent : Silent x d next) (agenda : v.actor.agenda ≡ d ∷ rest)
      (alive : v.actor.status ≢ Gone) (taken : 1 ≤ times_in x v.taken) where
    abbrev u : View
    u = with_next v (next ∷ rest)

    keeps_used : (y : ℕ) → UsesField v.actor y → UsesField u.actor y
    keeps_used y (inl locks) = inl locks
    keeps_used y (inr needs) =
        let first : (needs_field y d || list_any (needs_field y) rest) ≡ true =
        sym (ap (list_any (needs_field y)) agenda) ∙ needs in
        elim (cases_Bool (needs_field y d)) [
          | inl this ↦ inr (ap (λ (b : Bool). b || list_any (needs_field y) rest) (silent.on y this))
          | inr other ↦
              let later : list_any (needs_field y) rest ≡ true =
              sym (ap (λ (b : Bool). b || list_any (needs_field y) rest) other) ∙ first in
              inr (ap (λ (b : Bool). needs_field y next || b) later ∙ or_true (needs_field y next))
        ]

    module _ (words : List ℕ) (views : List View) (id : ℕ) (s : Stands plan words views)
        (here : get_elem? views id ≡ some v) where
      abbrev m : Machine
      m = s.machine

      abbrev t : ℕ
      t = v.thread

      abbrev a : Actor
      a = v.actor

      comes : ComesNext m t a d rest
      comes = record { found = s.same_actor id v here; agenda = agenda; alive = alive }

      abbrev address : Address
      address = address_of m.layout t a.head d

      -- The row is not the one that the hand has locked, and its field is with the hand.
      other_row : (y : ℕ) → (times_in y v.taken ≡ 0) ⊎ (v.actor.locked ≡ Some y) → y ≢ x
      other_row y (inl none) same = omega (arith, none, taken, ap (λ (z : ℕ). times_in z v.taken) same)
      other_row y (inr locks) same =
          unlocked s.accounts (1 + m.layout.workers) m t a d rest x s.counts comes silent.needs (locks ∙ ap Some same)

      -- Each row lives as before.
      still : (y : ℕ) → (machine_by_duty m t a d rest).life y ≡ m.life y
      still y = silent.lives m.life m.layout t (is_running v.actor.status) v.actor.head (m.memory address) y

      guards_of : {y : ℕ} → Guards (machine_by_duty m t a d rest) u y → Guards (machine_by_duty m t a d rest) v y
      guards_of (inl locked) = inl locked
      guards_of (inr chained) = inr chained

      passed : Passes plan words (set views id u) v.taken v.actor.locked m
      passed =
          let at = silent.at m.layout t a.head in
          let word = new_word m.layout t a.head d (m.memory address) in
          passes plan words views id v u s here words (record {
            accounts = s.accounts;
            machine = machine_by_duty m t a d rest;
            counts = (kept s.accounts (1 + m.layout.workers) m t a d rest s.counts comes).1;
            layout_same = refl;
            length_is = refl;
            reads = λ b has. away x address at m.memory word m.layout b has ∙ s.reads b has;
            actors =
                ap (set m.actors t) (silent.actor m.layout t (m.memory address) v rest);
            thread_same = refl;
            told_same = refl;
            given_more = λ k is. is;
            gone_stays = λ gone. (gone, refl);
            lends_none = s.lends_none id v here;
            joined_here = s.joined id v here;
            holding = λ y counted. s.holding id v y here counted;
            others = λ k apart. refl;
            no_variables = s.no_variables;
            kinds_stay = λ y w more is. kind_away x address at m.memory word y ∙ is;
            cells_stay = λ other y w apart is guards. (
              guards_before m (machine_by_duty m t a d rest) w y (still y) (gate_away x address at m.memory word y)
                  guards,
              λ i. cell_away x address at m.memory word y i,
            );
            kinds_here = λ y w more seen.
                kind_away x address at m.memory word y ∙ s.kinds_seen id y w v here more seen;
            cells_here = λ y i w guards seen.
                cell_away x address at m.memory word y i
                ∙ s.cells_seen id y i w v here
                (guards_before m (machine_by_duty m t a d rest) v y (still y) (gate_away x address at m.memory word y)
                (guards_of guards)) seen;
            threads = λ i there. threads_same plan words views i v u s there refl refl refl;
          }) v.taken v.actor.locked
          (λ y which. field_apart x address at m.memory word y (other_row y which))

    silent_becomes : Becomes plan v u
    silent_becomes = record {
      passes = passed;
      same = refl;
      in_field = λ y locks. refl;
      uses = keeps_used;
    }

  -- A hand that gives birth to an object puts its resource into its field.
  pub filled_becomes : (v : View) (ds : List Duty) → v.actor.agenda ≡ ds → OwnsFirst x ds → v.actor.status ≢ Gone
      → 1 ≤ times_in x v.taken → Becomes plan v (field_filled_by ds v)
  filled_becomes v (BirthField y h ∷ []) is same alive taken =
      let is_x : v.actor.agenda ≡ BirthField x h ∷ [] = is ∙ ap (λ (z : ℕ). BirthField z h ∷ []) same in
      subst (λ (z : ℕ). Becomes plan v (with_next v (BirthLocal z h ∷ []))) (sym same)
      (silent_becomes v (BirthField x h) (BirthLocal x h) [] (birth_silent x h) is_x alive taken)
  filled_becomes v (BirthLocal y h ∷ []) is same alive taken = itself_becomes plan v
  filled_becomes v _ is same alive taken = absurd same

  -- A hand that deallocates an object takes its resource out, and the host closes it.
  pub emptied_becomes : (v : View) (ds : List Duty) → v.actor.agenda ≡ ds → ClosesRow x ds → v.actor.status ≢ Gone
      → 1 ≤ times_in x v.taken → Becomes plan v (field_emptied_by ds v)
  emptied_becomes v (TakeField y ∷ rest) is same alive taken =
      let is_x : v.actor.agenda ≡ TakeField x ∷ rest = is ∙ ap (λ (z : ℕ). TakeField z ∷ rest) same in
      let w : View = with_next v (CloseResource x ∷ rest) in
      subst (λ (z : ℕ). Becomes plan v (with_next v (SettleEnd z ∷ rest))) (sym same)
      (becomes_then plan v w (with_next v (SettleEnd x ∷ rest))
      (silent_becomes v (TakeField x) (CloseResource x) rest (take_silent x) is_x alive taken)
      (silent_becomes w (CloseResource x) (SettleEnd x) rest (close_silent x) refl alive taken))
  emptied_becomes v (SettleEnd y ∷ rest) is same alive taken = itself_becomes plan v
  emptied_becomes v _ is same alive taken = absurd same

-- ---- what stays

pub filled_alive : (v : View) (x : ℕ) (ds : List Duty) → OwnsFirst x ds → v.actor.status ≢ Gone
    → (field_filled_by ds v).actor.status ≢ Gone
filled_alive v x (BirthField y h ∷ []) same alive = alive
filled_alive v x (BirthLocal y h ∷ []) same alive = alive
filled_alive v x _ same alive = absurd same

pub emptied_alive : (v : View) (x : ℕ) (ds : List Duty) → ClosesRow x ds → v.actor.status ≢ Gone
    → (field_emptied_by ds v).actor.status ≢ Gone
emptied_alive v x (TakeField y ∷ rest) same alive = alive
emptied_alive v x (SettleEnd y ∷ rest) same alive = alive
emptied_alive v x _ same alive = absurd same
