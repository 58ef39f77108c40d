-- Hands stay ready to retain and release the root.
use Rattle.std.proofs.Common.{◌≡◌, ◌≢◌, ◌≤◌, ◌<◌, ℕ, ◌+◌, Bool, true, false, List, [], ◌∷◌, ◌++◌, length, Option, None, Some, inl, inr, refl, sym, ap, ◌∙◌, subst, arith}
use Rattle.std.specs.Prelude.{◌==◌, ◌⊎◌, not, cond, count_by, slice_index_or, if◌then◌else◌, OnSome}
use Rattle.std.proofs.lemmas.Bool.{cases_Bool, eq-eqb}
use Rattle.std.proofs.lemmas.List.Sums.{sum_by-cons}
use Rattle.brc_model.specs.declared.actor.Status.TheVariants.{Running, Gone}
use Rattle.brc_model.specs.declared.duty.Duty.{Duty}
use Rattle.brc_model.specs.declared.layout.Layout.{Layout}
use Rattle.brc_model.specs.Layout.{root_row, is_immortal_row}
use Rattle.brc_table.specs.declared.view.View.{View}
use Rattle.brc_table.specs.Views.{holds, work_about, open_work, with_reference, without_reference, without_one, next_row}
use Rattle.brc_model.specs.OpenWork.{is_about}
use Rattle.std.specs.List.{filter}
use Rattle.brc_table.specs.Hands.{TableState, HandState, IsOf, IsRunning, HoldsOne, Borrows, KeepsLock, MayWait, carried_place, CarriesNothing, most_references}
use Rattle.brc_table.specs.Calls.{CanAct}
use Rattle.brc_heap.specs.Calls.{Leaves, HasBorn}
use Rattle.brc_heap.proofs.Leaving.{leaves_then}
use Rattle.brc_heap.proofs.Borrowing.{borrows_still}
use Rattle.brc_fixtures.specs.Resting.{IsAlone}
use Rattle.brc_fixtures.proofs.Alone.{alone_work}
use Rattle.brc_heap_tests.specs.Ready.{IsReady, IsReadyAt, IsResting}

-- What follows from a fact holds where the fact does.
pub on_some : {A P Q : Type 0} (o : Option A) → (P → Q) → OnSome o P → OnSome o Q
on_some None follows fact = fact
on_some (Some x) follows fact = follows fact

-- What two calls about the same row leave.
pub both_leave : {x : ℕ} {left next : List Duty} {v u w : View} → Leaves x left v u → Leaves x next u w
    → Leaves x next v w
both_leave {x} {left} {next} {v} {u} {w} one two = leaves_then x left next v u w one two

-- A hand that runs after a call can act.
pub still_acts : {x : ℕ} {left : List Duty} {v u : View} → IsRunning v → Leaves x left v u → CanAct u
still_acts running leaves =
    ((λ gone. absurd (let e : Running ≡ Gone = sym (leaves.keeps.status ∙ running.0) ∙ gone in cc)), leaves.waits)

-- A hand that has locked nothing may give up any reference.
pub unlocked_keeps : (v : View) (x : ℕ) → v.actor.locked ≡ None → KeepsLock v x
unlocked_keeps v x none = λ e. absurd (let wrong : None ≡ Some x = sym none ∙ e in cc)

-- A hand that can act still can after a call.
pub acts_still : {x : ℕ} {left : List Duty} {v u : View} → CanAct v → Leaves x left v u → CanAct u
acts_still acts leaves = ((λ gone. acts.0 (sym leaves.keeps.status ∙ gone)), leaves.waits)

-- A hand that carries nothing carries nothing after a call that leaves what it carries.
pub carries_still : (before after : HandState) → after.carried ≡ before.carried
    → after.view.layout ≡ before.view.layout → CarriesNothing before → CarriesNothing after
carries_still before after same layout none x =
    ap (λ (counts : List (Option ℕ)). slice_index_or counts (carried_place after.view.layout x) None) same
    ∙ (ap (λ (l : Layout). slice_index_or before.carried (carried_place l x) None) layout ∙ none x)

-- A running hand still runs after a call.
pub still_runs : {x : ℕ} {left : List Duty} {v u : View} → IsRunning v → Leaves x left v u → IsRunning u
still_runs running leaves = (leaves.keeps.status ∙ running.0, leaves.waits)

-- With one more reference to the root, a hand holds the root, immortal or not.
held_by : (immortal : Bool) (rows : List ℕ)
    → (immortal ≡ true) ⊎ (1 ≤ count_by (λ y. y == root_row) (if immortal then rows else root_row ∷ rows))
held_by true rows = inl refl
held_by false rows =
    let more : count_by (λ y. y == root_row) (root_row ∷ rows) ≡ 1 + count_by (λ y. y == root_row) rows =
    sum_by-cons (λ (y : ℕ). cond (y == root_row) 1 0) root_row rows in
    let held : 1 ≤ count_by (λ y. y == root_row) (root_row ∷ rows) = omega (arith, more) in inr held

-- A hand that has retained the root holds it.
pub holds_root : (v u : View) → u.layout ≡ v.layout
    → u.references ≡ with_reference v.layout root_row v.references → HoldsOne u root_row
holds_root v u same is =
    subst (λ (rows : List ℕ). (is_immortal_row u.layout root_row ≡ true) ⊎ (1 ≤ count_by (λ y. y == root_row) rows))
    (sym is)
    (subst (λ (l : Layout). (is_immortal_row l root_row ≡ true)
    ⊎ (1 ≤ count_by (λ y. y == root_row) (with_reference v.layout root_row v.references))) (sym same)
    (held_by (is_immortal_row v.layout root_row) v.references))

-- To retain the root and release it changes no reference, immortal or not.
back_by : (immortal : Bool) (rows : List ℕ)
    → (if immortal then (if immortal then rows else root_row ∷ rows)
    else without_one root_row (if immortal then rows else root_row ∷ rows)) ≡ rows
back_by true rows = refl
back_by false rows = refl

-- A hand that has retained the root and released it holds what it held before.
pub holds_again : (v u w : View) → u.layout ≡ v.layout
    → u.references ≡ with_reference v.layout root_row v.references
    → w.references ≡ without_reference u.layout root_row u.references → w.references ≡ v.references
holds_again v u w same is after =
    after
    ∙ (ap (λ (rows : List ℕ). without_reference u.layout root_row rows) is
    ∙ (ap (λ (l : Layout). without_reference l root_row (with_reference v.layout root_row v.references)) same
    ∙ back_by (is_immortal_row v.layout root_row) v.references))

-- A hand that has nothing left to do about the root, and holds what it held before, is ready again.
pub ready_again : {heap : TableState} {before after : HandState} → IsReady heap before → IsOf heap after
    → Leaves root_row [] before.view after.view → after.view.references ≡ before.view.references
    → IsReady heap after
ready_again ready table leaves same = record {
  table = table;
  running = still_runs ready.running leaves;
  held = subst (λ (rows : List ℕ). 1 ≤ count_by (λ y. y == root_row) rows) (sym same) ready.held;
  idle = leaves.left_is;
  few = subst (λ (rows : List ℕ). length rows < most_references) (sym same) ready.few;
  unlocked = leaves.keeps.locked ∙ ready.unlocked;
}

-- ---- one reference, to the root

-- A hand with one reference, to the root, and no work is ready to retain and release the root,
pub ready_alone : {heap : TableState} {hand : HandState} → IsAlone heap hand → IsReady heap hand
ready_alone {heap} {hand} alone = record {
  table = alone.table;
  running = (alone.status, subst MayWait (sym alone.agenda) tt);
  held =
      let one : 1 ≤ count_by (λ y. y == root_row) (root_row ∷ []) = omega arith in
      subst (λ (rows : List ℕ). 1 ≤ count_by (λ y. y == root_row) rows) (sym alone.references) one;
  idle = ap (filter (is_about root_row)) (alone_work alone);
  few =
      let one : length (root_row ∷ []) < most_references = omega arith in
      subst (λ (rows : List ℕ). length rows < most_references) (sym alone.references) one;
  unlocked = alone.unlocked;
}

-- rests,
pub resting_alone : {heap : TableState} {hand : HandState} → IsAlone heap hand → IsResting heap hand None
resting_alone alone = record {
  table = alone.table;
  running = (ready_alone alone).running;
  held = (ready_alone alone).held;
  rests = alone_work alone;
  locked_is = alone.unlocked;
  returned = tt;
}

-- and is as before after a call that leaves nothing to do, and the same references.
pub alone_again : {heap : TableState} {before after : HandState} {x : ℕ} → IsAlone heap before → IsOf heap after
    → Leaves x [] before.view after.view → after.view.references ≡ before.view.references → IsAlone heap after
alone_again {heap} {before} {after} {x} alone table leaves same = record {
  table = table;
  status = leaves.keeps.status ∙ alone.status;
  agenda = leaves.agenda;
  aside = leaves.keeps.aside ∙ ap (filter (λ (d : Duty). not (is_about x d))) (alone_work alone);
  references = same ∙ alone.references;
  unlocked = leaves.keeps.locked ∙ alone.unlocked;
  no_lists = alone.no_lists;
}

-- Work about another row is as it was.
pub other_work : (v u : View) (x : ℕ) (work : List Duty) → work_about x v ≡ work → Leaves root_row [] v u
    → x ≢ root_row → work_about x u ≡ work
other_work v u x work is leaves ne = leaves.others x ne ∙ is

-- ---- another row

-- With one more reference to a row's object, a hand holds it,
pub holds_row : (x : ℕ) (v u : View) → u.references ≡ with_reference v.layout x v.references → 1 ≤ holds v x
    → 1 ≤ holds u x
holds_row x v u is held = elim (cases_Bool (is_immortal_row v.layout x)) [
  | inl immortal ↦
      let same : u.references ≡ v.references =
      is ∙ ap (λ (b : Bool). if b then v.references else x ∷ v.references) immortal in
      subst (λ (rows : List ℕ). 1 ≤ count_by (λ y. y == x) rows) (sym same) held
  | inr counted ↦
      let same : u.references ≡ x ∷ v.references =
      is ∙ ap (λ (b : Bool). if b then v.references else x ∷ v.references) counted in
      omega (
        arith,
        ap (count_by (λ y. y == x)) same,
        sum_by-cons (λ (y : ℕ). cond (y == x) 1 0) x v.references,
        held,
      )
]

-- and once that is released, it holds what it held before.
pub row_again : (x : ℕ) (v u w : View) → u.layout ≡ v.layout
    → u.references ≡ with_reference v.layout x v.references
    → w.references ≡ without_reference u.layout x u.references → w.references ≡ v.references
row_again x v u w same is after =
    after
    ∙ (ap (λ (rows : List ℕ). without_reference u.layout x rows) is
    ∙ (ap (λ (l : Layout). without_reference l x (with_reference v.layout x v.references)) same
    ∙ elim (cases_Bool (is_immortal_row v.layout x)) [
      | inl immortal ↦
          ap (λ (b : Bool). if b then (if b then v.references else x ∷ v.references)
          else without_one x (if b then v.references else x ∷ v.references)) immortal
      | inr counted ↦
          ap (λ (b : Bool). if b then (if b then v.references else x ∷ v.references)
          else without_one x (if b then v.references else x ∷ v.references)) counted
          ∙ ap (λ (b : Bool). if b then v.references else x ∷ without_one x v.references) (eq-eqb x x refl)
    ]))

-- A hand without other work has none after a call that leaves nothing to do about its row.
pub rests_still : {x : ℕ} {v u : View} → open_work v ≡ [] → Leaves x [] v u → open_work u ≡ []
rests_still {x} {v} {u} rests leaves =
    ap (λ (ds : List Duty). ds ++ u.actor.aside) leaves.agenda
    ∙ (leaves.keeps.aside ∙ ap (filter (λ (d : Duty). not (is_about x d))) rests)

-- What a hand borrows it still borrows after a call.
pub borrows_again : {x : ℕ} {v u : View} → Leaves x [] v u → Borrows v x → Borrows u x
borrows_again {x} {v} {u} leaves = borrows_still x x v u leaves.keeps

-- A hand that has just given birth to an object is ready to retain and release it.
pub ready_at_birth : {heap : TableState} {before after : HandState} {x : ℕ} → IsAlone heap before
    → x ≡ next_row before.view → IsOf heap after → HasBorn before.view after.view → IsReadyAt heap after x
ready_at_birth {heap} {before} {after} {x} alone is table born =
    let refs : after.view.references ≡ x ∷ root_row ∷ [] =
    born.keeps.references
    ∙ (ap (λ (y : ℕ). y ∷ before.view.references) (sym is) ∙ ap (λ (rows : List ℕ). x ∷ rows) alone.references) in
    record {
      table = table;
      running = (born.keeps.status ∙ alone.status, born.waits);
      held =
          omega (
            arith,
            ap (count_by (λ y. y == x)) refs,
            sum_by-cons (λ (y : ℕ). cond (y == x) 1 0) x (root_row ∷ []),
            ap {B = ℕ} (λ (b : Bool). cond b 1 0) (eq-eqb x x refl),
          );
      idle = ap (filter (is_about x)) (born.work ∙ alone_work alone);
      few = omega (arith, ap length refs);
      unlocked = born.keeps.locked ∙ alone.unlocked;
    }
