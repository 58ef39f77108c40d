-- A hand that makes a worker's calls holds one reference afterwards, to the root, if it held no other before.
use Rattle.std.proofs.Common.{◌≡◌, ◌≤◌, ℕ, Bool, List, [], ◌∷◌, inl, inr, ap, arith}
use Rattle.std.specs.Prelude.{cond, count_by, length, ◌==◌}
use Rattle.std.proofs.lemmas.Bool.{cases_Bool, eqb-true}
use Rattle.std.proofs.lemmas.List.Sums.{sum_by-cons}
use Rattle.brc_model.specs.Layout.{root_row}
use Rattle.brc_model.proofs.Basics.Blocks.{root_counted}
use Rattle.brc_table.specs.declared.view.View.{View}
use Rattle.brc_table.specs.Hands.{TableState, HandState, IsOf}
use Rattle.brc_table.specs.Views.{holds}
use Rattle.brc_work.specs.Calls.{HasCalled}
use Rattle.brc_work_tests.specs.Ready.{HoldsRoot}

-- A list of at most one row that has the root has nothing else.
pub only_root : (rows : List ℕ) → length rows ≤ 1 → 1 ≤ count_by (λ y. y == root_row) rows → rows ≡ root_row ∷ []
only_root [] few some = absurd (omega (arith, some))
only_root (y ∷ []) few some = elim (cases_Bool (y == root_row)) [
  | inl same ↦ ap (λ (x : ℕ). x ∷ []) (eqb-true y root_row same)
  | inr apart ↦
      absurd (omega (
        arith,
        some,
        sum_by-cons (λ (x : ℕ). cond (x == root_row) 1 0) y [],
        ap {B = ℕ} (λ (b : Bool). cond b 1 0) apart,
      ))
]
only_root (y ∷ z ∷ rows) few some = absurd (omega (arith, few))

-- A hand whose one reference is to the root holds the root once.
pub holds_root : (v : View) → v.references ≡ root_row ∷ [] → holds v root_row ≡ 1
holds_root v is = ap {B = ℕ} (λ (rows : List ℕ). count_by (λ y. y == root_row) rows) is

-- After a worker's calls the hand holds what it held before. So it may leave: it has nothing to do, has locked
-- nothing, and holds one reference, to the root.
pub called_holds : {heap : TableState} {hand after : HandState} → HoldsRoot heap hand → IsOf heap after
    → HasCalled hand after → HoldsRoot heap after
called_holds {heap} {hand} {after} has table called = record {
  table = table;
  free = record {
    running = called.rests.running;
    agenda = called.rests.agenda;
    aside = called.rests.aside;
  };
  settled = called.rests.settled;
  unlocked = called.unlocked;
  references =
      only_root after.view.references
      (omega (arith, called.few, ap {B = ℕ} (λ (rows : List ℕ). length rows) has.references))
      (omega (
        arith,
        called.held root_row (root_counted hand.view.layout),
        holds_root hand.view has.references,
      ));
}
