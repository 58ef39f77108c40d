-- Hands that rest, and rest again after each call.
use Rattle.std.proofs.Common.{◌≡◌, ◌≤◌, ◌+◌, ℕ, Bool, true, false, List, [], ◌∷◌, ◌++◌, None, Some, inl, inr, refl, sym, ap, ◌∙◌, subst, arith}
use Rattle.std.specs.Prelude.{not, cond, count_by, ◌==◌, if◌then◌else◌}
use Rattle.std.specs.List.{filter}
use Rattle.std.proofs.lemmas.Bool.{eq-eqb}
use Rattle.std.proofs.lemmas.List.Sums.{sum_by-cons}
use Rattle.brc_host.specs.HostCalls.{HostCall}
use Rattle.brc_model.specs.declared.duty.Duty.{Duty}
use Rattle.brc_model.specs.declared.layout.Layout.{Layout}
use Rattle.brc_model.specs.Layout.{IsCounted}
use Rattle.brc_model.specs.OpenWork.{is_about}
use Rattle.brc_table.specs.declared.view.View.{View}
use Rattle.brc_table.specs.Views.{holds, without_one, with_reference, without_reference}
use Rattle.brc_table.specs.Hands.{TableState, HandState, IsOf, KeepsLock, MayWait}
use Rattle.brc_table.specs.Calls.{IsFree}
use Rattle.brc_heap.specs.Calls.{HasGiven, Leaves}
use Rattle.brc_heap.specs.Steps.{Keeps}
use Rattle.brc_free.specs.Works.{HasReleased, HasWorked, ComesToSettle, AtOnce, to_settle}
use Rattle.brc_bench.specs.Swaps.{IsResting}
use Rattle.brc_bench.proofs.Readiness.{both_leave}

no_first : (ds es : List Duty) → ds ++ es ≡ [] → ds ≡ []
no_first [] es e = refl
no_first (d ∷ ds) es e = absurd cc

no_second : (ds es : List Duty) → ds ++ es ≡ [] → es ≡ []
no_second [] es e = e
no_second (d ∷ ds) es e = absurd cc

-- A hand without work has nothing to do next, and nothing aside.
pub free_at_rest : {heap : TableState} {hand : HandState} → IsResting heap hand None → IsFree hand.view
free_at_rest {heap} {hand} rest = record {
  running = rest.running.0;
  agenda = no_first hand.view.actor.agenda hand.view.actor.aside rest.rests;
  aside = no_second hand.view.actor.agenda hand.view.actor.aside rest.rests;
}

-- A hand that keeps the rest, and has nothing to do next and nothing aside, has no work again:
rests_again : {heap : TableState} {before after : HandState} {ds fs : List Duty} {used : ℕ} {rows given : List ℕ}
    → IsResting heap before None → IsOf heap after
    → Keeps (record before.view {
      actor = record before.view.actor { agenda = ds; aside = fs; used = used };
      references = rows;
      given = given;
    }) after.view → after.view.actor.agenda ≡ [] → fs ≡ [] → IsResting heap after None
rests_again {heap} {before} {after} rest table keeps idle aside = record {
  table = table;
  running = (keeps.status ∙ rest.running.0, subst MayWait (sym idle) tt);
  rests = ap (λ (ds : List Duty). ds ++ after.view.actor.aside) idle ∙ (keeps.aside ∙ aside);
  locked_is = keeps.locked ∙ rest.locked_is;
  returned = tt;
}

-- main after it has given out a worker's hand,
pub rests_after_giving : {heap : TableState} {before after : HandState} {thread : ℕ} → IsResting heap before None
    → IsOf heap after → HasGiven thread before.view after.view → IsResting heap after None
rests_after_giving rest table gives =
    rests_again rest table gives.keeps gives.agenda rest.rests

-- after a call about an object that leaves nothing to do,
pub rests_after_call : {heap : TableState} {before after : HandState} {x : ℕ} → IsResting heap before None
    → IsOf heap after → Leaves x [] before.view after.view → IsResting heap after None
rests_after_call {heap} {before} {after} {x} rest table leaves =
    rests_again rest table leaves.keeps leaves.agenda (ap (filter (λ (d : Duty). not (is_about x d))) rest.rests)

-- after it has given up a reference and posted the object,
pub rests_after_posting : {heap : TableState} {before after : HandState} {u w : View} {x : ℕ} {one two : List Duty}
    → IsResting heap before None → Leaves x one before.view u → Leaves x two u w → Leaves x [] w after.view
    → IsOf heap after → IsResting heap after None
rests_after_posting rest released queued posted table =
    rests_after_call rest table (both_leave released (both_leave queued posted))

-- after it has given up a reference,
pub rests_after_release : {heap : TableState} {before after : HandState} {x : ℕ} → IsResting heap before None
    → IsOf heap after → HasReleased x before.view after.view → IsResting heap after None
rests_after_release {heap} {before} {after} {x} rest table released =
    rests_again rest table released.keeps released.agenda (ap (filter (λ (d : Duty). not (is_about x d))) rest.rests)

-- A hand without work may settle,
pub settles_at_rest : {heap : TableState} {hand : HandState} → IsResting heap hand None → ComesToSettle hand.view []
settles_at_rest rest = let free = free_at_rest rest in AtOnce free.running free.aside free.agenda

-- and has no work then.
pub rests_after_settling : {heap : TableState} {before after : HandState} {closes : List HostCall}
    → IsResting heap before None
    → IsOf heap after → after.view.actor.head ≡ 0 → HasWorked (to_settle [] before.view) closes [] after.view
    → IsResting heap after None
rests_after_settling rest table empty stands =
    rests_again rest table stands.keeps stands.agenda (free_at_rest rest).aside

-- ---- references

-- A hand holds the object of its latest reference,
pub holds_first : (v : View) (x : ℕ) (rows : List ℕ) → v.references ≡ x ∷ rows → 1 ≤ holds v x
holds_first v x rows is =
    omega (
      arith,
      ap (count_by (λ y. y == x)) is,
      sum_by-cons (λ (y : ℕ). cond (y == x) 1 0) x rows,
      ap {B = ℕ} (λ (b : Bool). cond b 1 0) (eq-eqb x x refl),
    )

-- Without the latest reference the others are left.
pub without_first : (x : ℕ) (rows : List ℕ) → without_one x (x ∷ rows) ≡ rows
without_first x rows = ap (λ (b : Bool). if b then rows else x ∷ without_one x rows) (eq-eqb x x refl)

-- The same of the reference before the latest one.
pub holds_second : (v : View) (x y : ℕ) (rows : List ℕ) → v.references ≡ y ∷ x ∷ rows → 1 ≤ holds v x
holds_second v x y rows is =
    omega (
      arith,
      ap (count_by (λ z. z == x)) is,
      sum_by-cons (λ (z : ℕ). cond (z == x) 1 0) y (x ∷ rows),
      sum_by-cons (λ (z : ℕ). cond (z == x) 1 0) x rows,
      ap {B = ℕ} (λ (b : Bool). cond b 1 0) (eq-eqb x x refl),
    )

-- A hand that has locked another object may give up any reference to this one.
pub keeps_other : (v : View) (x y : ℕ) → v.actor.locked ≡ Some y → (y == x) ≡ false → KeepsLock v x
keeps_other v x y locked apart = λ this.
    let same : Some y ≡ Some x = sym locked ∙ this in
    absurd (let wrong : true ≡ false = sym (eq-eqb y x cc) ∙ apart in cc)

-- A counted object's references are listed.
pub lists_one_more : {layout other : Layout} (x : ℕ) (rows : List ℕ) → IsCounted layout x → other ≡ layout
    → with_reference other x rows ≡ x ∷ rows
lists_one_more {layout} {other} x rows counted same =
    ap (λ (l : Layout). with_reference l x rows) same ∙ ap (λ (b : Bool). if b then rows else x ∷ rows) counted

pub lists_one_less : {layout other : Layout} (x : ℕ) (rows : List ℕ) → IsCounted layout x → other ≡ layout
    → without_reference other x rows ≡ without_one x rows
lists_one_less {layout} {other} x rows counted same =
    ap (λ (l : Layout). without_reference l x rows) same
    ∙ ap (λ (b : Bool). if b then rows else without_one x rows) counted
