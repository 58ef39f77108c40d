-- Hands without work stay so.
use Rattle.std.proofs.Common.{◌≡◌, ◌≤◌, ℕ, Bool, true, false, List, [], ◌∷◌, ◌++◌, None, Some, inl, inr, refl, sym, ap, ◌∙◌, subst, arith}
use Rattle.std.specs.Prelude.{not, cond, count_by, ◌==◌, if◌then◌else◌}
use Rattle.std.specs.List.{filter}
use Rattle.std.proofs.lemmas.Bool.{cases_lt, eq-eqb, eqb-false}
use Rattle.std.proofs.lemmas.List.Sums.{sum_by-cons}
use Rattle.brc_host.specs.HostCalls.{HostCall}
use Rattle.brc_model.specs.declared.duty.Duty.{Duty}
use Rattle.brc_model.specs.declared.layout.Layout.{Layout}
use Rattle.brc_model.specs.Layout.{first_immortal_list, IsCounted}
use Rattle.brc_model.proofs.Basics.Blocks.{others_counted}
use Rattle.brc_model.specs.OpenWork.{is_about}
use Rattle.brc_table.specs.declared.view.View.{View}
use Rattle.brc_table.specs.Views.{holds, without_one, with_reference, without_reference}
use Rattle.brc_table.specs.Hands.{TableState, HandState, IsOf, KeepsLock, MayWait}
use Rattle.brc_table.specs.Calls.{IsFree}
use Rattle.brc_heap.specs.Calls.{HasGiven, HasBorn, Leaves}
use Rattle.brc_heap.specs.Steps.{Keeps}
use Rattle.brc_free.specs.Works.{HasReleased, HasWorked, ComesToSettle, AtOnce, to_settle}
use Rattle.brc_fixtures.specs.Resting.{IsAtRest}

no_first : (ds es : List Duty) → ds ++ es ≡ [] → ds ≡ []
no_first [] es e = refl
no_first (d ∷ ds) es e = absurd cc

no_second : (ds es : List Duty) → ds ++ es ≡ [] → es ≡ []
no_second [] es e = e
no_second (d ∷ ds) es e = absurd cc

-- A hand without work has nothing to do next, and nothing aside.
pub free_at_rest : {heap : TableState} {hand : HandState} → IsAtRest heap hand None → IsFree hand.view
free_at_rest {heap} {hand} rest = record {
  running = rest.running.0;
  agenda = no_first hand.view.actor.agenda hand.view.actor.aside rest.rests;
  aside = no_second hand.view.actor.agenda hand.view.actor.aside rest.rests;
}

-- A hand that keeps the rest, and has nothing to do next and nothing aside, has no work again:
rests_again : {heap : TableState} {before after : HandState} {ds fs : List Duty} {used : ℕ} {rows given : List ℕ}
    → IsAtRest heap before None → IsOf heap after
    → Keeps (record before.view {
      actor = record before.view.actor { agenda = ds; aside = fs; used = used };
      references = rows;
      given = given;
    }) after.view → after.view.actor.agenda ≡ [] → fs ≡ [] → IsAtRest heap after None
rests_again {heap} {before} {after} rest table keeps idle aside = record {
  table = table;
  running = (keeps.status ∙ rest.running.0, subst MayWait (sym idle) tt);
  rests = ap (λ (ds : List Duty). ds ++ after.view.actor.aside) idle ∙ (keeps.aside ∙ aside);
  locked_is = keeps.locked ∙ rest.locked_is;
  returned = tt;
  no_lists = rest.no_lists;
}

-- main after it has given out a worker's hand,
pub rests_after_giving : {heap : TableState} {before after : HandState} {thread : ℕ} → IsAtRest heap before None
    → IsOf heap after → HasGiven thread before.view after.view → IsAtRest heap after None
rests_after_giving rest table gives =
    rests_again rest table gives.keeps gives.agenda rest.rests

-- a hand after it has given birth,
pub rests_after_birth : {heap : TableState} {before after : HandState} → IsAtRest heap before None → IsOf heap after
    → HasBorn before.view after.view → IsAtRest heap after None
rests_after_birth {heap} {before} {after} rest table born =
    let none = born.work ∙ rest.rests in
    rests_again rest table born.keeps (no_first after.view.actor.agenda after.view.actor.aside none)
    (no_second after.view.actor.agenda after.view.actor.aside none)

-- after it has retained an object,
pub rests_after_call : {heap : TableState} {before after : HandState} {x : ℕ} → IsAtRest heap before None
    → IsOf heap after → Leaves x [] before.view after.view → IsAtRest heap after None
rests_after_call {heap} {before} {after} {x} rest table leaves =
    rests_again rest table leaves.keeps leaves.agenda (ap (filter (λ (d : Duty). not (is_about x d))) rest.rests)

-- after it has given up a reference,
pub rests_after_release : {heap : TableState} {before after : HandState} {x : ℕ} → IsAtRest heap before None
    → IsOf heap after → HasReleased x before.view after.view → IsAtRest heap after None
rests_after_release {heap} {before} {after} {x} rest table released =
    rests_again rest table released.keeps released.agenda (ap (filter (λ (d : Duty). not (is_about x d))) rest.rests)

-- A hand without work may settle,
pub settles_at_rest : {heap : TableState} {hand : HandState} → IsAtRest heap hand None → ComesToSettle hand.view []
settles_at_rest rest = let free = free_at_rest rest in AtOnce free.running free.aside free.agenda

-- and has no work then.
pub rests_after_settling : {heap : TableState} {before after : HandState} {closes : List HostCall}
    → IsAtRest heap before None
    → IsOf heap after → after.view.actor.head ≡ 0 → HasWorked (to_settle [] before.view) closes [] after.view
    → IsAtRest heap after None
rests_after_settling rest table empty stands =
    rests_again rest table stands.keeps stands.agenda (free_at_rest rest).aside

-- A hand that is free again, and has locked nothing, has no work either.
pub rests_while_free : {heap : TableState} {before after : HandState} → IsAtRest heap before None
    → IsOf heap after → IsFree after.view → Keeps before.view after.view → IsAtRest heap after None
rests_while_free {heap} {before} {after} rest table free keeps = record {
  table = table;
  running = (free.running, subst MayWait (sym free.agenda) tt);
  rests = ap (λ (ds : List Duty). ds ++ after.view.actor.aside) free.agenda ∙ free.aside;
  locked_is = keeps.locked ∙ rest.locked_is;
  returned = tt;
  no_lists = rest.no_lists;
}

-- ---- references

-- A hand holds the object of its latest reference,
pub holds_first : (v : View) (x : ℕ) (rows : List ℕ) → v.references ≡ x ∷ rows → 1 ≤ holds v x
holds_first v x rows is =
    omega (
      arith,
      ap (count_by (λ y. y == x)) is,
      sum_by-cons (λ (y : ℕ). cond (y == x) 1 0) x rows,
      ap {B = ℕ} (λ (b : Bool). cond b 1 0) (eq-eqb x x refl),
    )

-- and twice if that of the one before is the same object.
pub holds_both : (v : View) (x : ℕ) (rows : List ℕ) → v.references ≡ x ∷ x ∷ rows → 2 ≤ holds v x
holds_both v x rows is =
    omega (
      arith,
      ap (count_by (λ y. y == x)) is,
      sum_by-cons (λ (y : ℕ). cond (y == x) 1 0) x (x ∷ rows),
      sum_by-cons (λ (y : ℕ). cond (y == x) 1 0) x rows,
      ap {B = ℕ} (λ (b : Bool). cond b 1 0) (eq-eqb x x refl),
    )

-- Without the latest reference the others are left.
pub without_first : (x : ℕ) (rows : List ℕ) → without_one x (x ∷ rows) ≡ rows
without_first x rows = ap (λ (b : Bool). if b then rows else x ∷ without_one x rows) (eq-eqb x x refl)

-- The same of the reference before the latest one.
pub holds_second : (v : View) (x y : ℕ) (rows : List ℕ) → v.references ≡ y ∷ x ∷ rows → 1 ≤ holds v x
holds_second v x y rows is =
    omega (
      arith,
      ap (count_by (λ z. z == x)) is,
      sum_by-cons (λ (z : ℕ). cond (z == x) 1 0) y (x ∷ rows),
      sum_by-cons (λ (z : ℕ). cond (z == x) 1 0) x rows,
      ap {B = ℕ} (λ (b : Bool). cond b 1 0) (eq-eqb x x refl),
    )

pub without_second : (x y : ℕ) (rows : List ℕ) → (y == x) ≡ false → without_one x (y ∷ x ∷ rows) ≡ y ∷ rows
without_second x y rows apart =
    ap (λ (b : Bool). if b then x ∷ rows else y ∷ without_one x (x ∷ rows)) apart
    ∙ ap (λ (ys : List ℕ). y ∷ ys) (without_first x rows)

-- A hand that has locked another object may give up any reference to this one.
pub keeps_other : (v : View) (x y : ℕ) → v.actor.locked ≡ Some y → (y == x) ≡ false → KeepsLock v x
keeps_other v x y locked apart = λ this.
    let same : Some y ≡ Some x = sym locked ∙ this in
    absurd (let wrong : true ≡ false = sym (eq-eqb y x cc) ∙ apart in cc)

-- A counted object's references are listed.
pub lists_one_more : {layout other : Layout} (x : ℕ) (rows : List ℕ) → IsCounted layout x → other ≡ layout
    → with_reference other x rows ≡ x ∷ rows
lists_one_more {layout} {other} x rows counted same =
    ap (λ (l : Layout). with_reference l x rows) same ∙ ap (λ (b : Bool). if b then rows else x ∷ rows) counted

pub lists_one_less : {layout other : Layout} (x : ℕ) (rows : List ℕ) → IsCounted layout x → other ≡ layout
    → without_reference other x rows ≡ without_one x rows
lists_one_less {layout} {other} x rows counted same =
    ap (λ (l : Layout). without_reference l x rows) same
    ∙ ap (λ (b : Bool). if b then rows else without_one x rows) counted

-- ---- rows

-- A layout with no immortal list has no immortal object but none.
pub some_counted : (layout : Layout) (x : ℕ) → layout.immortal_lists ≡ 0 → (x == 0) ≡ false → IsCounted layout x
some_counted layout x no_lists some =
    others_counted layout x (omega (arith, eqb-false x 0 some))
    (elim (cases_lt x (first_immortal_list layout)) [
      | inl low ↦ inl low
      | inr past ↦ inr (omega (arith, past, no_lists))
    ])
