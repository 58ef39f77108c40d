-- What each call of a locked swap leaves.
use Rattle.std.proofs.Common.{◌≡◌, ◌<◌, ◌≤◌, ℕ, zero, suc, ◌+◌, Bool, true, false, Option, None, Some, List, ◌∷◌, length, refl, sym, ap, ◌∙◌, subst, inl, inr, arith}
use Rattle.std.specs.Prelude.{count_by, cond, ◌==◌, if◌then◌else◌}
use Rattle.std.specs.List.{filter}
use Rattle.std.proofs.lemmas.Bool.{cases_Bool, eq-eqb}
use Rattle.std.proofs.lemmas.List.Sums.{sum_by-cons}
use Rattle.brc_model.specs.declared.layout.Layout.{Layout}
use Rattle.brc_model.specs.Knowledge.{is_retain}
use Rattle.brc_model.specs.Layout.{is_immortal_row, IsCounted}
use Rattle.brc_model.specs.OpenWork.{is_about}
use Rattle.brc_table.specs.Views.{holds, without_one}
use Rattle.brc_table.specs.Swaps.{with_item, without_item, MayPut}
use Rattle.brc_table.specs.Hands.{TableState, HandState, IsOf, HasNoWork, HasNoRetain, HoldsOne, most_references}
use Rattle.brc_list.specs.Calls.{KeepsWork, KeepsButField, KeepsBesides, SwapsItem, row_in, word_of}
use Rattle.brc_bench.specs.Swaps.{IsAtList, HasBack, HoldsBeside}

-- ---- references

-- One reference more to x is counted for x,
pub count_here : (x : ℕ) (others : List ℕ) → count_by (λ y. y == x) (x ∷ others) ≡ 1 + count_by (λ y. y == x) others
count_here x others =
    sum_by-cons (λ (y : ℕ). cond (y == x) 1 0) x others
    ∙ ap (λ (b : Bool). cond b 1 0 + count_by (λ y. y == x) others) (eq-eqb x x refl)

-- and for no other row fewer are counted than before.
pub count_more : (layout : Layout) (word x : ℕ) (others : List ℕ)
    → count_by (λ y. y == x) others ≤ count_by (λ y. y == x) (with_item layout word others)
count_more layout zero x others = omega arith
count_more layout (suc z) x others = elim (cases_Bool (is_immortal_row layout z)) [
  | inl immortal ↦
      let same : with_item layout (suc z) others ≡ others =
      ap (λ (b : Bool). if b then others else z ∷ others) immortal in
      let e = ap (count_by (λ y. y == x)) same in omega (arith, e)
  | inr counted ↦
      let same : with_item layout (suc z) others ≡ z ∷ others =
      ap (λ (b : Bool). if b then others else z ∷ others) counted in
      let e = ap (count_by (λ y. y == x)) same in
      let more = sum_by-cons (λ (y : ℕ). cond (y == x) 1 0) z others in omega (arith, e, more)
]

-- To take a reference and give it up again changes nothing.
pub without_with : (layout : Layout) (word : ℕ) (others : List ℕ)
    → without_item layout word (with_item layout word others) ≡ others
without_with layout zero others = refl
without_with layout (suc y) others = elim (cases_Bool (is_immortal_row layout y)) [
  | inl immortal ↦
      ap (λ (b : Bool). if b then (if b then others else y ∷ others)
      else without_one y (if b then others else y ∷ others)) immortal
  | inr counted ↦
      ap (λ (b : Bool). if b then (if b then others else y ∷ others)
      else without_one y (if b then others else y ∷ others)) counted
      ∙ ap (λ (b : Bool). if b then others else y ∷ without_one y others) (eq-eqb y y refl)
]

pub length_with : (layout : Layout) (word : ℕ) (others : List ℕ)
    → length (with_item layout word others) ≤ length others + 1
length_with layout zero others = omega arith
length_with layout (suc y) others = elim (cases_Bool (is_immortal_row layout y)) [
  | inl immortal ↦
      let e : length (with_item layout (suc y) others) ≡ length others =
      ap (λ (b : Bool). length (if b then others else y ∷ others)) immortal in omega (arith, e)
  | inr counted ↦
      let e : length (with_item layout (suc y) others) ≡ length (y ∷ others) =
      ap (λ (b : Bool). length (if b then others else y ∷ others)) counted in omega (arith, e)
]

-- ---- what calls may rely on

module _ {heap : TableState} {hand : HandState} {row cell : ℕ} {held locked : Option ℕ}
    (at_list : IsAtList heap hand row cell held locked) where
  -- The hand holds a reference to the list,
  pub holds_list : HoldsOne hand.view row
  holds_list =
      inr (let all : holds hand.view row
      ≡ count_by (λ y. y == row) (with_item hand.view.layout (word_of held) at_list.others) =
      ap (count_by (λ y. y == row)) at_list.references in
      let more = count_more hand.view.layout (word_of held) row at_list.others in
      omega (arith, all, more, at_list.list))

  -- has nothing to do,
  pub has_no_work : (x : ℕ) → HasNoWork hand.view x
  has_no_work x = ap (filter (is_about x)) at_list.rests

  pub has_no_retain : HasNoRetain hand.view
  has_no_retain = ap (count_by is_retain) at_list.rests

  -- and holds few references.
  pub holds_few : length hand.view.references < most_references
  holds_few =
      let all = ap length at_list.references in
      let most = length_with hand.view.layout (word_of held) at_list.others in
      omega (arith, all, most, at_list.few)

-- The hand may put what it holds into a cell of the list that it has locked.
pub may_put : {heap : TableState} {hand : HandState} {row cell : ℕ} (held : Option ℕ)
    → IsAtList heap hand row cell held (Some row) → MayPut hand.view (word_of held)
may_put None at_list = tt
may_put {heap} {hand} {row} {cell} (Some y) at_list =
    let v = hand.view in
    let counts : (x : ℕ) → holds v x ≡ count_by (λ z. z == x) (with_item v.layout (suc y) at_list.others) =
    λ x. ap (count_by (λ z. z == x)) at_list.references in
    elim (cases_Bool (is_immortal_row v.layout y)) [
      | inl immortal ↦ (
        inl immortal,
        has_no_work at_list y,
        λ e. absurd (let same : Some row ≡ Some y = sym at_list.locked_is ∙ e in
            let row_is : row ≡ y = cc in
            let wrong : true ≡ false = sym immortal ∙ subst (IsCounted v.layout) row_is at_list.counted in cc),
      )
      | inr counted ↦
          let taken : with_item v.layout (suc y) at_list.others ≡ y ∷ at_list.others =
          ap (λ (b : Bool). if b then at_list.others else y ∷ at_list.others) counted in
          let one : count_by (λ z. z == y) (with_item v.layout (suc y) at_list.others)
          ≡ 1 + count_by (λ z. z == y) at_list.others =
          ap (count_by (λ z. z == y)) taken ∙ count_here y at_list.others in
          let all = counts y in (
            inr (omega (arith, all, one)),
            has_no_work at_list y,
            λ e. let same : Some row ≡ Some y = sym at_list.locked_is ∙ e in
                let row_is : row ≡ y = cc in
                let other : 1 ≤ count_by (λ z. z == y) at_list.others =
                subst (λ (x : ℕ). 1 ≤ count_by (λ z. z == x) at_list.others) row_is at_list.list in
                inr (omega (arith, all, one, other)),
          )
    ]

-- ---- what calls leave

-- A hand stays at its list after a call that keeps all but the references and what it knows of the list's field.
still_there : {heap : TableState} {before after : HandState} {row cell : ℕ} {held locked next now : Option ℕ}
    (references : List ℕ) (field : ℕ) → IsAtList heap before row cell held locked → IsOf heap after
    → KeepsWork (record before.view { references = references; in_field = field }) after.view
    → after.view.actor.locked ≡ now → HasBack after now → (others : List ℕ)
    → 1 ≤ count_by (λ y. y == row) others → length others + 1 < most_references
    → references ≡ with_item before.view.layout (word_of next) others → IsAtList heap after row cell next now
still_there {heap} {before} {after} {row} {cell} {held} {locked} {next} {now} references field at_list table keeps is
    back others list few all = record {
      table = table;
      running = (keeps.status ∙ at_list.running.0, keeps.waits);
      rests = keeps.work ∙ at_list.rests;
      locked_is = is;
      returned = back;
      counted = subst (λ (l : Layout). IsCounted l row) (sym keeps.layout) at_list.counted;
      knows = record {
        word = at_list.knows.word;
        seen = keeps.kinds row at_list.knows.word at_list.knows.seen;
        low = at_list.knows.low;
      };
      others = others;
      references =
          keeps.references
          ∙ (all ∙ ap (λ (l : Layout). with_item l (word_of next) others) (sym keeps.layout));
      list = list;
      few = few;
    }

pub after_lock : {heap : TableState} {before : HandState} {row cell : ℕ} {held : Option ℕ} (after : HandState)
    (result : Bool) → IsAtList heap before row cell held None → IsOf heap after
    → KeepsButField before.view after.view
    → after.fields ≡ (if result then (row, after.view.in_field) ∷ before.fields else before.fields)
    → after.view.actor.locked ≡ (if result then Some row else None) → result ≡ true
    → IsAtList heap after row cell held (Some row)
after_lock after false at_list table keeps fields locked is = absurd cc
after_lock {heap} {before} after true at_list table keeps fields locked is =
    still_there before.view.references after.view.in_field at_list table keeps locked
    (record { rest = before.fields; is = fields }) at_list.others at_list.list at_list.few at_list.references

pub after_miss : {heap : TableState} {before : HandState} {row cell : ℕ} {held : Option ℕ} (after : HandState)
    (result : Bool) → IsAtList heap before row cell held None → IsOf heap after
    → KeepsButField before.view after.view → after.view.actor.locked ≡ (if result then Some row else None)
    → result ≡ false → IsAtList heap after row cell held None
after_miss after true at_list table keeps locked is = absurd cc
after_miss {heap} {before} after false at_list table keeps locked is =
    still_there before.view.references after.view.in_field at_list table keeps locked tt at_list.others at_list.list
    at_list.few at_list.references

word_row : (word : ℕ) → word_of (row_in word) ≡ word
word_row zero = refl
word_row (suc y) = refl

pub after_swap : {heap : TableState} {before : HandState} {row cell found : ℕ} {held next : Option ℕ}
    (after : HandState) → IsAtList heap before row cell held (Some row) → IsOf heap after
    → KeepsBesides before.view after.view
    → SwapsItem row cell (word_of held) found before.view after.view → next ≡ row_in found
    → after.fields ≡ before.fields → after.view.actor.locked ≡ Some row → IsAtList heap after row cell next (Some row)
after_swap {heap} {before} {row} {cell} {found} {held} {next} after at_list table keeps swaps is fields locked =
    let v = before.view in
    let word : word_of next ≡ found = ap word_of is ∙ word_row found in
    still_there after.view.references v.in_field at_list table keeps locked
    (record {
      rest = at_list.returned.rest;
      is =
          fields
          ∙ (at_list.returned.is
          ∙ ap (λ (n : ℕ). (row, n) ∷ at_list.returned.rest) (sym keeps.taken_field));
    }) at_list.others at_list.list at_list.few
    (swaps.references
    ∙ (ap (λ (rows : List ℕ). with_item v.layout found (without_item v.layout (word_of held) rows)) at_list.references
    ∙ (ap (with_item v.layout found) (without_with v.layout (word_of held) at_list.others)
    ∙ ap (λ (n : ℕ). with_item v.layout n at_list.others) (sym word))))

pub after_unlock : {heap : TableState} {before : HandState} {row cell : ℕ} {held : Option ℕ} (after : HandState)
    → IsAtList heap before row cell held (Some row) → IsOf heap after → KeepsWork before.view after.view
    → after.view.actor.locked ≡ None → IsAtList heap after row cell held None
after_unlock {heap} {before} after at_list table keeps is =
    still_there before.view.references before.view.in_field at_list table keeps is tt at_list.others at_list.list
    at_list.few at_list.references

-- A swap exchanges the item that the hand holds, and nothing else.
pub beside_after_swap : (before first after last : HandState) (row cell found : ℕ) (held next : Option ℕ)
    → first.view.references ≡ before.view.references → first.view.layout ≡ before.view.layout
    → SwapsItem row cell (word_of held) found first.view after.view → after.view.layout ≡ first.view.layout
    → next ≡ row_in found → last.view.references ≡ after.view.references → last.view.layout ≡ after.view.layout
    → (others : List ℕ) → HoldsBeside before row held others → HoldsBeside last row next others
beside_after_swap before first after last row cell found held next references layout swaps kept is later later_layout
    others has =
    let l = before.view.layout in
    let word : word_of next ≡ found = ap word_of is ∙ word_row found in
    let all : last.view.layout ≡ l = later_layout ∙ (kept ∙ layout) in
    record {
      references =
          later
          ∙ (swaps.references
          ∙ (ap (λ (rows : List ℕ).
          with_item first.view.layout found (without_item first.view.layout (word_of held) rows))
          (references ∙ has.references)
          ∙ (ap (λ (k : Layout). with_item k found (without_item k (word_of held) (with_item l (word_of held) others)))
          layout
          ∙ (ap (with_item l found) (without_with l (word_of held) others)
          ∙ (ap (λ (n : ℕ). with_item l n others) (sym word)
          ∙ ap (λ (k : Layout). with_item k (word_of next) others) (sym all))))));
      list = has.list;
      few = has.few;
    }
