-- The references of a hand: one to the root, and one to an item, or none.
use Rattle.std.proofs.Common.{◌≡◌, ◌≢◌, ◌<◌, ◌≤◌, ℕ, zero, suc, ◌+◌, Bool, Option, None, Some, List, [], ◌∷◌, length, refl, sym, ap, ◌∙◌, inl, inr, arith}
use Rattle.std.specs.Prelude.{count_by, cond, ◌==◌, ◌&&◌, nat_lt, nat_le, if◌then◌else◌}
use Rattle.std.specs.List.{filter}
use Rattle.std.proofs.lemmas.Bool.{cases_Bool, eq-eqb, leb-true}
use Rattle.std.proofs.lemmas.List.Sums.{sum_by-cons}
use Rattle.brc_model.specs.declared.layout.Layout.{Layout}
use Rattle.brc_model.specs.Knowledge.{is_retain}
use Rattle.brc_model.specs.Layout.{root_row, row_at, first_immortal_list, is_immortal_row, IsCounted}
use Rattle.brc_model.specs.OpenWork.{is_about}
use Rattle.brc_table.specs.Views.{holds, without_one}
use Rattle.brc_table.specs.Swaps.{with_item, without_item, MayPut}
use Rattle.brc_table.specs.Hands.{TableState, HandState, HasNoWork, HasNoRetain, HoldsOne, most_references}
use Rattle.brc_list.specs.Calls.{row_in, word_of}
use Rattle.brc_queue_tests.specs.Embedded.{IsResting}

-- ---- lists of references

-- The root is counted.
pub root_counted : (layout : Layout) → IsCounted layout root_row
root_counted layout = elim (cases_Bool (nat_le (first_immortal_list layout) root_row)) [
  | inl low ↦ absurd (let le = leb-true (first_immortal_list layout) root_row low in omega (arith, le))
  | inr high ↦
      ap (λ (b : Bool). b && nat_lt root_row (first_immortal_list layout + layout.immortal_lists)) high
]

-- A worker's row isn't the root's.
pub own_apart : (layout : Layout) (t used : ℕ) → t ≢ 0 → row_at layout t used ≢ root_row
own_apart layout zero used some = absurd (some refl)
own_apart layout (suc t) used some = λ e. absurd (omega (arith, e))

-- One reference more to x is counted for x,
count_here : (x : ℕ) (rows : List ℕ) → count_by (λ y. y == x) (x ∷ rows) ≡ 1 + count_by (λ y. y == x) rows
count_here x rows =
    sum_by-cons (λ (y : ℕ). cond (y == x) 1 0) x rows
    ∙ ap (λ (b : Bool). cond b 1 0 + count_by (λ y. y == x) rows) (eq-eqb x x refl)

-- and for no other row fewer are counted than before.
count_more : (layout : Layout) (word x : ℕ) (rows : List ℕ)
    → count_by (λ y. y == x) rows ≤ count_by (λ y. y == x) (with_item layout word rows)
count_more layout zero x rows = omega arith
count_more layout (suc z) x rows = elim (cases_Bool (is_immortal_row layout z)) [
  | inl immortal ↦
      let same : with_item layout (suc z) rows ≡ rows = ap (λ (b : Bool). if b then rows else z ∷ rows) immortal in
      let e = ap (count_by (λ y. y == x)) same in omega (arith, e)
  | inr counted ↦
      let same : with_item layout (suc z) rows ≡ z ∷ rows = ap (λ (b : Bool). if b then rows else z ∷ rows) counted in
      let e = ap (count_by (λ y. y == x)) same in
      let more = sum_by-cons (λ (y : ℕ). cond (y == x) 1 0) z rows in omega (arith, e, more)
]

-- To take a reference and give it up again changes nothing.
pub without_with : (layout : Layout) (word : ℕ) (rows : List ℕ)
    → without_item layout word (with_item layout word rows) ≡ rows
without_with layout zero rows = refl
without_with layout (suc y) rows = elim (cases_Bool (is_immortal_row layout y)) [
  | inl immortal ↦
      ap (λ (b : Bool). if b then (if b then rows else y ∷ rows)
      else without_one y (if b then rows else y ∷ rows)) immortal
  | inr counted ↦
      ap (λ (b : Bool). if b then (if b then rows else y ∷ rows)
      else without_one y (if b then rows else y ∷ rows)) counted
      ∙ ap (λ (b : Bool). if b then rows else y ∷ without_one y rows) (eq-eqb y y refl)
]

length_with : (layout : Layout) (word : ℕ) (rows : List ℕ) → length (with_item layout word rows) ≤ length rows + 1
length_with layout zero rows = omega arith
length_with layout (suc y) rows = elim (cases_Bool (is_immortal_row layout y)) [
  | inl immortal ↦
      let e : length (with_item layout (suc y) rows) ≡ length rows =
      ap (λ (b : Bool). length (if b then rows else y ∷ rows)) immortal in omega (arith, e)
  | inr counted ↦
      let e : length (with_item layout (suc y) rows) ≡ length (y ∷ rows) =
      ap (λ (b : Bool). length (if b then rows else y ∷ rows)) counted in omega (arith, e)
]

pub word_row : (word : ℕ) → word_of (row_in word) ≡ word
word_row zero = refl
word_row (suc y) = refl

-- ---- what calls may rely on

module _ {heap : TableState} {hand : HandState} {item locked : Option ℕ}
    (rest : IsResting heap hand item locked) where
  -- The hand holds a reference to the root,
  pub holds_root : HoldsOne hand.view root_row
  holds_root =
      inr (let all : holds hand.view root_row
      ≡ count_by (λ y. y == root_row) (with_item hand.view.layout (word_of item) (root_row ∷ [])) =
      ap (count_by (λ y. y == root_row)) rest.references in
      let more = count_more hand.view.layout (word_of item) root_row (root_row ∷ []) in
      let one = count_here root_row [] in omega (arith, all, more, one))

  -- has nothing to do,
  pub has_no_work : (x : ℕ) → HasNoWork hand.view x
  has_no_work x = ap (filter (is_about x)) rest.rests

  pub has_no_retain : HasNoRetain hand.view
  has_no_retain = ap (count_by is_retain) rest.rests

  -- and holds few references.
  pub holds_few : length hand.view.references < most_references
  holds_few =
      let all = ap length rest.references in
      let most = length_with hand.view.layout (word_of item) (root_row ∷ []) in omega (arith, all, most)

-- It holds a reference to the item,
pub holds_item : {heap : TableState} {hand : HandState} {locked : Option ℕ} (y : ℕ)
    → IsResting heap hand (Some y) locked → HoldsOne hand.view y
holds_item {heap} {hand} {locked} y rest = elim (cases_Bool (is_immortal_row hand.view.layout y)) [
  | inl immortal ↦ inl immortal
  | inr counted ↦
      let taken : with_item hand.view.layout (suc y) (root_row ∷ []) ≡ y ∷ root_row ∷ [] =
      ap (λ (b : Bool). if b then root_row ∷ [] else y ∷ root_row ∷ []) counted in
      let all : holds hand.view y ≡ count_by (λ z. z == y) (y ∷ root_row ∷ []) =
      ap (count_by (λ z. z == y)) (rest.references ∙ taken) in
      let one = count_here y (root_row ∷ []) in inr (omega (arith, all, one))
]

-- and may put it into a cell of the root, which it has locked.
pub may_put : {heap : TableState} {hand : HandState} (item : Option ℕ) → IsResting heap hand item (Some root_row)
    → item ≢ Some root_row → MayPut hand.view (word_of item)
may_put None rest apart = tt
may_put {heap} {hand} (Some y) rest apart = (
  holds_item y rest,
  has_no_work rest y,
  λ e. absurd (apart (let same : Some root_row ≡ Some y = sym rest.locked_is ∙ e in
      let is : Some y ≡ Some root_row = cc in is)),
)
