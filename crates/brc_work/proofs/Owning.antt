-- What the variables own in all, as one of them changes.
use Rattle.std.proofs.Common.{◌≡◌, ◌≢◌, ℕ, zero, suc, ◌+◌, ◌<◌, ◌≤◌, Bool, true, false, cond, List, [], ◌∷◌, length, set, get_or, map, Option, None, Some, inl, inr, refl, sym, ap, ◌∙◌, arith}
use Rattle.std.specs.Prelude.{◌||◌}
use Rattle.std.specs.List.{list_any}
use Rattle.std.proofs.lemmas.Bool.{cases_Bool}
use Rattle.brc_model.specs.declared.layout.Layout.{Layout}
use Rattle.brc_model.specs.Layout.{is_immortal_row}
use Rattle.brc_model.specs.declared.state.Slot.{Slot}
use Rattle.brc_model.specs.declared.state.Slot.TheVariants.{Empty, Owned, Caller, Locked}
use Rattle.brc_model.specs.SlotStates.{is_owned, without_item, entry_of}
use Rattle.brc_model.specs.Threads.{entry_variables}
use Rattle.brc_work.specs.Fits.{owns, lists, over_variables}

-- ---- one variable changes

-- The sum changes by what the one variable owned and now owns.
pub sum_set : (f : Slot → Option ℕ → ℕ) (i : ℕ) (slots : List Slot) (rows : List (Option ℕ)) (var : Slot)
    (row : Option ℕ) → i < length slots → i < length rows
    → over_variables f (set slots i var) (set rows i row) + f (get_or slots i Empty) (get_or rows i None)
    ≡ over_variables f slots rows + f var row
sum_set f i [] rows var row low there = absurd (omega (arith, low))
sum_set f i (s ∷ slots) [] var row low there = absurd (omega (arith, there))
sum_set f zero (s ∷ slots) (r ∷ rows) var row low there = omega arith
sum_set f (suc i) (s ∷ slots) (r ∷ rows) var row low there =
    let rest = sum_set f i slots rows var row (omega (arith, low)) (omega (arith, there)) in omega (arith, rest)

-- ---- what one variable owns

pub sum_at : (f : Slot → Option ℕ → ℕ) (i : ℕ) (slots : List Slot) (rows : List (Option ℕ)) → i < length slots
    → i < length rows → f (get_or slots i Empty) (get_or rows i None) ≤ over_variables f slots rows
sum_at f i [] rows low there = absurd (omega (arith, low))
sum_at f i (s ∷ slots) [] low there = absurd (omega (arith, there))
sum_at f zero (s ∷ slots) (r ∷ rows) low there = omega arith
sum_at f (suc i) (s ∷ slots) (r ∷ rows) low there =
    let rest = sum_at f i slots rows (omega (arith, low)) (omega (arith, there)) in omega (arith, rest)

-- Two variables own what each of them owns.
pub sum_both : (f : Slot → Option ℕ → ℕ) (i j : ℕ) (slots : List Slot) (rows : List (Option ℕ)) → i ≢ j
    → i < length slots → i < length rows → j < length slots → j < length rows
    → f (get_or slots i Empty) (get_or rows i None) + f (get_or slots j Empty) (get_or rows j None)
    ≤ over_variables f slots rows
sum_both f i j [] rows apart one there two here = absurd (omega (arith, one))
sum_both f i j (s ∷ slots) [] apart one there two here = absurd (omega (arith, there))
sum_both f zero zero (s ∷ slots) (r ∷ rows) apart one there two here = absurd (apart refl)
sum_both f zero (suc j) (s ∷ slots) (r ∷ rows) apart one there two here =
    let rest = sum_at f j slots rows (omega (arith, two)) (omega (arith, here)) in omega (arith, rest)
sum_both f (suc i) zero (s ∷ slots) (r ∷ rows) apart one there two here =
    let rest = sum_at f i slots rows (omega (arith, one)) (omega (arith, there)) in omega (arith, rest)
sum_both f (suc i) (suc j) (s ∷ slots) (r ∷ rows) apart one there two here =
    let rest = sum_both f i j slots rows (λ e. apart (ap suc e)) (omega (arith, one)) (omega (arith, there))
    (omega (arith, two)) (omega (arith, here)) in
    omega (arith, rest)

-- ---- all variables

pub owns_without : (y : ℕ) (var : Slot) (row : Option ℕ) → owns y (without_item var) row ≡ owns y var row
owns_without y Empty row = refl
owns_without y (Owned k) row = refl
owns_without y (Caller k) row = refl
owns_without y (Locked k) row = refl

pub lists_without : (layout : Layout) (var : Slot) (row : Option ℕ)
    → lists layout (without_item var) row ≡ lists layout var row
lists_without layout Empty row = refl
lists_without layout (Owned k) row = refl
lists_without layout (Caller k) row = refl
lists_without layout (Locked k) row = refl

-- Variables that borrow from a list own nothing.
pub sum_without : (f : Slot → Option ℕ → ℕ)
    → ((var : Slot) (row : Option ℕ) → f (without_item var) row ≡ f var row)
    → (slots : List Slot) (rows : List (Option ℕ))
    → over_variables f (map without_item slots) rows ≡ over_variables f slots rows
sum_without f same [] rows = refl
sum_without f same (s ∷ slots) [] = refl
sum_without f same (s ∷ slots) (r ∷ rows) =
    let one = same s r in let rest = sum_without f same slots rows in omega (arith, one, rest)

pub owns_no : (y : ℕ) (var : Slot) (row : Option ℕ) → is_owned var ≡ false → owns y var row ≡ 0
owns_no y Empty row bare = refl
owns_no y (Owned k) row bare = let wrong : true ≡ false = bare in absurd cc
owns_no y (Caller k) row bare = refl
owns_no y (Locked k) row bare = refl

pub lists_no : (layout : Layout) (var : Slot) (row : Option ℕ) → is_owned var ≡ false → lists layout var row ≡ 0
lists_no layout Empty row bare = refl
lists_no layout (Owned k) row bare = let wrong : true ≡ false = bare in absurd cc
lists_no layout (Caller k) row bare = refl
lists_no layout (Locked k) row bare = refl

-- Where no variable owns a reference, there is none.
pub sum_none : (f : Slot → Option ℕ → ℕ) → ((var : Slot) (row : Option ℕ) → is_owned var ≡ false → f var row
    ≡ 0)
    → (slots : List Slot) (rows : List (Option ℕ)) → list_any is_owned slots ≡ false
    → over_variables f slots rows ≡ 0
sum_none f bare [] rows none = refl
sum_none f bare (s ∷ slots) [] none = refl
sum_none f bare (s ∷ slots) (r ∷ rows) none = elim (cases_Bool (is_owned s)) [
  | inl is ↦
      let wrong : true ≡ false = sym (ap (λ (b : Bool). b || list_any is_owned slots) is) ∙ none in absurd cc
  | inr is ↦
      let one = bare s r is in
      let rest = sum_none f bare slots rows (sym (ap (λ (b : Bool). b || list_any is_owned slots) is) ∙ none) in
      omega (arith, one, rest)
]

-- Each variable owns one reference at most.
pub lists_one : (layout : Layout) (var : Slot) (row : Option ℕ) → lists layout var row ≤ 1
lists_one layout (Owned k) (Some x) = elim (cases_Bool (is_immortal_row layout x)) [
  | inl is ↦ omega (arith, ap {B = ℕ} (λ (b : Bool). cond b 0 1) is)
  | inr is ↦ omega (arith, ap {B = ℕ} (λ (b : Bool). cond b 0 1) is)
]
lists_one layout Empty row = omega arith
lists_one layout (Owned k) None = omega arith
lists_one layout (Caller k) row = omega arith
lists_one layout (Locked k) row = omega arith

pub sum_lists : (layout : Layout) (slots : List Slot) (rows : List (Option ℕ))
    → over_variables (lists layout) slots rows ≤ length slots
sum_lists layout [] rows = omega arith
sum_lists layout (s ∷ slots) [] = omega arith
sum_lists layout (s ∷ slots) (r ∷ rows) =
    let one = lists_one layout s r in let rest = sum_lists layout slots rows in omega (arith, one, rest)

-- At the beginning of an outermost call the variables own nothing.
pub entry_owned : (y : ℕ) → over_variables (owns y) (entry_of []).slots entry_variables ≡ 0
entry_owned y = refl

pub entry_listed : (layout : Layout) → over_variables (lists layout) (entry_of []).slots entry_variables ≡ 0
entry_listed layout = refl
