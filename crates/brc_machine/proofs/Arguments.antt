-- What a call's arguments leave in the variables of the caller, and give those of the function called.
use Rattle.std.proofs.Common.{◌≡◌, ℕ, zero, suc, ◌+◌, ◌<◌, ◌≤◌, true, cond, List, [], ◌∷◌, length, refl, sym, ap, ◌∙◌, arith}
use Rattle.std.specs.Prelude.{Option, None, Some, is_some, ◌&&◌, drop, take, map, fold, slice_set}
use Rattle.std.specs.List.{list_all, slice_index_or}
use Rattle.std.proofs.lemmas.List.{drop_more, drop_all, take_all}
use Rattle.brc_lang.specs.declared.parameter.Argument.{Argument}
use Rattle.brc_lang.specs.declared.parameter.Passing.{Passing}
use Rattle.brc_lang.specs.declared.parameter.Passing.TheVariants.{Borrow, Steal}
use Rattle.brc_model.specs.Layout.{root_row}
use Rattle.brc_model.specs.SlotStates.{is_stolen, stolen, padded}
use Rattle.brc_model.specs.Threads.{row_of}
use Rattle.brc_model.specs.Actions.{argument_rows, without_row}

from_drop : (arguments : List Argument) (k : ℕ) (a : Argument) → k < length arguments
    → a ≡ slice_index_or arguments k a → drop k arguments ≡ a ∷ drop (k + 1) arguments
from_drop arguments k a lt is =
    drop_more arguments k a lt ∙ ap (λ (x : Argument). x ∷ drop (k + 1) arguments) (sym is)

-- ---- what the caller keeps

-- the variables once all that these arguments steal is gone from them
abbrev pub unstolen : List (Option ℕ) → List Argument → List (Option ℕ)
unstolen rows arguments = fold without_row rows (stolen arguments)

-- one argument more is stolen, or isn't
unstolen_first : (rows : List (Option ℕ)) (a : Argument) (others : List Argument)
    → unstolen rows (a ∷ others) ≡ unstolen (cond (is_stolen a) (slice_set rows a.from None) rows) others
unstolen_first rows a others =
    let as_passed : Passing → Argument = λ p.
    record { from = a.from; parameter = record { passing = p; kind = a.parameter.kind } } in
    elim a.parameter.passing as (λ p. unstolen rows (as_passed p ∷ others)
    ≡ unstolen (cond (is_stolen (as_passed p)) (slice_set rows a.from None) rows) others) [
      | Borrow ↦ refl
      | Steal ↦ refl
    ]

pub unstolen_more : (rows : List (Option ℕ)) (arguments : List Argument) (k : ℕ) (a : Argument)
    → k < length arguments → a ≡ slice_index_or arguments k a
    → unstolen rows (drop k arguments)
    ≡ unstolen (cond (is_stolen a) (slice_set rows a.from None) rows) (drop (k + 1) arguments)
unstolen_more rows arguments k a lt is =
    ap (unstolen rows) (from_drop arguments k a lt is) ∙ unstolen_first rows a (drop (k + 1) arguments)

pub unstolen_all : (rows : List (Option ℕ)) (arguments : List Argument) (k : ℕ) → length arguments ≤ k
    → unstolen rows (drop k arguments) ≡ rows
unstolen_all rows arguments k past = ap (unstolen rows) (drop_all k arguments past)

-- ---- whether all name a row

pub named_more : (rows : List (Option ℕ)) (arguments : List Argument) (k : ℕ) (a : Argument) → k < length arguments
    → a ≡ slice_index_or arguments k a
    → list_all is_some (argument_rows rows (drop k arguments))
    ≡ (is_some (row_of rows a.from) && list_all is_some (argument_rows rows (drop (k + 1) arguments)))
named_more rows arguments k a lt is =
    ap (λ (those : List Argument). list_all is_some (argument_rows rows those)) (from_drop arguments k a lt is)

pub named_all : (rows : List (Option ℕ)) (arguments : List Argument) (k : ℕ) → length arguments ≤ k
    → list_all is_some (argument_rows rows (drop k arguments)) ≡ true
named_all rows arguments k past =
    ap (λ (those : List Argument). list_all is_some (argument_rows rows those)) (drop_all k arguments past)

-- ---- what the function called has

-- one item more of those before the padding
padded_set : {A B : Type 0} (h : B → A) (n k : ℕ) (d : A) (xs : List B) (e : B) → k < length xs
    → slice_set (padded n d (map h (take k xs))) k (h (slice_index_or xs k e)) ≡ padded n d (map h (take (suc k) xs))
padded_set h zero k d xs e lt = refl
padded_set h (suc n) k d [] e lt = absurd (omega (arith, lt))
padded_set h (suc n) zero d (x ∷ xs) e lt = refl
padded_set h (suc n) (suc k) d (x ∷ xs) e lt = ap (λ zs. h x ∷ zs) (padded_set h n k d xs e (omega (arith, lt)))

-- items that have no place in the padded list don't matter
padded_take : {A B : Type 0} (h : B → A) (n k : ℕ) (d : A) (xs : List B) → n ≤ k
    → padded n d (map h (take k xs)) ≡ padded n d (map h xs)
padded_take h zero k d xs le = refl
padded_take h (suc n) zero d xs le = absurd (omega (arith, le))
padded_take h (suc n) (suc k) d [] le = refl
padded_take h (suc n) (suc k) d (x ∷ xs) le = ap (λ zs. h x ∷ zs) (padded_take h n k d xs (omega (arith, le)))

-- the variables at the start of the call, where only the first arguments are passed
abbrev pub passed_to : ℕ → List (Option ℕ) → List Argument → List (Option ℕ)
passed_to number rows arguments =
    Some root_row ∷ padded 15 None (map (λ (a : Argument). row_of rows a.from) (take number arguments))

pub passed_more : (passed rows : List (Option ℕ)) (arguments : List Argument) (number : ℕ) (none : Argument)
    (row : Option ℕ)
    → passed ≡ passed_to number rows arguments → number < length arguments
    → row ≡ row_of rows (slice_index_or arguments number none).from
    → slice_set passed (number + 1) row ≡ passed_to (number + 1) rows arguments
passed_more passed rows arguments number none row is lt is_row =
    let next : number + 1 ≡ suc number = omega arith in
    (λ i. slice_set (is i) (next i) (is_row i))
    ∙ ap (λ (vs : List (Option ℕ)). Some root_row ∷ vs)
    (padded_set (λ (a : Argument). row_of rows a.from) 15 number None arguments none lt)
    ∙ ap (λ n. passed_to n rows arguments) (sym next)

pub passed_past : (passed rows : List (Option ℕ)) (arguments : List Argument) (number : ℕ)
    → passed ≡ passed_to number rows arguments → length arguments ≤ number
    → passed ≡ passed_to (number + 1) rows arguments
passed_past passed rows arguments number is past =
    is ∙ ap (λ (those : List Argument). Some root_row ∷ padded 15 None (argument_rows rows those))
    (take_all number arguments past ∙ sym (take_all (number + 1) arguments (omega (arith, past))))

pub passed_all : (passed rows : List (Option ℕ)) (arguments : List Argument) (number : ℕ)
    → passed ≡ passed_to number rows arguments → 15 ≤ number
    → passed ≡ Some root_row ∷ padded 15 None (argument_rows rows arguments)
passed_all passed rows arguments number is all =
    is ∙ ap (λ (vs : List (Option ℕ)). Some root_row ∷ vs)
    (padded_take (λ (a : Argument). row_of rows a.from) 15 number None arguments all)
