-- The variables of a function as it is called: they are filled one after another.
use Rattle.std.proofs.Common.{◌≡◌, ℕ, zero, suc, ◌+◌, ◌<◌, ◌≤◌, List, [], ◌∷◌, length, map, Option, None, Some, refl, sym, ap, ◌∙◌, arith}
use Rattle.std.specs.Prelude.{take, drop, fold, slice_set}
use Rattle.std.specs.List.{slice_index_or}
use Rattle.std.proofs.lemmas.List.{drop_all, take_all}
use Rattle.brc_lang.specs.declared.parameter.Argument.{Argument}
use Rattle.brc_model.specs.Actions.{without_row}
use Rattle.brc_model.specs.Layout.{root_row}
use Rattle.brc_model.specs.Threads.{row_of}
use Rattle.brc_model.specs.SlotStates.{padded, stolen}

-- One item more of those before the padding.
padded_set : {A B : Type 0} (h : B → A) (n k : ℕ) (d : A) (xs : List B) (e : B) → k < length xs
    → slice_set (padded n d (map h (take k xs))) k (h (slice_index_or xs k e)) ≡ padded n d (map h (take (suc k) xs))
padded_set h zero k d xs e lt = refl
padded_set h (suc n) k d [] e lt = absurd (omega (arith, lt))
padded_set h (suc n) zero d (x ∷ xs) e lt = refl
padded_set h (suc n) (suc k) d (x ∷ xs) e lt = ap (λ zs. h x ∷ zs) (padded_set h n k d xs e (omega (arith, lt)))

-- Items that have no place in the padded list don't matter.
padded_take : {A B : Type 0} (h : B → A) (n k : ℕ) (d : A) (xs : List B) → n ≤ k
    → padded n d (map h (take k xs)) ≡ padded n d (map h xs)
padded_take h zero k d xs le = refl
padded_take h (suc n) zero d xs le = absurd (omega (arith, le))
padded_take h (suc n) (suc k) d [] le = refl
padded_take h (suc n) (suc k) d (x ∷ xs) le = ap (λ zs. h x ∷ zs) (padded_take h n k d xs (omega (arith, le)))

-- the variables of the callee, where only the first arguments have theirs
abbrev pub passed_to : List (Option ℕ) → ℕ → List Argument → List (Option ℕ)
passed_to rows number arguments =
    Some root_row ∷ padded 15 None (map (λ a. row_of rows a.from) (take number arguments))

-- One argument more has its variable.
pub passed_more : (rows inner : List (Option ℕ)) (arguments : List Argument) (number : ℕ) (none : Argument)
    (row : Option ℕ) → inner ≡ passed_to rows number arguments → number < length arguments
    → row ≡ row_of rows (slice_index_or arguments number none).from
    → slice_set inner (number + 1) row ≡ passed_to rows (number + 1) arguments
passed_more rows inner arguments number none row is lt is_row =
    let next : number + 1 ≡ suc number = omega arith in
    (λ i. slice_set (is i) (next i) (is_row i))
    ∙ ap (λ (rs : List (Option ℕ)). Some root_row ∷ rs)
    (padded_set (λ (a : Argument). row_of rows a.from) 15 number None arguments none lt)
    ∙ ap (λ n. passed_to rows n arguments) (sym next)

-- No argument is left.
pub passed_past : (rows inner : List (Option ℕ)) (arguments : List Argument) (number : ℕ)
    → inner ≡ passed_to rows number arguments → length arguments ≤ number
    → inner ≡ passed_to rows (number + 1) arguments
passed_past rows inner arguments number is past =
    is ∙ ap (λ (xs : List Argument). Some root_row ∷ padded 15 None (map (λ a. row_of rows a.from) xs))
    (take_all number arguments past ∙ sym (take_all (number + 1) arguments (omega (arith, past))))

-- Each variable has had its turn.
pub passed_all : (rows inner : List (Option ℕ)) (arguments : List Argument) (number : ℕ)
    → inner ≡ passed_to rows number arguments → 15 ≤ number
    → inner ≡ Some root_row ∷ padded 15 None (map (λ a. row_of rows a.from) arguments)
passed_all rows inner arguments number is all =
    is ∙ ap (λ (rs : List (Option ℕ)). Some root_row ∷ rs)
    (padded_take (λ (a : Argument). row_of rows a.from) 15 number None arguments all)

-- Nothing is left to be stolen.
pub stolen_all : (rows : List (Option ℕ)) (arguments : List Argument) (k : ℕ) → length arguments ≤ k
    → fold without_row rows (stolen (drop k arguments)) ≡ rows
stolen_all rows arguments k past =
    ap (λ (xs : List Argument). fold without_row rows (stolen xs)) (drop_all k arguments past)
