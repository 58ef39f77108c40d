-- The objects left among the rows below one, and the tally.
use Rattle.std.proofs.Common.{◌≡◌, ℕ, ◌+◌, ◌-◌, ◌≤◌, Bool, true, false, cond, List, [], ◌∷◌, ◌++◌, length, map, refl, sym, ap, ◌∙◌, append-nil, arith}
use Rattle.std.specs.Prelude.{filter}
use Rattle.std.specs.List.{range_with_len}
use Rattle.std.proofs.lemmas.List.{map-id, map-append}
use Rattle.std.proofs.lemmas.List.FromFn.{filter_of_map_range_with_len_more}
use Rattle.brc_model.specs.AbstractState.{AbstractState}
use Rattle.brc_report.specs.declared.tally.Left.{Left}
use Rattle.brc_machine.specs.MachineTallies.{is_left, left_object}

-- the objects left in the n rows from 1 on, as a report lists them
abbrev pub left_below : AbstractState → ℕ → List Left
left_below p n = map (left_object p) (filter (is_left p) (range_with_len 1 n))

left_more : (p : AbstractState) (row : ℕ) → 1 ≤ row
    → left_below p (row + 1 - 1) ≡ left_below p (row - 1) ++ map (left_object p) (cond (is_left p row) (row ∷ []) [])
left_more p row low =
    let next : row + 1 - 1 ≡ (row - 1) + 1 = omega (arith, low) in
    let each : ℕ → ℕ = λ x. x in
    let all : List ℕ → List ℕ = filter (is_left p) in
    ap (left_below p) next
    ∙ ap (map (left_object p))
    (sym (ap all (map-id (range_with_len 1 ((row - 1) + 1))))
    ∙ filter_of_map_range_with_len_more (is_left p) each 1 (row - 1) row (omega (arith, low))
    ∙ ap (λ (l : List ℕ). all l ++ cond (is_left p row) (row ∷ []) []) (map-id (range_with_len 1 (row - 1))))
    ∙ map-append (left_object p) (all (range_with_len 1 (row - 1))) (cond (is_left p row) (row ∷ []) [])

-- An object that is left is listed after those in the rows below.
pub left_here : (p : AbstractState) (row : ℕ) → 1 ≤ row → is_left p row ≡ true
    → left_below p (row + 1 - 1) ≡ left_below p (row - 1) ++ left_object p row ∷ []
left_here p row low left =
    left_more p row low
    ∙ ap (λ (b : Bool). left_below p (row - 1) ++ map (left_object p) (cond b (row ∷ []) [])) left

-- A row without one lists nothing.
pub none_here : (p : AbstractState) (row : ℕ) → 1 ≤ row → is_left p row ≡ false
    → left_below p (row + 1 - 1) ≡ left_below p (row - 1)
none_here p row low none =
    left_more p row low
    ∙ ap (λ (b : Bool). left_below p (row - 1) ++ map (left_object p) (cond b (row ∷ []) [])) none
    ∙ append-nil (left_below p (row - 1))
