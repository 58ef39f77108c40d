use Rattle.std.proofs.Common.{◌≡◌, ℕ, ◌+◌, ◌-◌, List, [], ◌∷◌, ◌++◌, sym, ap, ◌∙◌, arith}
use Rattle.std.proofs.lemmas.List.{append_assoc}
use Rattle.brc_model.specs.FirstRows.{rows_from}
use Rattle.brc_model.specs.Layout.{root_row}
use Rattle.brc_plain.proofs.FirstLists.{next_row, no_row}
use Rattle.brc_plain.proofs.first.first_born.Goals as goal

pub loop-number-init : goal.loop-number-init
loop-number-init c =
    let first = c.first_number-first.result in
    let all = c.args.layout.numbers in
    let begin : first + 0 ≡ first = omega arith in
    let each : all - 0 ≡ all = omega arith in
    ap (λ (those : List ℕ). those ++ rows_from (first + 0) (all - 0)) c.in_ok-push.ensures.items
    ∙ (λ i. (c.new-born.ensures.items i ++ root_row ∷ []) ++ rows_from (begin i) (each i))

pub loop-number-preserved : goal.loop-number-preserved
loop-number-preserved c =
    let first = c.first_number-first.result in
    let number = c.loop-number.number in
    let all = c.args.layout.numbers in
    let born = c.loop-number.born.items in
    let left = rows_from (first + (number + 1)) (all - (number + 1)) in
    ap (λ (those : List ℕ). those ++ left) c.in_ok-push-2.ensures.items
    ∙ append_assoc born ((first + number) ∷ []) left
    ∙ ap (λ (those : List ℕ). born ++ those) (sym (next_row first all number (omega arith)))
    ∙ c.loop-number.invariant

pub returns : goal.returns
returns c =
    let first = c.first_number-first.result in
    let number = c.loop-number.number in
    let all = c.args.layout.numbers in
    sym (no_row (first + number) all number c.loop-number.born.items (omega arith))
    ∙ c.loop-number.invariant
    ∙ ap (λ (x : ℕ). root_row ∷ rows_from x all) c.first_number-first.ensures
