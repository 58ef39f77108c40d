use Rattle.std.proofs.Common.{◌≡◌, ◌+◌, ◌-◌, ◌∷◌, ◌++◌}
use Rattle.brc_model.specs.FirstRows.{rows_from}
use Rattle.brc_model.specs.Layout.{root_row}
use Rattle.brc_plain.proofs.first.first_born.Given as goal

-- The numbers so far, and those that are left, are all of them.
abbrev pub invariant-loop-number : goal.invariant-loop-number
invariant-loop-number l =
    l.born.items ++ rows_from (l.first + l.number) (l.fn.layout.numbers - l.number)
    ≡ root_row ∷ rows_from l.first l.fn.layout.numbers
