use Rattle.std.proofs.Common.{◌≡◌}
use Rattle.std.specs.Prelude.{drop, fold}
use Rattle.brc_model.specs.Actions.{without_row}
use Rattle.brc_model.specs.SlotStates.{stolen}
use Rattle.brc_work.proofs.variables.keep.Given as goal

-- what is left to be stolen leaves what all of it leaves
abbrev pub invariant-loop-argument : goal.invariant-loop-argument
invariant-loop-argument l =
    fold without_row l.rows (stolen (drop l.argument-index l.arguments))
    ≡ fold without_row l.fn.rows (stolen l.arguments)
