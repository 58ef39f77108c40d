use Rattle.std.proofs.Common.{◌≡◌}
use Rattle.std.specs.Prelude.{drop}
use Rattle.brc_model.specs.SlotStates.{without_stolen}
use Rattle.brc_check.proofs.variables.forget_stolen.Given as goal

-- what is left to be stolen leaves what all of it leaves
abbrev pub invariant-loop-argument : goal.invariant-loop-argument
invariant-loop-argument l =
    without_stolen l.state (drop l.argument-index l.arguments) ≡ without_stolen l.fn.state l.arguments
