use Rattle.std.proofs.Common.{◌≡◌}
use Rattle.std.specs.Prelude.{drop}
use Rattle.brc_machine.proofs.Arguments.{unstolen}
use Rattle.brc_machine.proofs.variables.kept_rows.Given as goal

-- what is left to be stolen leaves what all of it leaves
abbrev pub invariant-loop-argument : goal.invariant-loop-argument
invariant-loop-argument l =
    unstolen l.kept (drop l.argument-index l.arguments) ≡ unstolen l.variables l.arguments
