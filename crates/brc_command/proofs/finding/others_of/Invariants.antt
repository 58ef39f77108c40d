-- The refusals so far are of functions of the module.
use Rattle.std.specs.List.{AllByRecursion}
use Rattle.brc_command.specs.Findings.{IsOther}
use Rattle.brc_command.proofs.finding.others_of.Given as goal

abbrev pub invariant-loop-number : goal.invariant-loop-number
invariant-loop-number l = AllByRecursion (IsOther l.«module») l.others
