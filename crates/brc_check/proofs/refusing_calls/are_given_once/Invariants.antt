use Rattle.std.proofs.Common.{◌≡◌}
use Rattle.std.specs.Prelude.{drop}
use Rattle.brc_model.specs.SlotStates.{are_given_once}
use Rattle.brc_check.proofs.refusing_calls.are_given_once.Given as goal

abbrev pub invariant-loop-number : goal.invariant-loop-number
invariant-loop-number l = are_given_once (drop l.number l.arguments) ≡ are_given_once l.arguments
