-- The instructions of the functions so far are counted.
use Rattle.std.specs.Prelude.{◌≡◌, take}
use Rattle.brc_command.specs.Accepted.{instruction_count}
use Rattle.brc_command.proofs.accepted.instruction_count.Given as goal

abbrev pub invariant-loop-function : goal.invariant-loop-function
invariant-loop-function l = l.count ≡ instruction_count (take l.function-index l.functions)
