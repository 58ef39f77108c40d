use Rattle.std.proofs.Common.{◌≡◌, length}
use Rattle.brc_lang.specs.Limits.{instruction_limit}
use Rattle.brc_check.proofs.Lookups.{AreNumbersFrom}
use Rattle.brc_check.proofs.point_states.numbers_of.Given as goal

abbrev pub invariant-loop-number : goal.invariant-loop-number
invariant-loop-number l =
    record { count : length l.numbers ≡ instruction_limit; are : AreNumbersFrom l.kept l.number l.numbers }
