use Rattle.std.proofs.Common.{◌≡◌}
use Rattle.brc_check.proofs.Calls.{entry_to}
use Rattle.brc_check.proofs.state.entry_of.Given as goal

abbrev pub invariant-loop-number : goal.invariant-loop-number
invariant-loop-number l = l.slots ≡ entry_to l.number l.parameters
