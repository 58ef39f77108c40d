use Rattle.brc_check.proofs.Lookups.{IsBehind}
use Rattle.brc_check.proofs.point_states.number_of.Given as goal

abbrev pub invariant-loop-number : goal.invariant-loop-number
invariant-loop-number l = IsBehind l.kept l.at l.number
