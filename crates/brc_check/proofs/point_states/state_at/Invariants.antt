use Rattle.std.proofs.Common.{◌≡◌}
use Rattle.std.specs.Prelude.{Some}
use Rattle.brc_check.specs.Tables.{state_at}
use Rattle.brc_check.proofs.point_states.state_at.Given as goal

abbrev pub invariant-loop-point : goal.invariant-loop-point
invariant-loop-point l = state_at l.code l.kept l.point ≡ Some l.state
