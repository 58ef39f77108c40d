use Rattle.std.proofs.Common.{◌≡◌, length}
use Rattle.brc_c_table.specs.Lines.{rest_is_last}
use Rattle.brc_c_table.proofs.line.rest_is_last.Given as goal

abbrev pub invariant-loop-rest : goal.invariant-loop-rest
invariant-loop-rest l = rest_is_last l.takes ≡ rest_is_last l.rest

abbrev pub decreases-loop-rest : goal.decreases-loop-rest
decreases-loop-rest l = length l.rest
