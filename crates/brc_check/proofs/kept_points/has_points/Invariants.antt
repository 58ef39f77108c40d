use Rattle.brc_check.proofs.Marks.{IsLeft}
use Rattle.brc_check.proofs.kept_points.has_points.Given as goal

abbrev pub invariant-loop-at : goal.invariant-loop-at
invariant-loop-at l = IsLeft l.code l.kept l.number l.at
