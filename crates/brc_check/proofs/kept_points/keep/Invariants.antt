use Rattle.std.proofs.Common.{◌≡◌}
use Rattle.brc_check.proofs.Marks.{picked}
use Rattle.brc_check.proofs.kept_points.keep.Given as goal

abbrev pub invariant-loop-at : goal.invariant-loop-at
invariant-loop-at l = l.kept ≡ picked l.code l.entries l.at
