use Rattle.std.proofs.Common.{◌≡◌, false, replicate}
use Rattle.brc_c_paths.proofs.near.no_objects.Given as goal

abbrev pub invariant-loop-at : goal.invariant-loop-at
invariant-loop-at l = l.near.items ≡ replicate l._at false
