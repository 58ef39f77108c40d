use Rattle.brc_check.proofs.Trails.{IsBackWithin}
use Rattle.brc_check.proofs.trail.exits_to.Given as goal

abbrev pub invariant-loop-at : goal.invariant-loop-at
invariant-loop-at l = IsBackWithin l.list l.number l.back.items l.at

abbrev pub decreases-loop-at : goal.decreases-loop-at
decreases-loop-at l = l.at
