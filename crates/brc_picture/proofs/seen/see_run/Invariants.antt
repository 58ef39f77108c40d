-- The world has as many threads as at the start.
use Rattle.std.proofs.Common.{◌≡◌, length}
use Rattle.brc_picture.proofs.seen.see_run.Given as goal

abbrev pub invariant-loop-line : goal.invariant-loop-line
invariant-loop-line l = length l.world.actors ≡ length l.initial.world.actors
