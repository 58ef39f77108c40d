-- The world has as many threads as at the start.
use Rattle.std.proofs.Common.{◌≡◌, length}
use Rattle.brc_picture.proofs.seen.see_line.Given as goal

abbrev pub invariant-loop-done : goal.invariant-loop-done
invariant-loop-done l = length l.world.actors ≡ length l.initial.world.actors
