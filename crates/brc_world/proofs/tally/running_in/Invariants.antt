use Rattle.std.proofs.Common.{◌≡◌, ◌≤◌, take}
use Rattle.std.specs.Prelude.{count_by}
use Rattle.brc_machine.specs.MachineTallies.{still_runs}
use Rattle.brc_world.specs.Actors.{actor_of}
use Rattle.brc_world.proofs.tally.running_in.Given as goal

-- the running threads so far are counted
abbrev pub invariant-loop-thread : goal.invariant-loop-thread
invariant-loop-thread l = record {
  few : l.running ≤ l.thread-index;
  all : l.running ≡ count_by (λ thread. still_runs (actor_of thread)) (take l.thread-index l.threads);
}
