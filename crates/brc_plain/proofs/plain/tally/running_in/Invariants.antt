use Rattle.std.proofs.Common.{◌≡◌, ◌≤◌, take}
use Rattle.std.specs.Prelude.{count_by, not}
use Rattle.brc_model.specs.Safety.{has_gone}
use Rattle.brc_plain.proofs.plain.tally.running_in.Given as goal

-- the running threads so far are counted
abbrev pub invariant-loop-thread : goal.invariant-loop-thread
invariant-loop-thread l = record {
  few : l.running ≤ l.thread-index;
  all : l.running ≡ count_by (λ thread. not (has_gone thread.status)) (take l.thread-index l.threads);
}
