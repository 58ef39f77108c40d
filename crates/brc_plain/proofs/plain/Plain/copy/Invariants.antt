use Rattle.std.proofs.Common.{◌≡◌, take, map}
use Rattle.brc_plain.specs.Threads.{actor_of}
use Rattle.brc_plain.proofs.plain.Plain.copy.Given as goal

-- The threads so far are copied.
abbrev pub invariant-loop-thread : goal.invariant-loop-thread
invariant-loop-thread l =
    map actor_of l.threads.items ≡ map actor_of (take l.thread-index l.thread-items)
