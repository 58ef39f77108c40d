use Rattle.std.proofs.Common.{◌≡◌, ℕ, ◌+◌, ◌-◌, ◌<◌, ◌≤◌, List, length}
use Rattle.brc_table.specs.Hands.{IsOf}
use Rattle.brc_table.specs.Ending.{SeesEnd}
use Rattle.brc_heap.specs.Ends.{AllEnded, having_looked}
use Rattle.brc_heap.proofs.heap.Heap.finish.Given as goal

-- Main's hand has looked at the words of the threads below this one, and has seen their ends.
abbrev pub invariant-loop-thread : goal.invariant-loop-thread
invariant-loop-thread g l = record {
  of : IsOf l.self l.main;
  heap : l.self ≡ l.fn.self;
  main : l.main.view.thread ≡ 0;
  workers : l.workers ≡ l.self.layout.workers;
  few : l.workers ≤ 32;
  most : l.thread ≤ l.workers + 1;
  seen : (t : ℕ) → t < l.thread → SeesEnd l.main.view t;
  carried : l.main.carried ≡ l.fn.main.carried;
  fields : l.main.fields ≡ l.fn.main.fields;
  words : List ℕ;
  each : length words ≡ l.thread;
  ended : AllEnded words;
  looked : l.main.view ≡ having_looked l.fn.main.view words;
}

abbrev pub decreases-loop-thread : goal.decreases-loop-thread
decreases-loop-thread g l = l.workers + 1 - l.thread
