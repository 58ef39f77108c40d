use Rattle.std.proofs.Common.{◌≡◌}
use Rattle.brc_table.specs.Hands.{IsOf}
use Rattle.brc_run.proofs.ending.finished.Given as goal

-- the hand is main's, of the same heap, and has joined the same hands
abbrev pub invariant-loop : goal.invariant-loop
invariant-loop g l = record {
  of : IsOf l.heap l.main;
  main : l.main.view.thread ≡ 0;
  heap : l.heap ≡ l.fn.heap;
  joined : l.main.view.joined ≡ l.fn.main.view.joined;
}
