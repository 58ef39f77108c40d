-- What the thread gives up next stays the same.
use Rattle.std.proofs.Common.{◌≡◌, true, length}
use Rattle.brc_model.specs.Actions.{give_up}
use Rattle.brc_world.specs.OpenCalls.{all_rows, holds_rows}
use Rattle.brc_world.proofs.dispatch.stops.give_up.Given as goal

abbrev pub invariant-loop-thread : goal.invariant-loop-thread
invariant-loop-thread l = record {
  gives : give_up (all_rows l.thread.variables l.thread.outer)
      ≡ give_up (all_rows l.fn.thread.variables l.fn.thread.outer);
  some : holds_rows l.thread.variables l.thread.outer ≡ true;
  rest : l.thread ≡ record l.fn.thread {
    variables = l.thread.variables;
    turns = l.thread.turns;
    outer = l.thread.outer;
  };
}

abbrev pub decreases-loop-thread : goal.decreases-loop-thread
decreases-loop-thread l = length l.thread.outer
