use Rattle.std.specs.Prelude.{◌≡◌}
use Rattle.brc_model.specs.declared.duty.Reason.TheVariants.{Own}
use Rattle.brc_model.specs.Layout.{root_row}
use Rattle.brc_table.specs.Hands.{IsOf}
use Rattle.brc_heap.specs.Calls.{Leaves, shared_left}
use Rattle.brc_heap_tests.proofs.calls.release_shared.Given as goal

abbrev pub invariant-loop : goal.invariant-loop
invariant-loop l = IsOf l.heap l.hand
    × Leaves root_row (shared_left root_row Own l.ended) l.fn.hand.view l.hand.view
    × (l.hand.view.references ≡ l.fn.hand.view.references)
