use Rattle.std.specs.Prelude.{◌≡◌, ◌⊎◌, [], ◌∷◌}
use Rattle.brc_model.specs.declared.duty.Reason.TheVariants.{Own}
use Rattle.brc_model.specs.declared.duty.Duty.TheVariants.{SharedLoad}
use Rattle.brc_table.specs.Views.{work_about}
use Rattle.brc_table.specs.Hands.{IsOf}
use Rattle.brc_table.specs.Calls.{CanAct}
use Rattle.brc_heap.specs.Calls.{Leaves}
use Rattle.brc_bench.proofs.pairs.release_shared.Given as goal

-- No try has been made yet, or the last one left the release to be tried again.
abbrev pub invariant-loop : goal.invariant-loop
invariant-loop l = IsOf l.heap l.hand
    × ((l.hand.view ≡ l.fn.hand.view) ⊎ Leaves l.row (SharedLoad l.row Own ∷ []) l.fn.hand.view l.hand.view)
    × CanAct l.hand.view × (work_about l.row l.hand.view ≡ SharedLoad l.row Own ∷ [])
    × (l.hand.view.references ≡ l.fn.hand.view.references) × (l.row ≡ l.fn.row)
