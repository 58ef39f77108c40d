use Rattle.std.specs.Prelude.{[], ◌∷◌}
use Rattle.brc_model.specs.Layout.{root_row}
use Rattle.brc_queue_tests.specs.Sharing.{HasWork}
use Rattle.brc_queue_tests.proofs.meeting.puts_at.Given as goal

abbrev pub invariant-loop : goal.invariant-loop
invariant-loop l = HasWork l.heap l.hand (l.row ∷ root_row ∷ []) []
