-- The tally of the last world that a schedule leads to.
use Rattle.std.proofs.Common.{◌≡◌, ℕ, List, ap, ◌∙◌}
use Rattle.std.specs.Prelude.{Result, Ok, Err, IfOk}
use Rattle.brc_model.specs.declared.thread.Call.{Call}
use Rattle.brc_model.specs.declared.thread.Choice.{Choice}
use Rattle.brc_model.specs.World.{World}
use Rattle.brc_report.specs.declared.tally.Tally.{Tally}
use Rattle.brc_world.specs.Runs.{world_after}
use Rattle.brc_world.specs.Tallies.{tally_of}

pub tally_of_last : {E : Type 0} (begins : List Call → World) (calls planned : List Call) (events : List (ℕ × Choice))
    (first last : World) (r : Result Tally E) → calls ≡ planned → first ≡ begins calls
    → last ≡ world_after first events → IfOk r (λ tally. tally ≡ tally_of last)
    → IfOk r (λ tally. tally ≡ tally_of (world_after (begins planned) events))
tally_of_last begins calls planned events first last (Ok tally) same is led counted =
    counted ∙ ap tally_of (led ∙ ap (λ (w : World). world_after w events) (is ∙ ap begins same))
tally_of_last begins calls planned events first last (Err e) same is led counted = counted
