use Rattle.std.proofs.Common.{◌≡◌}
use Rattle.std.specs.Prelude.{drop, fold}
use Rattle.brc_c_paths.specs.Paths.{follow, choices_of, graph_end}
use Rattle.brc_c_paths.specs.Replaying.{end_found}
use Rattle.brc_c_paths.proofs.replaying.end_of.Given as goal

-- the steps that are left lead from here to where all lead from the entry
abbrev pub invariant-loop-step : goal.invariant-loop-step
invariant-loop-step l =
    fold (follow l.rules l.graph l.live) (end_found l.end) (choices_of (drop l.step-index l.steps))
    ≡ graph_end l.rules l.graph l.live (choices_of l.steps)
