use Rattle.std.proofs.Common.{◌≡◌, ℕ, ◌<◌}
use Rattle.std.specs.Prelude.{Some, slice_get}
use Rattle.brc_c_paths.specs.declared.fault.Fault.{Fault}
use Rattle.brc_c_paths.specs.Closed.{IsPathOf}
use Rattle.brc_c_paths.proofs.judging.are_paths.Given as goal

-- the faults in front have paths
abbrev pub invariant-loop-fault : goal.invariant-loop-fault
invariant-loop-fault l =
    (k : ℕ) (fault : Fault) → k < l.fault-index → slice_get l.faults k ≡ Some fault
    → IsPathOf l.rules l.graph l.live fault
