use Rattle.std.proofs.Common.{◌≡◌, take}
use Rattle.std.specs.Prelude.{sum_by}
use Rattle.brc_host.specs.HostCounts.{raised}
use Rattle.brc_work.specs.declared.totals.Totals.{Totals}
use Rattle.brc_run.proofs.tally.close_faults_in.Given as goal

-- the faults so far are counted
abbrev pub invariant-loop-counted : goal.invariant-loop-counted
invariant-loop-counted l = l.faults ≡ raised (sum_by (λ (t : Totals). t.close_faults) (take l.counted-index l.totals)) 0
