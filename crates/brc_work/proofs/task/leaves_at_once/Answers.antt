use Rattle.std.proofs.Common.{ap, ◌∙◌}
use Rattle.brc_host.specs.HostCounts.{raised}
use Rattle.brc_work.specs.declared.totals.Totals.{Totals}
use Rattle.brc_work.proofs.Counting.{leaves_close, asked_closes}
use Rattle.brc_work.proofs.task.leaves_at_once.Goals as goal

pub returns-clause-asked : goal.returns-clause-asked
returns-clause-asked g c =
    let work = c.leave-failed.ensures.work in
    let failed = c.leave-failed.result in
    asked_closes work.0 failed (leaves_close _ _ work.0 work.1) work.2
    (c.count_close_faults.ensures
    ∙ ap (λ (t : Totals). record t { close_faults = raised failed t.close_faults }) c.new-totals.ensures)
    work.3 work.1
