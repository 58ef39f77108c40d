use Rattle.std.proofs.Common.{refl, ap, arith}
use Rattle.brc_model.specs.declared.layout.Layout.{Layout}
use Rattle.brc_table.specs.Hands.{plan_of}
use Rattle.brc_table.proofs.Duties.{runs_on}
use Rattle.brc_table.proofs.ExitDuties.{leaving_becomes}
use Rattle.brc_table.proofs.words.Words.thread_leave.Goals as goal

pub step_from-requires-clause-begins : goal.step_from-requires-clause-begins
step_from-requires-clause-begins g c =
    leaving_becomes c.duties_are_kept.ensures c.releases_begin.ensures c.exits_begin.ensures (plan_of c.args.self.now)
    c.args.hand.now.view c.requires.may_leave

pub step_from-requires-clause-alive : goal.step_from-requires-clause-alive
step_from-requires-clause-alive g c = runs_on c.args.hand.now.view c.requires.may_leave.free.running

pub step_from-requires-clause-there : goal.step_from-requires-clause-there
step_from-requires-clause-there g c =
    let workers = ap (λ (l : Layout). l.workers) c.requires.table.1 in
    omega (arith, workers, c.rows_are_there.ensures.thread)

pub step_from-requires-clause-next : goal.step_from-requires-clause-next
step_from-requires-clause-next g c = refl
