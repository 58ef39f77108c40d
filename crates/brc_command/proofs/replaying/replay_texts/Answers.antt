use Rattle.std.proofs.Common.{ℕ}
use Rattle.brc_command.specs.WholeRuns.{EndsWithReport, StopsAt}
use Rattle.brc_command.specs.WrongRuns.{PlanGoesWrong}
use Rattle.brc_command.proofs.Reasons.{replay_fault}
use Rattle.brc_command.proofs.Rerunning.{ended_by, texts_hold}
use Rattle.brc_command.proofs.replaying.replay_texts.Goals as goal

pub returns-clause-ended : goal.returns-clause-ended
returns-clause-ended g c =
    let m = c.in_ok-module.module in
    let spelled = c.in_ok-module.ensures in
    let old = g.W.Write.contents c.args.out.now in
    let new = g.W.Write.contents c.replay_plan.new.out in
    ended_by (texts_hold c.args.text.now c.args.plan.now m spelled (EndsWithReport c.args.trace old new))
    (λ (w : PlanGoesWrong m c.args.plan.now). record { m = m; module_read = spelled; wrong = w })
    (λ (number : ℕ). texts_hold c.args.text.now c.args.plan.now m spelled (StopsAt number))
    c.replay_plan.result c.replay_plan.ensures.ended

pub returns-clause-fault : goal.returns-clause-fault
returns-clause-fault g c =
    replay_fault c.args.text.now c.args.plan.now c.in_ok-module.module c.in_ok-module.ensures c.replay_plan.result
    c.replay_plan.ensures.fault
