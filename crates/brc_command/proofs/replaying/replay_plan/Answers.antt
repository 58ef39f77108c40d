use Rattle.std.proofs.Common.{ℕ, Bool, ap, ◌∙◌, subst}
use Rattle.std.specs.Prelude.{map}
use Rattle.brc_plain.specs.Begun.{begun}
use Rattle.brc_replay.specs.WrongRuns.{event_in}
use Rattle.brc_command.specs.WholeRuns.{EndsWithReport, StopsAt}
use Rattle.brc_command.proofs.Reasons.{spent}
use Rattle.brc_command.proofs.Rerunning.{ended_by, plan_holds, plan_wrong}
use Rattle.brc_command.proofs.replaying.replay_plan.Goals as goal

pub returns-clause-ended : goal.returns-clause-ended
returns-clause-ended g c =
    let plan = c.args.plan.now in
    let m = c.args.module.now in
    let listed = c.in_ok-listed in
    let s = listed.listed.schedule in
    let calls = c.as_slice.result.now in
    let events = c.as_slice-2.result.now in
    let found = c.as_slice.ensures.value ∙ listed.ensures.found in
    let are = ap (map event_in) c.as_slice-2.ensures.value ∙ listed.ensures.made in
    let old = g.W.Write.contents c.args.out.now in
    let new = g.W.Write.contents c.replay_run.new.out in
    ended_by (λ w. plan_holds plan m s calls events listed.ensures.spelled found are
    (EndsWithReport c.args.trace old new) listed.ensures.known
    (subst (λ (b : Bool). EndsWithReport b old new (begun m s.rows calls) (map event_in events))
    c.paint_for.ensures w))
    (λ w. plan_wrong plan m s calls events listed.ensures.spelled found are w.count w.wrong)
    (λ (number : ℕ) stops. plan_holds plan m s calls events listed.ensures.spelled found are (StopsAt number)
    listed.ensures.known stops)
    c.replay_run.result c.replay_run.ensures.ended

pub returns-clause-fault : goal.returns-clause-fault
returns-clause-fault g c = spent c.args.module.now c.args.plan.now c.replay_run.result c.replay_run.ensures.fault
