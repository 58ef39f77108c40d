use Rattle.std.proofs.Common.{sym, ◌∙◌, arith}
use Rattle.brc_work.proofs.Counting.{asked_as}
use Rattle.brc_work.proofs.Stepping.{leads_on}
use Rattle.brc_work.proofs.Traces.Calls.{steps_by}
use Rattle.brc_work.proofs.worker.Worker.step.Goals as goal

pub target_of-requires : goal.target_of-requires
target_of-requires g c = omega (arith, c.requires.low)

pub unreachable-requires : goal.unreachable-requires
unreachable-requires g c =
    let leads = leads_on c.args.instr.now c.perform-exit.result c.args.at c.requires.stays in
    c.in_default.not-Some leads.0 (c.target_of.ensures ∙ leads.1)

pub returns-clause-goes : goal.returns-clause-goes
returns-clause-goes g c =
    (c.perform-exit.result, sym c.target_of.ensures ∙ c.in-Some.is, c.perform-exit.ensures.done)

pub returns-clause-asked : goal.returns-clause-asked
returns-clause-asked g c =
    asked_as (λ cs.
    steps_by {cs = cs} c.args.at c.in-Some.next c.args.instr.now c.perform-exit.result _ _ _ _ _ _
    (sym c.target_of.ensures ∙ c.in-Some.is)) c.perform-exit.ensures.asked
