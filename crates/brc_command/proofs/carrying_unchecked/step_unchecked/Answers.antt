use Rattle.std.proofs.Common.{sym, ◌∙◌}
use Rattle.brc_command.proofs.Outputs.{begun_anyway}
use Rattle.brc_command.proofs.Reasons.{ended_beyond}
use Rattle.brc_command.proofs.carrying_unchecked.step_unchecked.Goals as goal

pub returns-in-Ok-clause-why : goal.returns-in-Ok-clause-why
returns-in-Ok-clause-why g c = λ is.
    ended_beyond (g.L.Load.may_give c.args.load.now) (g.L.Load.may_lack c.args.load.now) c.args.file.now
    c.args.schedule.now c.args.trace _ _ _ _ c.in-Ok.ending (sym c.status.ensures.exact ∙ is) c.in-Ok.ensures.ended
    (begun_anyway c.write_ending.result _ _ _ c.write_ending.ensures.whole c.write_ending.ensures.begun)
