use Rattle.std.proofs.Common.{ap, ◌∙◌}
use Rattle.std.specs.Prelude.{map}
use Rattle.brc_replay.specs.WrongRuns.{event_in}
use Rattle.brc_command.proofs.EventsListed.{spelled}
use Rattle.brc_command.proofs.run_text.spells_wrong_run.Goals as goal

pub returns-in-Ok : goal.returns-in-Ok
returns-in-Ok c = λ is.
    let listed = c.in_ok-listed in
    spelled c.args.module.now c.args.text.now listed.listed.schedule c.as_slice-calls.result.now
    c.as_slice-events.result.now listed.ensures.spelled (c.as_slice-calls.ensures.value ∙ listed.ensures.found)
    (ap (map event_in) c.as_slice-events.ensures.value ∙ listed.ensures.made) (c.in-Ok.ensures is)
