use Rattle.std.proofs.Common.{map}
use Rattle.std.specs.Prelude.{IfOk}
use Rattle.brc_plain.specs.Plains.{machine_in}
use Rattle.brc_replay.specs.WrongRuns.{event_in, GoWrong, IsWrongRun}
use Rattle.brc_replay.proofs.Replays.{if_wrong, wrong_run}
use Rattle.brc_replay.proofs.wrong.goes_wrong.Goals as goal

pub returns : goal.returns
returns c =
    if_wrong c.go_wrong.result (λ (w : GoWrong (machine_in c.in_ok-plain.plain) (map event_in c.args.events.now)).
    wrong_run c.args.module.now c.args.rows c.args.calls.now (map event_in c.args.events.now)
    (machine_in c.in_ok-plain.plain) c.requires.some_rows c.requires.most_rows c.requires.calls_fit
    c.in_ok-plain.ensures w) c.go_wrong.ensures
