use Rattle.std.proofs.Common.{◌≡◌, true, List, map, rules, subst}
use Rattle.brc_replay.specs.declared.event.Event.{Event}
use Rattle.brc_replay.specs.WrongRuns.{event_in, IsWrongRun}
use Rattle.brc_explore.proofs.search.find.Goals as goal

pub returns : goal.returns
returns g c =
    let wrong : c.in_ok-goes_wrong.field-0 ≡ true = search rules in
    subst (λ (l : List Event). IsWrongRun c.args.module.now c.args.rows c.args.calls.now (map event_in l))
    c.as_slice.ensures.value (c.in_ok-goes_wrong.ensures wrong)
