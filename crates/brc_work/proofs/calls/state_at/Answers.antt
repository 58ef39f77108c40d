use Rattle.std.proofs.Common.{sym, ◌∙◌}
use Rattle.brc_model.proofs.Basics.Lists.{some_is}
use Rattle.brc_work.proofs.Stepping.{state_known}
use Rattle.brc_work.proofs.calls.state_at.Goals as goal

pub unreachable-requires : goal.unreachable-requires
unreachable-requires c =
    let (s, reaches) = c.requires.reached in
    c.in_default.not-Some s
    (c.entry.ensures ∙ state_known c.args.checked.now.module _ c.args.function c.args.at s
    c.states_are_true.ensures.truth
    c.requires.function reaches)

pub returns : goal.returns
returns c = λ s reaches.
    some_is c.in-Some.state s
    (sym c.in-Some.is ∙ (c.entry.ensures ∙ state_known c.args.checked.now.module _ c.args.function c.args.at s
    c.states_are_true.ensures.truth c.requires.function reaches))
