use Rattle.std.proofs.Common.{sym, ap, ◌∙◌}
use Rattle.brc_check.specs.Entries.{end_of}
use Rattle.brc_explain.proofs.Steps.{code_reported, differ_there}
use Rattle.brc_explain.proofs.refusals.reported_by.Goals as goal

pub returns-in-Error : goal.returns-in-Error
returns-in-Error c =
    code_reported c.args.function.now c.args.at c.in_ok-state.state c.args.exit c.in-Error.reported
    (c.requires.reached c.args.at c.in_ok-state.state (sym c.state_at.ensures ∙ c.in_ok-state.was))
    (rw c.as_slice-code.ensures at (sym c.follow.ensures ∙ ap (end_of c.args.at) c.in-Error.is))

pub returns-then-states_differ : goal.returns-then-states_differ
returns-then-states_differ c =
    differ_there c.args.function.now c.args.at c.in-To.next c.in_ok-state.state c.in-To.arriving c.in_ok-first-in-To.first
    c.args.exit
    (c.requires.reached c.args.at c.in_ok-state.state (sym c.state_at.ensures ∙ c.in_ok-state.was))
    (c.requires.reached c.in-To.next c.in_ok-first-in-To.first (sym c.state_at-in-To.ensures ∙ c.in_ok-first-in-To.was))
    (rw c.as_slice-code.ensures at (sym c.follow.ensures ∙ ap (end_of c.args.at) c.in-To.is))
    (c.states_differ.ensures c.if-states_differ.true)
