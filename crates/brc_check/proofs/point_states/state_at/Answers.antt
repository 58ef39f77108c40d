use Rattle.std.proofs.Common.{◌+◌, arith, sym, ◌∙◌}
use Rattle.brc_check.proofs.Lookups.{none_before, none_onward, onward_state}
use Rattle.brc_check.proofs.States.{kept_state}
use Rattle.brc_check.proofs.point_states.state_at.Goals as goal

pub returns-in_err-nearest : goal.returns-in_err-nearest
returns-in_err-nearest c =
    c.from_residual.ensures
    ∙ sym (none_before c.args.code.now c.args.kept.now c.args.at c.in_err-nearest.ensures)

pub returns-in_err-state : goal.returns-in_err-state
returns-in_err-state c =
    let near = c.in_ok-nearest.ensures in
    c.from_residual-in_err-state.ensures
    ∙ sym (none_onward c.args.code.now c.args.kept.now c.in_ok-nearest.nearest.at c.args.at
    (kept_state c.args.code.now c.args.kept.now c.in_ok-nearest.nearest.at c.in_ok-nearest.nearest near.1
    ∙ c.in_err-state.was)
    near.0 near.2)

pub returns-in_err-state-2 : goal.returns-in_err-state-2
returns-in_err-state-2 c =
    let near = c.in_ok-nearest.ensures in
    let at = c.loop-point.point in
    let within = c.loop-point-test.true in
    let from = c.loop-point.auto.point in
    let behind = near.2 in
    c.from_residual-in_err-state-2.ensures
    ∙ sym (none_onward c.args.code.now c.args.kept.now (at + 1) c.args.at
    (onward_state c.args.code.now c.args.kept.now at c.loop-point.state c.loop-point.invariant
    (behind (at + 1) (omega (arith, from)) (omega (arith, within)))
    ∙ sym c.passed.ensures ∙ c.in_err-state-2.was)
    (omega (arith, within)) (λ point more upto. behind point (omega (arith, from, more)) upto))
