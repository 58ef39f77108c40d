use Rattle.std.proofs.Common.{◌≡◌, List, arith, sym, subst}
use Rattle.std.specs.Prelude.{reverse, IfOk}
use Rattle.brc_model.specs.declared.state.Exit.{Exit}
use Rattle.brc_check.proofs.Trails.{IsBackWithin, before-less, back-turn, back-last}
use Rattle.brc_check.proofs.trail.exits_to.Goals as goal

pub loop-at-smaller : goal.loop-at-smaller
loop-at-smaller c =
    before-less c.args.list.now c.loop-at.at c.index-list-at.result c.requires.chained c.loop-at-test.true
    c.loop-at.invariant.within c.index-list-at.is

pub loop-at-preserved : goal.loop-at-preserved
loop-at-preserved c =
    subst (λ (b : List Exit). IsBackWithin c.args.list.now c.args.number b c.index-list-at.result.before)
    (sym c.in_ok-push.ensures.items)
    (back-turn c.args.list.now c.args.number c.loop-at.back.items c.loop-at.at c.index-list-at.result
    c.requires.chained c.loop-at.invariant c.loop-at-test.true c.index-list-at.is)

pub returns : goal.returns
returns c =
    back-last c.args.list.now c.args.number c.loop-at.back.items c.loop-at.at c.turned_round.result
    c.loop-at.invariant (omega arith)
    (subst (λ (b : List Exit). IfOk c.turned_round.result (λ turned. turned ≡ reverse b)) c.as_slice.ensures.value
    c.turned_round.ensures)
