use Rattle.brc_work.proofs.Traces.Locks.{not_waited, waits_then, waits_first}
use Rattle.brc_work.proofs.worker.Worker.lock.Goals as goal

pub loop-init : goal.loop-init
loop-init g c =
    (c.requires.may, λ base s fits passes. fits, not_waited c.args.object c.args.rows.now c.args.hand.now.view)

pub returns-then-tries_lock-clause-done : goal.returns-then-tries_lock-clause-done
returns-then-tries_lock-clause-done g c = λ base s fits passes.
    c.tries_lock.ensures.done c.if-tries_lock.true base s (c.loop.invariant.1 base s fits passes) passes

pub returns-then-tries_lock-clause-made : goal.returns-then-tries_lock-clause-made
returns-then-tries_lock-clause-made g c =
    waits_first c.args.object c.args.rows.now c.args.hand.now.view c.loop.hand.view c.tries_lock.new.hand.view
    c.loop.invariant.2 (c.tries_lock.ensures.made c.if-tries_lock.true)

pub loop-preserved : goal.loop-preserved
loop-preserved g c = (
  c.tries_lock.ensures.again c.if-tries_lock.false,
  λ base s fits passes.
      c.tries_lock.ensures.nothing c.if-tries_lock.false base s (c.loop.invariant.1 base s fits passes) passes,
  waits_then c.args.object c.args.rows.now c.args.hand.now.view c.loop.hand.view c.tries_lock.new.hand.view
      c.loop.invariant.2 (c.tries_lock.ensures.waited c.if-tries_lock.false),
)
