use Rattle.std.proofs.Common.{Bool, subst}
use Rattle.brc_work.specs.Runs.{RanBy}
use Rattle.brc_work.specs.Traces.{program_of}
use Rattle.brc_work.proofs.Bounds.{module_bounded, never_stops}
use Rattle.brc_work.proofs.worker.Worker.run.Goals as goal

pub returns-else-done-clause-unbounded : goal.returns-else-done-clause-unbounded
returns-else-done-clause-unbounded g c = λ enough.
    let m = c.args.checked.now.module in
    let program = program_of m c.args.function in
    let v = c.args.hand.now.view in
    let u = c.make_calls-done.new.hand.view in
    let asked = c.make_calls-done.ensures.asked in
    absurd (never_stops program (module_bounded m c.states_are_true.ensures.fits) c.args.times c.args.steps enough
    asked.calls v u
    (subst (λ (b : Bool). RanBy program c.args.times c.args.steps b asked.calls v u) c.if-done.false asked.made))
