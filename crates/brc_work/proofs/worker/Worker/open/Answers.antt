use Rattle.std.proofs.Common.{◌≡◌, None, refl, sym, ap, ◌∙◌}
use Rattle.std.specs.Prelude.{is_err}
use Rattle.brc_host.specs.HostCalls as asked
use Rattle.brc_work.specs.Traces.{ForFile}
use Rattle.brc_lang.specs.declared.module.Instr.TheVariants as instructions
use Rattle.brc_model.specs.declared.state.State.{State}
use Rattle.brc_model.specs.Actions.{file_word}
use Rattle.brc_model.specs.SlotStates.{lowest}
use Rattle.brc_model.proofs.Dispatch.Passing.{are_met}
use Rattle.brc_work.specs.Changes.{CanFill}
use Rattle.brc_work.proofs.Conditions.{can_fill}
use Rattle.brc_work.proofs.Passing.{left_empty}
use Rattle.brc_work.proofs.Counting.{asked_nothing, asked_once, asked_in_vain}
use Rattle.brc_work.proofs.Traces.HostCalls.{asks_open, grants, refuses, asks_nothing}
use Rattle.brc_work.proofs.worker.Worker.open.Given as given
use Rattle.brc_work.proofs.worker.Worker.open.Goals.{Start}
use Rattle.brc_work.proofs.worker.Worker.open.Goals as goal

-- The variable may be filled.
can : (g : given.Over) (c : Start g) (s : State)
    → lowest (instructions.Open c.args.to c.args.path c.args.mode c.args.otherwise) s ≡ None → CanFill s c.args.to
can g c s passes =
    let met = are_met (instructions.Open c.args.to c.args.path c.args.mode c.args.otherwise) s passes in
    can_fill s c.args.to met.free met.unlocked

pub returns-then-not-room-clause-done : goal.returns-then-not-room-clause-done
returns-then-not-room-clause-done g c = λ base s fits passes.
    left_empty base s c.args.rows.now c.name.new.rows c.args.hand.now c.args.to fits
    (can g (goal.at.returns-then-not-room-clause-done g c).Start s passes) c.name.ensures.low c.name.ensures.named

pub returns-in-Ok-clause-done : goal.returns-in-Ok-clause-done
returns-in-Ok-clause-done g c = λ base s fits passes.
    c.bear.ensures.goes base s fits (can g (goal.at.returns-in-Ok-clause-done g c).Start s passes)

pub returns-in-Err-clause-done : goal.returns-in-Err-clause-done
returns-in-Err-clause-done g c = λ base s fits passes.
    left_empty base s c.args.rows.now c.name-in-Err.new.rows c.args.hand.now c.args.to fits
    (can g (goal.at.returns-in-Err-clause-done g c).Start s passes) c.name-in-Err.ensures.low
    c.name-in-Err.ensures.named

pub returns-then-not-room-clause-asked : goal.returns-then-not-room-clause-asked
returns-then-not-room-clause-asked g c =
    asked_nothing
    (asks_nothing _ c.args.to c.args.otherwise file_word (asks_open c.args.to c.args.path c.args.mode c.args.otherwise)
    c.args.rows.now c.name.new.rows c.args.hand.now.view
    (sym c.room.ensures ∙ c.if-not-room.true) c.name.ensures.named)

pub returns-in-Ok-clause-asked : goal.returns-in-Ok-clause-asked
returns-in-Ok-clause-asked g c =
    let failed = is_err c.open-opened.result in
    let call = asked.Open c.args.path c.args.mode failed in
    let succeeds = ap is_err c.in-Ok.is in
    asked_once call (record { closes = refl; others = refl }) succeeds c.open-opened.ensures.answers
    c.open-opened.ensures.counted
    (grants _ c.args.to c.args.otherwise file_word (asks_open c.args.to c.args.path c.args.mode c.args.otherwise)
    c.args.rows.now c.bear.new.rows c.args.hand.now.view c.bear.new.hand.view call
    (ForFile c.args.to c.args.path c.args.mode c.args.otherwise failed) succeeds
    (sym c.room.ensures ∙ c.if-not-room.false) c.bear.ensures.made)

pub returns-in-Err-clause-asked : goal.returns-in-Err-clause-asked
returns-in-Err-clause-asked g c =
    let failed = is_err c.open-opened.result in
    let call = asked.Open c.args.path c.args.mode failed in
    let fails = ap is_err c.in-Err.is in
    asked_in_vain call (record { closes = refl; others = refl }) fails c.open-opened.ensures.answers
    c.open-opened.ensures.counted c.count_host_fault.ensures
    (refuses _ c.args.to c.args.otherwise file_word (asks_open c.args.to c.args.path c.args.mode c.args.otherwise)
    c.args.rows.now c.name-in-Err.new.rows c.args.hand.now.view call
    (ForFile c.args.to c.args.path c.args.mode c.args.otherwise failed) fails
    (sym c.room.ensures ∙ c.if-not-room.false) c.name-in-Err.ensures.named)
