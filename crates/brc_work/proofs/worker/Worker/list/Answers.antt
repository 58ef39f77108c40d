use Rattle.std.proofs.Common.{ℕ, List, Option, sym, ◌∙◌, subst}
use Rattle.brc_lang.specs.declared.module.Instr.TheVariants as instructions
use Rattle.brc_model.specs.declared.state.Slot.TheVariants.{Empty}
use Rattle.brc_model.specs.Actions.{list_word}
use Rattle.brc_model.specs.SlotStates.{put}
use Rattle.brc_model.proofs.Dispatch.Passing.{are_met}
use Rattle.brc_work.specs.Fits.{Fits}
use Rattle.brc_work.specs.Performs.{MakesBirth}
use Rattle.brc_work.proofs.Conditions.{can_fill}
use Rattle.brc_work.proofs.Moving.{cleared}
use Rattle.brc_work.proofs.Traces.Births.{makes_list, makes_no_list}
use Rattle.brc_work.proofs.worker.Worker.list.Goals as goal

pub returns-then-not-room-clause-done : goal.returns-then-not-room-clause-done
returns-then-not-room-clause-done g c = λ base s fits passes.
    let hand = c.args.hand.now in
    let met = are_met (instructions.List c.args.to c.args.cells c.args.otherwise) s passes in
    subst (λ (rows : List (Option ℕ)). Fits base (put s c.args.to Empty) rows hand) (sym c.name.ensures.named)
    (cleared base s c.args.rows.now hand c.args.to fits (can_fill s c.args.to met.free met.unlocked) c.name.ensures.low)

pub returns-clause-done : goal.returns-clause-done
returns-clause-done g c = λ base s fits passes.
    let met = are_met (instructions.List c.args.to c.args.cells c.args.otherwise) s passes in
    c.bear.ensures.goes base s fits (can_fill s c.args.to met.free met.unlocked)

pub returns-then-not-room-clause-made : goal.returns-then-not-room-clause-made
returns-then-not-room-clause-made g c =
    makes_no_list c.args.to c.args.cells c.args.otherwise c.args.rows.now c.name.new.rows c.args.hand.now.view
    (sym c.room.ensures ∙ c.if-not-room.true) c.name.ensures.named

pub returns-clause-made : goal.returns-clause-made
returns-clause-made g c =
    makes_list c.args.to c.args.cells c.args.otherwise c.args.rows.now c.bear.new.rows c.args.hand.now.view
    c.bear.new.hand.view (sym c.room.ensures ∙ c.if-not-room.false)
    (subst (λ (n : ℕ). MakesBirth c.args.to (list_word n) c.args.rows.now c.args.hand.now.view c.bear.new.rows
    c.bear.new.hand.view) c.from.ensures c.bear.ensures.made)
