use Rattle.std.proofs.Common.{ℕ, sym, ap, ◌∙◌, subst}
use Rattle.brc_lang.specs.declared.module.Instr.TheVariants as instructions
use Rattle.brc_model.specs.SlotStates.{var_of, is_empty, names}
use Rattle.brc_model.proofs.Basics.Lists.{some_is}
use Rattle.brc_model.proofs.Dispatch.Passing.{are_met}
use Rattle.brc_table.specs.Uses.{FirstField}
use Rattle.brc_table.specs.Hands.{TableState}
use Rattle.brc_work.specs.Fits.{LockFits}
use Rattle.brc_work.proofs.Conditions.{kept, not_false, locked_is}
use Rattle.brc_work.proofs.Passing.{none_broken}
use Rattle.brc_work.proofs.Holding.{names_object, lasting_one, lock_of}
use Rattle.brc_work.proofs.Locking.{unlocks}
use Rattle.brc_work.proofs.Traces.Locks.{makes_unlock}
use Rattle.brc_work.proofs.worker.Worker.unlock.Given as given
use Rattle.brc_work.proofs.worker.Worker.unlock.Goals.{Start}
use Rattle.brc_work.proofs.worker.Worker.unlock.Goals as goal

-- The variable is the one whose object the hand has locked.
locks : (g : given.Over) (c : Start g) → let may = c.requires.may in
    LockFits may.base.first.fields may.state c.args.rows.now c.args.hand.now c.args.object
locks g c =
    let may = c.requires.may in
    lock_of _ _ _ _ may.fits c.args.object (locked_is may.state.locked c.args.object
    (not_false (names may.state.locked c.args.object) (kept _ (none_broken may).has_lock)))

pub row_in-row-requires : goal.row_in-row-requires
row_in-row-requires g c =
    names_object _ _ _ _ c.requires.may.fits c.args.object
    (kept (is_empty (var_of c.requires.may.state c.args.object)) (none_broken c.requires.may).not_empty)

pub unlock-requires-clause-held : goal.unlock-requires-clause-held
unlock-requires-clause-held g c =
    let lock = locks g (goal.at.unlock-requires-clause-held g c).Start in
    lasting_one _ _ _ _ c.requires.may.fits c.args.object c.row_in-row.result lock.used lock.lasting
    c.row_in-row.ensures

pub unlock-requires-clause-locked : goal.unlock-requires-clause-locked
unlock-requires-clause-locked g c =
    let lock = locks g (goal.at.unlock-requires-clause-locked g c).Start in
    lock.locked ∙ (sym lock.names ∙ c.row_in-row.ensures)

pub unlock-requires-clause-returned : goal.unlock-requires-clause-returned
unlock-requires-clause-returned g c =
    let lock = locks g (goal.at.unlock-requires-clause-returned g c).Start in
    subst (λ (x : ℕ). FirstField c.args.hand.now.fields x c.args.hand.now.view.in_field)
    (some_is lock.object c.row_in-row.result (sym lock.names ∙ c.row_in-row.ensures))
    (record { rest = c.requires.may.base.first.fields; is = lock.fields })

pub returns-clause-done : goal.returns-clause-done
returns-clause-done g c = λ base s fits passes.
    let hand = c.args.hand.now in
    let met = are_met (instructions.Unlock c.args.object) s passes in
    let is = locked_is s.locked c.args.object (not_false (names s.locked c.args.object) (kept _ met.has_lock)) in
    unlocks base s c.args.rows.now hand c.unlock.new.hand c.args.object fits
    (lock_of base s c.args.rows.now hand fits c.args.object is) c.unlock.ensures.keeps
    (c.unlock.ensures.table.0
    ∙ ap (λ (w : TableState). w.table) (c.new.ensures ∙ c.self.view_is) ∙ sym c.requires.may.of.0)
    c.unlock.ensures.carried c.unlock.ensures.fields c.unlock.ensures.unlocked

pub returns-clause-made : goal.returns-clause-made
returns-clause-made g c =
    makes_unlock c.args.object c.row_in-row.result _ c.args.rows.now c.args.hand.now.view c.unlock.new.hand.view
    c.requires.may.fits.rests.agenda c.row_in-row.ensures c.unlock.ensures.events

pub returns-clause-unlocks : goal.returns-clause-unlocks
returns-clause-unlocks g c =
    record { row = c.row_in-row.result; found = _; names = c.row_in-row.ensures; is = c.unlock.ensures.events }
