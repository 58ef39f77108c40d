use Rattle.std.proofs.Common.{◌≡◌, Bool, false, cond, ◌∷◌, None, Some, sym, ap, ◌∙◌, subst}
use Rattle.std.specs.Prelude.{is_some}
use Rattle.brc_lang.specs.declared.module.Instr.TheVariants as instructions
use Rattle.brc_model.specs.declared.state.State.{State}
use Rattle.brc_model.specs.SlotStates.{var_of, is_empty, lowest}
use Rattle.brc_model.specs.Threads.{row_of}
use Rattle.brc_model.proofs.Dispatch.Passing.{are_met}
use Rattle.brc_table.specs.Hands.{TableState, IsOf}
use Rattle.brc_work.specs.Fits.{Base, Fits}
use Rattle.brc_work.proofs.Conditions.{kept, none_is}
use Rattle.brc_work.proofs.Passing.{none_broken}
use Rattle.brc_work.proofs.Holding.{names_object, lasting_one}
use Rattle.brc_work.proofs.Locking.{borrows_none, no_lock, still_fits, lock_is}
use Rattle.brc_work.proofs.Traces.Locks.{makes_lock, waits}
use Rattle.brc_work.proofs.worker.Worker.tries_lock.Given as given
use Rattle.brc_work.proofs.worker.Worker.tries_lock.Goals.{Start, After-try_lock}
use Rattle.brc_work.proofs.worker.Worker.tries_lock.Goals as goal

-- The variable is in use.
used : (g : given.Over) (c : Start g) → is_empty (var_of c.requires.may.state c.args.object) ≡ false
used g c = kept (is_empty (var_of c.requires.may.state c.args.object)) (none_broken c.requires.may).not_empty

-- No variable is locked.
none : (g : given.Over) (c : Start g) → c.requires.may.state.locked ≡ None
none g c =
    none_is c.requires.may.state.locked
    (kept (is_some c.requires.may.state.locked) (none_broken c.requires.may).first_lock)

-- After a try that failed the variables and the hand are still as the state says.
stays : (g : given.Over) (c : After-try_lock g) (base : Base) (s : State)
    → Fits base s c.args.rows.now c.args.hand.now → lowest (instructions.Lock c.args.object) s ≡ None
    → c.try_lock.result ≡ false → Fits base s c.args.rows.now c.try_lock.new.hand
stays g c base s fits passes fails =
    let hand = c.args.hand.now in
    let after = c.try_lock.new.hand in
    let row = c.row_in-row.result in
    let met = are_met (instructions.Lock c.args.object) s passes in
    still_fits base s c.args.rows.now hand after fits (none_is s.locked (kept (is_some s.locked) met.first_lock))
    c.try_lock.ensures.keeps
    (c.try_lock.ensures.table.0
    ∙ ap (λ (w : TableState). w.table) (c.new.ensures ∙ c.self.view_is) ∙ sym c.requires.may.of.0)
    c.try_lock.ensures.carried (c.try_lock.ensures.locked ∙ ap (λ (b : Bool). cond b (Some row) None) fails)
    (c.try_lock.ensures.fields ∙ ap (λ (b : Bool). cond b ((row, after.view.in_field) ∷ hand.fields) hand.fields) fails)

pub row_in-row-requires : goal.row_in-row-requires
row_in-row-requires g c =
    names_object _ _ _ _ c.requires.may.fits c.args.object (used g (goal.at.row_in-row-requires g c).Start)

pub try_lock-requires-clause-held : goal.try_lock-requires-clause-held
try_lock-requires-clause-held g c =
    let may = c.requires.may in
    let start = (goal.at.try_lock-requires-clause-held g c).Start in
    lasting_one may.base may.state c.args.rows.now c.args.hand.now may.fits c.args.object c.row_in-row.result
    (used g start)
    (borrows_none may.base.held c.args.hand.now.view (var_of may.state c.args.object)
    (row_of c.args.rows.now c.args.object)
    (no_lock may.base may.state c.args.rows.now c.args.hand.now may.fits (none g start)).0
    (may.fits.each c.args.object)) c.row_in-row.ensures

pub try_lock-requires-clause-unlocked : goal.try_lock-requires-clause-unlocked
try_lock-requires-clause-unlocked g c =
    (no_lock _ _ _ _ c.requires.may.fits (none g (goal.at.try_lock-requires-clause-unlocked g c).Start)).0

pub returns-clause-done : goal.returns-clause-done
returns-clause-done g c = λ wins base s fits passes.
    let before = c.args.hand.now in
    let locked = c.try_lock.new.hand in
    let object = c.row_in-row.result in
    let slot = var_of s c.args.object in
    let all = are_met (instructions.Lock c.args.object) s passes in
    lock_is base s c.args.rows.now before locked fits (none_is s.locked (kept (is_some s.locked) all.first_lock))
    c.try_lock.ensures.keeps
    (c.try_lock.ensures.table.0
    ∙ ap (λ (w : TableState). w.table) (c.new.ensures ∙ c.self.view_is) ∙ sym c.requires.may.of.0)
    c.try_lock.ensures.carried c.args.object object (kept (is_empty slot) all.not_empty)
    c.row_in-row.ensures
    (c.try_lock.ensures.locked ∙ ap (λ (b : Bool). cond b (Some object) None) wins)
    (c.try_lock.ensures.fields
    ∙ ap (λ (b : Bool). cond b ((object, locked.view.in_field) ∷ before.fields) before.fields) wins)
    (λ word some seen. c.try_lock.ensures.kind word wins some seen)

pub returns-clause-again : goal.returns-clause-again
returns-clause-again g c = λ fails. record {
  base = c.requires.may.base;
  state = c.requires.may.state;
  of = subst (λ (w : TableState). IsOf w c.try_lock.new.hand) (c.new.ensures ∙ c.self.view_is) c.try_lock.ensures.table;
  fits = stays g (goal.at.returns-clause-again g c).After-try_lock _ _ c.requires.may.fits c.requires.may.passes fails;
  passes = c.requires.may.passes;
}

pub returns-clause-nothing : goal.returns-clause-nothing
returns-clause-nothing g c = λ fails base s fits passes.
    stays g (goal.at.returns-clause-nothing g c).After-try_lock base s fits passes fails

pub returns-clause-made : goal.returns-clause-made
returns-clause-made g c = λ wins.
    let steps = c.try_lock.ensures.events in
    makes_lock c.args.object c.row_in-row.result c.try_lock.new.hand.view.in_field steps.0 c.args.rows.now
    c.args.hand.now.view c.try_lock.new.hand.view c.requires.may.fits.rests.agenda c.row_in-row.ensures steps.1
    (sym steps.2 ∙ wins)

pub returns-clause-waited : goal.returns-clause-waited
returns-clause-waited g c = λ fails.
    let loads = c.try_lock.ensures.events in
    waits c.args.object c.row_in-row.result c.try_lock.new.hand.view.in_field loads.0 c.args.rows.now
    c.args.hand.now.view c.try_lock.new.hand.view c.requires.may.fits.rests.agenda c.row_in-row.ensures loads.1
    (sym loads.2 ∙ fails)
