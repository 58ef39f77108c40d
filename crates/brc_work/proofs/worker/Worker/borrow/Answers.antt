use Rattle.std.proofs.Common.{◌≡◌, ℕ, List, Option, None, Some, inl, refl, sym, ap, ◌∙◌, subst}
use Rattle.brc_lang.specs.declared.kind.Kind.TheVariants as kinds
use Rattle.brc_lang.specs.declared.module.Instr.TheVariants as instructions
use Rattle.brc_model.specs.declared.state.Slot.TheVariants.{Empty, Locked}
use Rattle.brc_model.specs.declared.state.State.{State}
use Rattle.brc_model.specs.SlotStates.{var_of, is_empty, names, put, lowest}
use Rattle.brc_model.specs.Threads.{row_of}
use Rattle.brc_model.proofs.Dispatch.Passing.{are_met}
use Rattle.brc_table.specs.Hands.{TableState}
use Rattle.brc_work.specs.Acts.{ActsElsewhere}
use Rattle.brc_work.specs.Changes.{CanFill}
use Rattle.brc_work.specs.Fits.{Base, Unknown, Rests, Fits}
use Rattle.brc_work.proofs.Conditions.{kept, can_fill, not_false}
use Rattle.brc_work.proofs.Passing.{none_broken}
use Rattle.brc_work.proofs.Fitting.{refits, same_fits}
use Rattle.brc_work.proofs.Holding.{names_object}
use Rattle.brc_work.proofs.LockedList.{OnList, on_list, sized_acts, item_acts}
use Rattle.brc_work.proofs.Trading.{nothing}
use Rattle.brc_work.proofs.Traces.Items.{HasSized, borrows_outside, borrows_none, borrows_item}
use Rattle.brc_work.proofs.worker.Worker.borrow.Given as given
use Rattle.brc_work.proofs.worker.Worker.borrow.Goals.{After-size, After-item-found}
use Rattle.brc_work.proofs.worker.Worker.borrow.Goals as goal

-- By asking for the list's size the hand does nothing else,
sized : (g : given.Over) (c : After-size g) → Rests c.args.hand.now → ActsElsewhere c.args.hand.now c.size.new.hand
sized g c rests =
    sized_acts c.args.hand.now c.size.new.hand c.row_in-row.result c.size.ensures.events.0 rests c.size.ensures.keeps
    (c.size.ensures.table.0
    ∙ (ap (λ (w : TableState). w.table) (c.new-lists.ensures ∙ c.self.view_is) ∙ sym c.requires.may.of.0))
    c.size.ensures.carried c.size.ensures.fields c.size.ensures.locked c.size.ensures.events.1

-- and the variables and the hand are still as the state says.
later : (g : given.Over) (c : After-size g) (base : Base) (s : State)
    → Fits base s c.args.rows.now c.args.hand.now → Fits base s c.args.rows.now c.size.new.hand
later g c base s fits =
    same_fits base s c.args.rows.now c.args.hand.now c.size.new.hand fits (sized g c fits.rests)
    c.size.ensures.keeps.references

-- The list is the one that the hand has locked.
on : (g : given.Over) (c : After-size g) (base : Base) (s : State) → Fits base s c.args.rows.now c.args.hand.now
    → lowest (instructions.Borrow c.args.to c.args.list c.args.index c.args.otherwise) s ≡ None
    → OnList c.size.new.hand c.row_in-row.result
on g c base s fits passes =
    let met = are_met (instructions.Borrow c.args.to c.args.list c.args.index c.args.otherwise) s passes in
    on_list base s c.args.rows.now c.size.new.hand c.args.list c.row_in-row.result (later g c base s fits)
    (not_false (names s.locked c.args.list) (kept _ met.has_lock)) c.row_in-row.ensures

-- The variable may be filled.
can : (g : given.Over) (c : After-size g) (s : State)
    → lowest (instructions.Borrow c.args.to c.args.list c.args.index c.args.otherwise) s ≡ None → CanFill s c.args.to
can g c s passes =
    let all = are_met (instructions.Borrow c.args.to c.args.list c.args.index c.args.otherwise) s passes in
    can_fill s c.args.to all.free all.unlocked

-- By loading the cell the hand does nothing else.
looked : (g : given.Over) (c : After-item-found g) → Rests c.size.new.hand → OnList c.size.new.hand c.row_in-row.result
    → ActsElsewhere c.size.new.hand c.item-found.new.hand
looked g c rests list =
    item_acts c.size.new.hand c.item-found.new.hand c.row_in-row.result c.from-cell.result c.item-found.ensures.sees.0
    rests c.item-found.ensures.keeps (c.item-found.ensures.table.0 ∙ sym c.size.ensures.table.0)
    c.item-found.ensures.carried c.item-found.ensures.fields list.locked (c.item-found.ensures.locked ∙ list.locked)
    c.item-found.ensures.sees.1

-- The hand has asked for the list's size.
has_sized : (g : given.Over) (c : After-size g)
    → HasSized c.args.list c.row_in-row.result c.args.index c.from-cell.result c.size.result
    c.size.ensures.events.0 c.args.rows.now c.args.hand.now.view c.size.new.hand.view
has_sized g c = record {
  none = c.requires.may.fits.rests.agenda;
  names = c.row_in-row.ensures;
  same = c.from-cell.ensures;
  size_is = c.size.ensures.events.2;
  view_is = c.size.ensures.events.1;
}

pub row_in-row-requires : goal.row_in-row-requires
row_in-row-requires g c =
    names_object _ _ _ _ c.requires.may.fits c.args.list
    (kept (is_empty (var_of c.requires.may.state c.args.list)) (none_broken c.requires.may).not_empty)

pub size-requires-clause-usable : goal.size-requires-clause-usable
size-requires-clause-usable g c =
    let may = c.requires.may in
    inl (inl (on_list may.base may.state c.args.rows.now c.args.hand.now c.args.list c.row_in-row.result may.fits
    (not_false (names may.state.locked c.args.list) (kept _ (none_broken may).has_lock)) c.row_in-row.ensures).one)

pub returns-then-cell-size-clause-done : goal.returns-then-cell-size-clause-done
returns-then-cell-size-clause-done g c = λ base s fits passes.
    let at = (goal.at.returns-then-cell-size-clause-done g c).After-size in
    let fills = can g at s passes in
    subst (λ (rows : List (Option ℕ)). Fits base (put s c.args.to Empty) rows c.size.new.hand)
    (sym c.name.ensures.named)
    (refits base s c.args.rows.now c.args.hand.now c.size.new.hand c.args.to Empty None fits c.name.ensures.low
    fills.unlocked (sized g at fits.rests) tt
    (nothing base.first.view.layout (var_of s c.args.to) Empty (row_of c.args.rows.now c.args.to) None c.args.hand.now
    c.size.new.hand fills.free refl c.size.ensures.keeps.references))

pub item-found-requires-clause-loads : goal.item-found-requires-clause-loads
item-found-requires-clause-loads g c =
    let list = on g (goal.at.item-found-requires-clause-loads g c).After-size c.requires.may.base c.requires.may.state
    c.requires.may.fits c.requires.may.passes in
    inl (list.locked, list.one)

pub returns-in-Some-clause-done : goal.returns-in-Some-clause-done
returns-in-Some-clause-done g c = λ base s fits passes.
    let at = goal.at.returns-in-Some-clause-done g c in
    let after = c.item-found.new.hand in
    let fills = can g at.After-size s passes in
    let before = later g at.After-size base s fits in
    let list = on g at.After-size base s fits passes in
    subst (λ (rows : List (Option ℕ)). Fits base (put s c.args.to (Locked kinds.Any)) rows after)
    (sym c.name-in-Some.ensures.named)
    (refits base s c.args.rows.now c.size.new.hand after c.args.to (Locked kinds.Any) (Some c.in-Some.item) before
    c.name-in-Some.ensures.low fills.unlocked (looked g at.After-item-found before.rests list)
    (record {
      names = record { object = c.in-Some.item; is = refl; knows = Unknown refl };
      borrows = c.item-found.ensures.borrows c.in-Some.item c.in-Some.is list.locked;
    })
    (nothing base.first.view.layout (var_of s c.args.to) (Locked kinds.Any) (row_of c.args.rows.now c.args.to)
    (Some c.in-Some.item) c.size.new.hand after fills.free refl c.item-found.ensures.keeps.references))

pub returns-in-None-clause-done : goal.returns-in-None-clause-done
returns-in-None-clause-done g c = λ base s fits passes.
    let at = goal.at.returns-in-None-clause-done g c in
    let fill = can g at.After-size s passes in
    let asked = later g at.After-size base s fits in
    let loads = looked g at.After-item-found asked.rests (on g at.After-size base s fits passes) in
    subst (λ (rows : List (Option ℕ)). Fits base (put s c.args.to Empty) rows c.item-found.new.hand)
    (sym c.name-in-None.ensures.named)
    (refits base s c.args.rows.now c.size.new.hand c.item-found.new.hand c.args.to Empty None asked
    c.name-in-None.ensures.low fill.unlocked loads tt
    (nothing base.first.view.layout (var_of s c.args.to) Empty (row_of c.args.rows.now c.args.to) None c.size.new.hand
    c.item-found.new.hand fill.free refl c.item-found.ensures.keeps.references))

pub returns-then-cell-size-clause-made : goal.returns-then-cell-size-clause-made
returns-then-cell-size-clause-made g c =
    borrows_outside _ _ _ _ _ _ _ _ _ (has_sized g (goal.at.returns-then-cell-size-clause-made g c).After-size)
    c.args.to c.args.otherwise c.name.new.rows c.if-cell-size.true c.name.ensures.named

pub returns-in-Some-clause-made : goal.returns-in-Some-clause-made
returns-in-Some-clause-made g c =
    let sees = c.item-found.ensures.sees in
    borrows_item _ _ _ _ _ _ _ _ _ (has_sized g (goal.at.returns-in-Some-clause-made g c).After-size) c.args.to
    c.args.otherwise c.name-in-Some.new.rows sees.0 c.in-Some.item c.item-found.new.hand.view c.if-cell-size.false
    (record { view_is = sees.1.view_is; item_is = sym sees.2 ∙ c.in-Some.is }) c.name-in-Some.ensures.named

pub returns-in-None-clause-made : goal.returns-in-None-clause-made
returns-in-None-clause-made g c =
    let saw = c.item-found.ensures.sees in
    borrows_none _ _ _ _ _ _ _ _ _ (has_sized g (goal.at.returns-in-None-clause-made g c).After-size) c.args.to
    c.args.otherwise c.name-in-None.new.rows saw.0 c.item-found.new.hand.view c.if-cell-size.false
    (record { view_is = saw.1.view_is; item_is = sym saw.2 ∙ c.in-None.is }) c.name-in-None.ensures.named
