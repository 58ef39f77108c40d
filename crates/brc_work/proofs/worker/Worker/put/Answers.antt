use Rattle.std.proofs.Common.{◌≡◌, ℕ, ◌<◌, false, List, length, inl, sym, ap, ◌∙◌, refl, subst, arith}
use Rattle.brc_model.specs.declared.layout.Layout.{Layout}
use Rattle.brc_model.specs.declared.state.State.{State}
use Rattle.brc_model.specs.SlotStates.{var_of, is_empty, names}
use Rattle.brc_model.proofs.Basics.Lists.{first_false, second_false}
use Rattle.brc_table.specs.Views.{without_reference}
use Rattle.brc_table.specs.Hands.{TableState, most_references}
use Rattle.brc_work.specs.Acts.{ActsElsewhere}
use Rattle.brc_work.specs.Fits.{Base, Rests, Fits}
use Rattle.brc_work.proofs.CallsBelow.{itself_acts, left_acts, acts_then}
use Rattle.brc_work.proofs.Conditions.{kept, not_false}
use Rattle.brc_work.proofs.Passing.{none_broken}
use Rattle.brc_work.proofs.Counting.{asked_as, asked_nothing}
use Rattle.brc_work.proofs.Fitting.{bare_fits}
use Rattle.brc_work.proofs.Holding.{names_object, usable, few_held, few_more}
use Rattle.brc_work.proofs.LockedList.{OnList, on_list, sized_fits, still_held, may_put, knows_cell, without_with}
use Rattle.brc_work.proofs.Trading.{length_more}
use Rattle.brc_work.proofs.Traces.Items.{HasSized, puts_outside, puts_item}
use Rattle.brc_work.proofs.worker.Worker.put.Given as given
use Rattle.brc_work.proofs.worker.Worker.put.Goals.{After-size, After-retain}
use Rattle.brc_work.proofs.worker.Worker.put.Goals as goal

-- The hand has asked for the list's size, and the variables and the hand are still as the state says.
later : (g : given.Over) (c : After-size g) (base : Base) (s : State)
    → Fits base s c.args.rows.now c.args.hand.now → Fits base s c.args.rows.now c.size.new.hand
later g c base s fits =
    sized_fits base s c.args.rows.now c.args.hand.now c.size.new.hand c.row_in-row.result c.size.ensures.events.0 fits
    c.size.ensures.keeps
    (c.size.ensures.table.0
    ∙ (ap (λ (w : TableState). w.table) (c.new.ensures ∙ c.self.view_is) ∙ sym c.requires.may.of.0))
    c.size.ensures.carried c.size.ensures.fields c.size.ensures.locked c.size.ensures.events.1

-- The list is the one that the hand has locked.
on : (g : given.Over) (c : After-size g) → OnList c.size.new.hand c.row_in-row.result
on g c =
    on_list c.requires.may.base c.requires.may.state c.args.rows.now c.size.new.hand c.args.list c.row_in-row.result
    (later g c c.requires.may.base c.requires.may.state c.requires.may.fits)
    (not_false (names c.requires.may.state.locked c.args.list) (kept _ (none_broken c.requires.may).has_lock))
    c.row_in-row.ensures

-- The variable that the item comes from is in use.
used : (g : given.Over) (c : After-size g) → is_empty (var_of c.requires.may.state c.args.from) ≡ false
used g c = first_false (is_empty (var_of c.requires.may.state c.args.from)) _ (none_broken c.requires.may).not_empty

-- By retaining the item the hand does nothing else.
retained : (g : given.Over) (c : After-retain g) → Rests c.size.new.hand
    → ActsElsewhere c.size.new.hand c.retain.new.hand
retained g c rests =
    left_acts c.size.new.hand c.retain.new.hand c.row_in-item.result rests c.retain.ensures.left
    (c.retain.ensures.table.0 ∙ (ap (λ (w : TableState). w.table) (sym c.new.ensures) ∙ sym c.size.ensures.table.0))
    c.retain.ensures.carried c.retain.ensures.fields c.retain.ensures.head

-- The hand has asked for the list's size.
has_sized : (g : given.Over) (c : After-size g)
    → HasSized c.args.list c.row_in-row.result c.args.index c.from-cell.result c.size.result
    c.size.ensures.events.0 c.args.rows.now c.args.hand.now.view c.size.new.hand.view
has_sized g c = record {
  none = c.requires.may.fits.rests.agenda;
  names = c.row_in-row.ensures;
  same = c.from-cell.ensures;
  size_is = c.size.ensures.events.2;
  view_is = c.size.ensures.events.1;
}

pub row_in-row-requires : goal.row_in-row-requires
row_in-row-requires g c =
    let may = c.requires.may in
    names_object may.base may.state c.args.rows.now c.args.hand.now may.fits c.args.list
    (kept (is_empty (var_of may.state c.args.list))
    (second_false (is_empty (var_of may.state c.args.from)) _ (none_broken may).not_empty))

pub size-requires-clause-usable : goal.size-requires-clause-usable
size-requires-clause-usable g c =
    let before = c.requires.may in
    inl (inl (on_list before.base before.state c.args.rows.now c.args.hand.now c.args.list c.row_in-row.result
    before.fits (not_false (names before.state.locked c.args.list) (kept _ (none_broken before).has_lock))
    c.row_in-row.ensures).one)

pub returns-then-cell-size-clause-done : goal.returns-then-cell-size-clause-done
returns-then-cell-size-clause-done g c = λ base s fits passes.
    let at = later g (goal.at.returns-then-cell-size-clause-done g c).After-size base s fits in
    bare_fits base s c.args.rows.now c.size.new.hand c.size.new.hand at
    (itself_acts c.size.new.hand at.rests).acts refl

pub row_in-item-requires : goal.row_in-item-requires
row_in-item-requires g c =
    names_object _ _ _ _ c.requires.may.fits c.args.from
    (used g (goal.at.row_in-item-requires g c).After-size)

pub retain-requires-clause-usable : goal.retain-requires-clause-usable
retain-requires-clause-usable g c =
    let at = (goal.at.retain-requires-clause-usable g c).After-size in
    usable _ _ _ _ (later g at _ _ c.requires.may.fits) c.args.from c.row_in-item.result (used g at)
    c.row_in-item.ensures

pub retain-requires-clause-few : goal.retain-requires-clause-few
retain-requires-clause-few g c =
    few_held _ _ _ _ (later g (goal.at.retain-requires-clause-few g c).After-size _ _ c.requires.may.fits)

pub exchange-requires-clause-held : goal.exchange-requires-clause-held
exchange-requires-clause-held g c = λ κs lives.
    let at = goal.at.exchange-requires-clause-held g c in
    let acts = (retained g at.After-retain (later g at.After-size _ _ c.requires.may.fits).rests).acts in
    still_held c.size.new.hand c.retain.new.hand c.row_in-row.result c.row_in-item.result (on g at.After-size)
    acts.rests acts.more.layout acts.locked c.retain.ensures.references

pub exchange-requires-clause-locked : goal.exchange-requires-clause-locked
exchange-requires-clause-locked g c = λ κs lives.
    let at = goal.at.exchange-requires-clause-locked g c in
    (retained g at.After-retain (later g at.After-size _ _ c.requires.may.fits).rests).acts.locked
    ∙ (on g at.After-size).locked

pub exchange-requires-clause-knows : goal.exchange-requires-clause-knows
exchange-requires-clause-knows g c = λ κs lives.
    let at = goal.at.exchange-requires-clause-knows g c in
    knows_cell c.size.new.hand.view c.retain.new.hand.view c.row_in-row.result c.from-cell.result
    (retained g at.After-retain (later g at.After-size _ _ c.requires.may.fits).rests).acts.more.kinds
    (c.size.ensures.cells c.from-cell.result c.if-cell-size.false)

pub exchange-requires-clause-puts : goal.exchange-requires-clause-puts
exchange-requires-clause-puts g c = λ κs lives.
    let at = goal.at.exchange-requires-clause-puts g c in
    let did = (retained g at.After-retain (later g at.After-size _ _ c.requires.may.fits).rests).acts in
    may_put c.size.new.hand c.retain.new.hand c.row_in-row.result c.row_in-item.result (on g at.After-size) did.rests
    did.more.layout did.locked c.retain.ensures.references

pub exchange-requires-clause-few : goal.exchange-requires-clause-few
exchange-requires-clause-few g c = λ κs lives.
    let fits = later g (goal.at.exchange-requires-clause-few g c).After-size _ _ c.requires.may.fits in
    let most = length_more c.size.new.hand.view.layout c.row_in-item.result c.size.new.hand.view.references in
    let few = few_more c.requires.may.base c.requires.may.state c.args.rows.now c.size.new.hand fits in
    subst (λ (l : List ℕ). length l < most_references) (sym c.retain.ensures.references) (omega (arith, most, few))

pub returns-clause-done : goal.returns-clause-done
returns-clause-done g c = λ base s fits passes.
    let at = goal.at.returns-clause-done g c in
    let asked = later g at.After-size base s fits in
    let did = retained g at.After-retain asked.rests in
    bare_fits base s c.args.rows.now c.size.new.hand c.exchange.new.hand asked
    (acts_then c.size.new.hand c.retain.new.hand c.exchange.new.hand did.acts c.exchange.ensures.acts)
    (c.exchange.ensures.less
    ∙ (ap (λ (l : Layout). without_reference l c.row_in-item.result c.retain.new.hand.view.references)
    did.acts.more.layout
    ∙ (ap (λ (l : List ℕ). without_reference c.size.new.hand.view.layout c.row_in-item.result l)
    c.retain.ensures.references
    ∙ without_with c.size.new.hand.view.layout c.row_in-item.result c.size.new.hand.view.references)))

pub returns-then-cell-size-clause-asked : goal.returns-then-cell-size-clause-asked
returns-then-cell-size-clause-asked g c =
    asked_nothing
    (puts_outside _ _ _ _ _ _ _ _ _ (has_sized g (goal.at.returns-then-cell-size-clause-asked g c).After-size)
    c.args.from c.args.otherwise c.if-cell-size.true)

pub returns-clause-asked : goal.returns-clause-asked
returns-clause-asked g c =
    let steps = c.retain.ensures.events in
    asked_as (λ cs.
    puts_item _ _ _ _ _ _ _ _ _ (has_sized g (goal.at.returns-clause-asked g c).After-size) c.args.from c.args.otherwise
    {cs = cs} c.row_in-item.result steps.0 steps.1 c.retain.new.hand.view c.exchange.new.hand.view c.if-cell-size.false
    c.row_in-item.ensures steps.3) c.exchange.ensures.asked
