use Rattle.std.proofs.Common.{◌≡◌, ℕ, List, Option, None, inl, refl, sym, ap, ◌∙◌, subst}
use Rattle.std.specs.Prelude.{slice_set}
use Rattle.brc_work.proofs.Counting.{asked_as}
use Rattle.brc_lang.specs.declared.module.Instr.TheVariants as instructions
use Rattle.brc_model.specs.declared.layout.Layout.{Layout}
use Rattle.brc_model.specs.declared.state.Slot.TheVariants.{Empty}
use Rattle.brc_model.specs.declared.state.State.{State}
use Rattle.brc_model.specs.SlotStates.{var_of, is_empty, is_borrowed, names, put, lowest, without_items}
use Rattle.brc_model.proofs.Basics.Lists.{first_false, second_false}
use Rattle.brc_model.proofs.Dispatch.Passing.{are_met}
use Rattle.brc_table.specs.Views.{without_reference}
use Rattle.brc_table.specs.Hands.{TableState, IsOf}
use Rattle.brc_work.specs.Changes.{CanGive}
use Rattle.brc_work.specs.Fits.{Base, Fits}
use Rattle.brc_work.proofs.CallsBelow.{with_references, beside_acts, itself_acts}
use Rattle.brc_work.proofs.Conditions.{kept, can_give, not_false}
use Rattle.brc_work.proofs.Passing.{none_broken}
use Rattle.brc_work.proofs.Fitting.{refits, bare_fits}
use Rattle.brc_work.proofs.Holding.{names_object, owned_one, keeps_lock, few_held}
use Rattle.brc_work.proofs.LockedList.{on_list, sized_fits, besides, idle_about}
use Rattle.brc_work.proofs.Moving.{given}
use Rattle.brc_work.proofs.Traces.Items.{HasSized, sets_outside, sets_item}
use Rattle.brc_work.proofs.worker.Worker.set.Given as facts
use Rattle.brc_work.proofs.worker.Worker.set.Goals.{After-size}
use Rattle.brc_work.proofs.worker.Worker.set.Goals as goal

-- The hand has asked for the list's size, and the variables and the hand are still as the state says.
later : (g : facts.Over) (c : After-size g) (base : Base) (s : State)
    → Fits base s c.args.rows.now c.args.hand.now → Fits base s c.args.rows.now c.size.new.hand
later g c base s fits =
    sized_fits base s c.args.rows.now c.args.hand.now c.size.new.hand c.row_in-row.result c.size.ensures.events.0 fits
    c.size.ensures.keeps
    (c.size.ensures.table.0
    ∙ (ap (λ (w : TableState). w.table) (c.new.ensures ∙ c.self.view_is) ∙ sym c.requires.may.of.0))
    c.size.ensures.carried c.size.ensures.fields c.size.ensures.locked c.size.ensures.events.1

-- The variable's reference may be given away.
can : (g : facts.Over) (c : After-size g) (s : State)
    → lowest (instructions.Set c.args.list c.args.index c.args.from c.args.otherwise) s ≡ None → CanGive s c.args.from
can g c s passes =
    let met = are_met (instructions.Set c.args.list c.args.index c.args.from c.args.otherwise) s passes in
    can_give s c.args.from (first_false (is_empty (var_of s c.args.from)) _ met.not_empty)
    (kept (is_borrowed (var_of s c.args.from)) met.owned) (kept (names s.locked c.args.from) met.unlocked)

-- The hand has asked for the list's size.
has_sized : (g : facts.Over) (c : After-size g)
    → HasSized c.args.list c.row_in-row.result c.args.index c.from-cell.result c.size.result
    c.size.ensures.events.0 c.args.rows.now c.args.hand.now.view c.size.new.hand.view
has_sized g c = record {
  none = c.requires.may.fits.rests.agenda;
  names = c.row_in-row.ensures;
  same = c.from-cell.ensures;
  size_is = c.size.ensures.events.2;
  view_is = c.size.ensures.events.1;
}

pub row_in-row-requires : goal.row_in-row-requires
row_in-row-requires g c =
    let may = c.requires.may in
    names_object may.base may.state c.args.rows.now c.args.hand.now may.fits c.args.list
    (kept (is_empty (var_of may.state c.args.list))
    (second_false (is_empty (var_of may.state c.args.from)) _ (none_broken may).not_empty))

pub size-requires-clause-usable : goal.size-requires-clause-usable
size-requires-clause-usable g c =
    let before = c.requires.may in
    inl (inl (on_list before.base before.state c.args.rows.now c.args.hand.now c.args.list c.row_in-row.result
    before.fits (not_false (names before.state.locked c.args.list) (kept _ (none_broken before).has_lock))
    c.row_in-row.ensures).one)

pub row_in-item-requires : goal.row_in-item-requires
row_in-item-requires g c =
    let may = c.requires.may in
    names_object may.base may.state c.args.rows.now c.args.hand.now may.fits c.args.from
    (first_false (is_empty (var_of may.state c.args.from)) _ (none_broken may).not_empty)

pub give_up-requires-clause-fits : goal.give_up-requires-clause-fits
give_up-requires-clause-fits g c = λ κs lives.
    let at = (goal.at.give_up-requires-clause-fits g c).After-size in
    record {
      base = c.requires.may.base;
      state = c.requires.may.state;
      of = subst (λ (w : TableState). IsOf w c.size.new.hand) (c.new.ensures ∙ c.self.view_is) c.size.ensures.table;
      fits = later g at _ _ c.requires.may.fits;
      can_do = can g at _ c.requires.may.passes;
    }

pub returns-then-cell-size-clause-done : goal.returns-then-cell-size-clause-done
returns-then-cell-size-clause-done g c = λ base s fits passes.
    let asked = (goal.at.returns-then-cell-size-clause-done g c).After-size in
    let given_up = c.give_up.ensures.goes base s (later g asked base s fits) (can g asked s passes) in
    bare_fits base (put s c.args.from Empty) c.give_up.new.rows c.give_up.new.hand c.give_up.new.hand given_up
    (itself_acts c.give_up.new.hand given_up.rests).acts refl

pub exchange-requires-clause-held : goal.exchange-requires-clause-held
exchange-requires-clause-held g c = λ κs lives.
    let may = c.requires.may in
    let fits = later g (goal.at.exchange-requires-clause-held g c).After-size may.base may.state may.fits in
    (on_list may.base may.state c.args.rows.now c.size.new.hand c.args.list c.row_in-row.result fits
    (not_false (names may.state.locked c.args.list) (kept _ (none_broken may).has_lock)) c.row_in-row.ensures).one

pub exchange-requires-clause-puts : goal.exchange-requires-clause-puts
exchange-requires-clause-puts g c = λ κs lives.
    let at = (goal.at.exchange-requires-clause-puts g c).After-size in
    let fits = later g at _ _ c.requires.may.fits in
    let give = can g at _ c.requires.may.passes in
    let item = c.row_in-item.result in (
      owned_one _ _ _ _ fits c.args.from item give.owned c.row_in-item.ensures,
      idle_about c.size.new.hand item fits.rests,
      keeps_lock _ _ _ _ fits c.args.from item give c.row_in-item.ensures,
    )

pub exchange-requires-clause-few : goal.exchange-requires-clause-few
exchange-requires-clause-few g c = λ κs lives.
    few_held _ _ _ _ (later g (goal.at.exchange-requires-clause-few g c).After-size _ _ c.requires.may.fits)

pub returns-clause-done : goal.returns-clause-done
returns-clause-done g c = λ base s fits passes.
    let at = (goal.at.returns-clause-done g c).After-size in
    let mid = c.size.new.hand in
    let after = c.exchange.new.hand in
    let row = c.row_in-item.result in
    let sized = later g at base s fits in
    let gives = can g at s passes in
    let references = without_reference base.first.view.layout row mid.view.references in
    let between = with_references mid references in
    let one =
    refits base s c.args.rows.now mid between c.args.from Empty None sized c.name.ensures.low gives.unlocked
    (beside_acts mid references sized.rests) tt
    (given base s c.args.rows.now mid between c.args.from row sized gives c.row_in-item.ensures refl) in
    subst (λ (rows : List (Option ℕ)). Fits base (without_items (put s c.args.from Empty)) rows after)
    (sym c.name.ensures.named)
    (bare_fits base (put s c.args.from Empty) (slice_set c.args.rows.now c.args.from None) between after one
    (besides mid after references c.exchange.ensures.acts)
    (c.exchange.ensures.less
    ∙ ap (λ (l : Layout). without_reference l row mid.view.references) sized.follows.layout))

pub returns-then-cell-size-clause-asked : goal.returns-then-cell-size-clause-asked
returns-then-cell-size-clause-asked g c =
    asked_as (λ cs.
    sets_outside _ _ _ _ _ _ _ _ _ (has_sized g (goal.at.returns-then-cell-size-clause-asked g c).After-size)
    c.args.from c.args.otherwise {cs = cs} c.give_up.new.rows c.give_up.new.hand.view c.if-cell-size.true)
    c.give_up.ensures.asked

pub returns-clause-asked : goal.returns-clause-asked
returns-clause-asked g c =
    asked_as (λ cs swap.
    sets_item _ _ _ _ _ _ _ _ _ (has_sized g (goal.at.returns-clause-asked g c).After-size) c.args.from c.args.otherwise
    {cs = cs} c.name.new.rows c.row_in-item.result c.exchange.new.hand.view c.if-cell-size.false c.row_in-item.ensures
    swap c.name.ensures.named) c.exchange.ensures.asked
