use Rattle.std.proofs.Common.{ℕ, List, Option, Some, refl, sym, ap, ◌∙◌, subst}
use Rattle.brc_lang.specs.declared.module.Instr.TheVariants as instructions
use Rattle.brc_model.specs.declared.layout.Layout.{Layout}
use Rattle.brc_model.specs.declared.state.Slot.TheVariants.{Owned}
use Rattle.brc_model.specs.SlotStates.{var_of, kind_of, is_empty, put}
use Rattle.brc_model.specs.Threads.{row_of}
use Rattle.brc_model.proofs.Dispatch.Passing.{are_met}
use Rattle.brc_table.specs.Views.{with_reference}
use Rattle.brc_table.specs.Hands.{TableState}
use Rattle.brc_work.specs.Fits.{Fits}
use Rattle.brc_work.proofs.CallsBelow.{left_acts}
use Rattle.brc_work.proofs.Conditions.{kept, can_fill}
use Rattle.brc_work.proofs.Fitting.{refits}
use Rattle.brc_work.proofs.Holding.{names_object, usable, few_held, knows_slot}
use Rattle.brc_work.proofs.Staying.{knows_more}
use Rattle.brc_work.proofs.Trading.{gains}
use Rattle.brc_work.proofs.Traces.References.{makes_newref}
use Rattle.brc_work.proofs.worker.Worker.newref.Goals as goal

pub row_in-row-requires : goal.row_in-row-requires
row_in-row-requires g c =
    let may = c.requires.may in
    let met = are_met (instructions.Newref c.args.to c.args.from) may.state may.passes in
    names_object may.base may.state c.args.rows.now c.args.hand.now may.fits c.args.from
    (kept (is_empty (var_of may.state c.args.from)) met.not_empty)

pub retain-requires-clause-usable : goal.retain-requires-clause-usable
retain-requires-clause-usable g c =
    let may = c.requires.may in
    let met = are_met (instructions.Newref c.args.to c.args.from) may.state may.passes in
    usable may.base may.state c.args.rows.now c.args.hand.now may.fits c.args.from c.row_in-row.result
    (kept (is_empty (var_of may.state c.args.from)) met.not_empty) c.row_in-row.ensures

pub retain-requires-clause-few : goal.retain-requires-clause-few
retain-requires-clause-few g c =
    let may = c.requires.may in few_held may.base may.state c.args.rows.now c.args.hand.now may.fits

pub returns-clause-done : goal.returns-clause-done
returns-clause-done g c = λ base s fits passes.
    let hand = c.args.hand.now in
    let after = c.retain.new.hand in
    let row = c.row_in-row.result in
    let from = var_of s c.args.from in
    let met = are_met (instructions.Newref c.args.to c.args.from) s passes in
    let can = can_fill s c.args.to met.free met.unlocked in
    let did =
    left_acts hand after row fits.rests c.retain.ensures.left
    (c.retain.ensures.table.0 ∙ ap (λ (w : TableState). w.table) c.self.view_is ∙ sym c.requires.may.of.0)
    c.retain.ensures.carried c.retain.ensures.fields c.retain.ensures.head in
    subst (λ (rows : List (Option ℕ)). Fits base (put s c.args.to (Owned (kind_of from))) rows after)
    (sym c.name.ensures.named)
    (refits base s c.args.rows.now hand after c.args.to (Owned (kind_of from))
    (Some row) fits c.name.ensures.low can.unlocked
    did (record {
      object = row;
      is = refl;
      knows =
          knows_more hand.view after.view (kind_of from) row did.acts.more
          (knows_slot base.held hand.view from (row_of c.args.rows.now c.args.from) row
          (kept (is_empty from) met.not_empty)
          (fits.each c.args.from) c.row_in-row.ensures);
    })
    (gains base.first.view.layout (var_of s c.args.to) (row_of c.args.rows.now c.args.to)
    (kind_of from) row hand after can.free
    (c.retain.ensures.references
    ∙ ap (λ (l : Layout). with_reference l row hand.view.references) fits.follows.layout)))

pub returns-clause-made : goal.returns-clause-made
returns-clause-made g c =
    let steps = c.retain.ensures.events in
    makes_newref c.args.to c.args.from c.row_in-row.result steps.0 steps.1 c.args.rows.now c.name.new.rows
    c.args.hand.now.view c.retain.new.hand.view c.requires.may.fits.rests.agenda c.row_in-row.ensures
    c.name.ensures.named
    steps.3
