use Rattle.std.proofs.Common.{inl, sym, ap, ◌∙◌}
use Rattle.brc_lang.specs.declared.module.Instr.TheVariants as instructions
use Rattle.brc_model.specs.SlotStates.{var_of, is_empty}
use Rattle.brc_model.proofs.Dispatch.Kinds.{same_kind_is}
use Rattle.brc_model.proofs.Dispatch.Passing.{are_met}
use Rattle.brc_table.specs.Hands.{TableState}
use Rattle.brc_work.proofs.CallsBelow.{left_acts}
use Rattle.brc_work.proofs.Conditions.{kept}
use Rattle.brc_work.proofs.Fitting.{same_fits}
use Rattle.brc_work.proofs.Holding.{names_object, usable}
use Rattle.brc_work.proofs.Asking.{kind_fits}
use Rattle.brc_work.proofs.Traces.Kinds.{is_of, is_not_of}
use Rattle.brc_work.proofs.worker.Worker.is_of_kind.Goals as goal

pub row_in-row-requires : goal.row_in-row-requires
row_in-row-requires g c =
    let may = c.requires.may in
    let met = are_met (instructions.As c.args.from c.args.kind c.args.otherwise) may.state may.passes in
    names_object may.base may.state c.args.rows.now c.args.hand.now may.fits c.args.from
    (kept (is_empty (var_of may.state c.args.from)) met.not_empty)

pub kind_of-requires-clause-usable : goal.kind_of-requires-clause-usable
kind_of-requires-clause-usable g c =
    let may = c.requires.may in
    let met = are_met (instructions.As c.args.from c.args.kind c.args.otherwise) may.state may.passes in
    inl (usable may.base may.state c.args.rows.now c.args.hand.now may.fits c.args.from c.row_in-row.result
    (kept (is_empty (var_of may.state c.args.from)) met.not_empty) c.row_in-row.ensures)

pub returns-then-same_kind-clause-done : goal.returns-then-same_kind-clause-done
returns-then-same_kind-clause-done g c = λ base s fits passes.
    let hand = c.args.hand.now in
    let after = c.kind_of.new.hand in
    let row = c.row_in-row.result in
    let met = are_met (instructions.As c.args.from c.args.kind c.args.otherwise) s passes in
    let did =
    left_acts hand after row fits.rests c.kind_of.ensures.left
    (c.kind_of.ensures.table.0 ∙ ap (λ (w : TableState). w.table) c.self.view_is ∙ sym c.requires.may.of.0)
    c.kind_of.ensures.carried c.kind_of.ensures.fields c.kind_of.ensures.head in
    let sees = c.kind_of.ensures.sees in
    let same = same_kind_is c.kind_of.result c.args.kind (sym c.same_kind.ensures ∙ c.if-same_kind.true) in
    kind_fits base s c.args.rows.now hand after c.args.from row sees.0 c.args.kind fits did c.kind_of.ensures.references
    (kept (is_empty (var_of s c.args.from)) met.not_empty) c.row_in-row.ensures sees.1
    (sym sees.2 ∙ same)

pub returns-else-same_kind-clause-done : goal.returns-else-same_kind-clause-done
returns-else-same_kind-clause-done g c = λ base s fits passes.
    let hand = c.args.hand.now in
    let after = c.kind_of.new.hand in
    let did =
    left_acts hand after c.row_in-row.result fits.rests c.kind_of.ensures.left
    (c.kind_of.ensures.table.0 ∙ ap (λ (w : TableState). w.table) c.self.view_is ∙ sym c.requires.may.of.0)
    c.kind_of.ensures.carried c.kind_of.ensures.fields
    c.kind_of.ensures.head in
    same_fits base s c.args.rows.now hand after fits did c.kind_of.ensures.references

pub returns-then-same_kind-clause-made : goal.returns-then-same_kind-clause-made
returns-then-same_kind-clause-made g c =
    let sees = c.kind_of.ensures.sees in
    is_of c.args.from c.row_in-row.result sees.0 c.args.otherwise c.args.kind c.kind_of.result c.args.rows.now
    c.args.hand.now.view c.kind_of.new.hand.view c.requires.may.fits.rests.agenda c.row_in-row.ensures sees.1.view_is
    sees.2 (sym c.same_kind.ensures ∙ c.if-same_kind.true)

pub returns-else-same_kind-clause-made : goal.returns-else-same_kind-clause-made
returns-else-same_kind-clause-made g c =
    let sees = c.kind_of.ensures.sees in
    is_not_of c.args.from c.row_in-row.result sees.0 c.args.otherwise c.args.kind c.kind_of.result c.args.rows.now
    c.args.hand.now.view c.kind_of.new.hand.view c.requires.may.fits.rests.agenda c.row_in-row.ensures sees.1.view_is
    sees.2 (sym c.same_kind.ensures ∙ c.if-same_kind.false)
