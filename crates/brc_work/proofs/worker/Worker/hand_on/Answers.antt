use Rattle.std.proofs.Common.{ℕ, List, Option, Some, sym, ap, ◌∙◌, subst}
use Rattle.std.specs.Prelude.{slice_set}
use Rattle.brc_lang.specs.declared.module.Instr.TheVariants as instructions
use Rattle.brc_work.proofs.Conditions.{kept}
use Rattle.brc_model.specs.SlotStates.{var_of, is_empty}
use Rattle.brc_model.proofs.Dispatch.Passing.{are_met}
use Rattle.brc_work.specs.Fits.{Fits}
use Rattle.brc_work.proofs.Holding.{names_object}
use Rattle.brc_work.proofs.Moving.{moved, after_move}
use Rattle.brc_work.proofs.Traces.References.{makes_move}
use Rattle.brc_work.proofs.worker.Worker.hand_on.Goals as goal

pub row_in-row-requires : goal.row_in-row-requires
row_in-row-requires g c =
    let may = c.requires.may in
    let met = are_met (instructions.Move c.args.to c.args.from) may.state may.passes in
    names_object may.base may.state c.args.rows.now c.args.hand.now may.fits c.args.from
    (kept (is_empty (var_of may.state c.args.from)) met.not_empty)

pub returns : goal.returns
returns g c = record {
  done = λ base s fits passes.
      subst (λ (rows : List (Option ℕ)). Fits base (after_move s c.args.to c.args.from) rows c.args.hand.now)
      (sym (c.name-2.ensures.named ∙ ap (λ (rows : List (Option ℕ)). slice_set rows c.args.to
      (Some c.row_in-row.result)) c.name.ensures.named))
      (moved base s c.args.rows.now c.args.hand.now c.args.to c.args.from c.row_in-row.result fits passes
      c.name.ensures.low c.name-2.ensures.low c.row_in-row.ensures);
  made = makes_move c.args.to c.args.from c.row_in-row.result c.args.rows.now c.name-2.new.rows c.args.hand.now.view
      c.row_in-row.ensures
      (c.name-2.ensures.named
      ∙ ap (λ (rows : List (Option ℕ)). slice_set rows c.args.to (Some c.row_in-row.result)) c.name.ensures.named);
}
