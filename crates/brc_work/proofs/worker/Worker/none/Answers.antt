use Rattle.std.proofs.Common.{ℕ, List, Option, Some, refl, sym, subst}
use Rattle.brc_lang.specs.declared.kind.Kind.TheVariants as kinds
use Rattle.brc_lang.specs.declared.module.Instr.TheVariants as instructions
use Rattle.brc_model.specs.declared.state.Slot.TheVariants.{Owned}
use Rattle.brc_model.specs.SlotStates.{var_of, put}
use Rattle.brc_model.specs.Threads.{row_of}
use Rattle.brc_model.proofs.Dispatch.Passing.{are_met}
use Rattle.brc_work.specs.Fits.{OfNone, Fits}
use Rattle.brc_work.proofs.CallsBelow.{itself_acts}
use Rattle.brc_work.proofs.Conditions.{can_fill}
use Rattle.brc_work.proofs.Fitting.{refits}
use Rattle.brc_work.proofs.Trading.{gains}
use Rattle.brc_work.proofs.Traces.References.{makes_none}
use Rattle.brc_work.proofs.worker.Worker.none.Goals as goal

pub returns : goal.returns
returns g c = record {
  done = λ base s fits passes.
      let hand = c.args.hand.now in
      let met = are_met (instructions.NoneObject c.args.to) s passes in
      let can = can_fill s c.args.to met.free met.unlocked in
      subst (λ (rows : List (Option ℕ)). Fits base (put s c.args.to (Owned kinds.None)) rows hand)
      (sym c.name.ensures.named)
      (refits base s c.args.rows.now hand hand c.args.to (Owned kinds.None)
      (Some 0) fits c.name.ensures.low can.unlocked
      (itself_acts hand fits.rests) (record { object = 0; is = refl; knows = OfNone refl refl })
      (gains base.first.view.layout (var_of s c.args.to)
      (row_of c.args.rows.now c.args.to) kinds.None 0 hand hand can.free refl));
  made = makes_none c.args.to c.args.rows.now c.name.new.rows c.args.hand.now.view c.name.ensures.named;
}
