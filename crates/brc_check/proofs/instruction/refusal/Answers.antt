use Rattle.std.proofs.Common.{List, sym, ap, ◌∙◌}
use Rattle.brc_lang.specs.declared.module.Instr.{Instr}
use Rattle.brc_lang.specs.declared.module.Instr.TheVariants.{Call}
use Rattle.brc_lang.specs.declared.parameter.Argument.{Argument}
use Rattle.brc_model.specs.SlotStates.{lowest}
use Rattle.brc_check.proofs.instruction.refusal.Goals as goal

pub returns-in-Call : goal.returns-in-Call
returns-in-Call c =
    c.call_refusal.ensures
    ∙ ap (λ (arguments : List Argument). lowest (Call c.in-Call.to 0 arguments 0) c.args.state.now)
    c.as_slice.ensures.value
    ∙ ap (λ (i : Instr). lowest i c.args.state.now) (sym c.in-Call.is)
