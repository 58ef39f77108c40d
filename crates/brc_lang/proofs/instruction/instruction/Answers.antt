use Rattle.std.proofs.Common.{sym, ap, ◌∙◌}
use Rattle.brc_lang.specs.InstructionWords.{instruction_in}
use Rattle.brc_lang.proofs.instruction.instruction.Goals as goal

pub returns-in-None : goal.returns-in-None
returns-in-None c =
    let above = c.args.above.now in
    c.lone_word.ensures above.version above.statics above.functions
    ∙ ap (instruction_in above.version above.statics above.functions) (sym (rw c.in-None.is at c.split_word.ensures))
