use Rattle.std.proofs.Common.{codes, refl}
use Rattle.brc_lang.specs.Grammar.{instruction}
use Rattle.brc_lang.proofs.Written.{stops_early, stops_late}
use Rattle.brc_lang.proofs.writing.write_line.Goals as goal

pub returns-in_err-write_instruction-clause-begun : goal.returns-in_err-write_instruction-clause-begun
returns-in_err-write_instruction-clause-begun g c =
    stops_early _ _ _ _ (instruction c.args.above.now c.args.instr) (codes "\n") refl
    c.in_err-write_instruction.ensures.begun

pub returns-clause-begun : goal.returns-clause-begun
returns-clause-begun g c =
    stops_late _ _ _ _ _ (instruction c.args.above.now c.args.instr) (codes "\n") refl
    c.in_ok-write_instruction.ensures.whole c.write_bytes.ensures.begun
