use Rattle.std.proofs.Common.{suc, take, drop}
use Rattle.brc_lang.specs.Grammar.{instruction, instructions, line}
use Rattle.brc_lang.proofs.Written.{stops_between, flat_map_around}
use Rattle.brc_lang.proofs.writing.write_instructions.Goals as goal

pub returns-in_err-write_line-clause-begun : goal.returns-in_err-write_line-clause-begun
returns-in_err-write_line-clause-begun g c =
    let code = c.args.code.now in
    let i = c.loop-instr.instr-index in
    let above = c.args.above.now in
    stops_between _ _ _ _ _ (instructions above (take i code)) (line (instruction above c.instr-item.result))
    (instructions above (drop (suc i) code))
    (flat_map_around (λ instr. line (instruction above instr)) code i c.instr-item.result c.instr-item.result
    c.loop-instr-test.true c.instr-item.is)
    c.loop-instr.invariant c.in_err-write_line.ensures.begun
