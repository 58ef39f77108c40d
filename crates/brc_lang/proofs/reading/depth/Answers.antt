use Rattle.std.proofs.Common.{arith}
use Rattle.brc_lang.specs.Grammar.{depths}
use Rattle.brc_lang.proofs.Depths.{one_or_more}
use Rattle.brc_lang.proofs.reading.depth.Goals as goal

pub loop-instr-init : goal.loop-instr-init
loop-instr-init c = (omega arith, one_or_more (depths c.args.above.now.functions) c.args.code.now)
