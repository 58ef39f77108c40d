use Rattle.std.proofs.Common.{arith}
use Rattle.brc_lang.proofs.Instructions.{behind_fail}
use Rattle.brc_lang.proofs.instruction.path_instruction.Goals as goal

pub returns-else-is_word-4 : goal.returns-else-is_word-4
returns-else-is_word-4 c = grind (arith, behind_fail c.args.operands.now)
