use Rattle.std.proofs.Common.{◌++◌, codes, decimal, refl}
use Rattle.brc_lang.specs.Grammar.{variable}
use Rattle.brc_lang.proofs.Written.{stops_early, stops_late}
use Rattle.brc_lang.proofs.instruction_text.write_take.Goals as goal

pub returns-in_err-write_operand-clause-begun : goal.returns-in_err-write_operand-clause-begun
returns-in_err-write_operand-clause-begun g c =
    stops_early _ _ _ _ (codes "take " ++ variable c.args.to) (codes " " ++ decimal c.args.list) refl
    c.in_err-write_operand.ensures.begun

pub returns-clause-begun : goal.returns-clause-begun
returns-clause-begun g c =
    stops_late _ _ _ _ _ (codes "take " ++ variable c.args.to) (codes " " ++ decimal c.args.list) refl
    c.in_ok-write_operand.ensures.whole (rw c.from.ensures at c.write_numeral.ensures.begun)
