use Rattle.std.proofs.Common.{◌++◌, codes, sym, append_assoc}
use Rattle.brc_lang.specs.Grammar.{variable}
use Rattle.brc_lang.proofs.Written.{stops_early, stops_late}
use Rattle.brc_lang.proofs.instruction_text.write_operands.Goals as goal

pub returns-in_err-write_operand-clause-begun : goal.returns-in_err-write_operand-clause-begun
returns-in_err-write_operand-clause-begun g c =
    stops_early _ _ _ _ (c.args.before.now ++ variable c.args.to) (codes " " ++ variable c.args.from)
    (sym (append_assoc c.args.before.now (variable c.args.to) (codes " " ++ variable c.args.from)))
    c.in_err-write_operand.ensures.begun

pub returns-clause-begun : goal.returns-clause-begun
returns-clause-begun g c =
    stops_late _ _ _ _ _ (c.args.before.now ++ variable c.args.to) (codes " " ++ variable c.args.from)
    (sym (append_assoc c.args.before.now (variable c.args.to) (codes " " ++ variable c.args.from)))
    c.in_ok-write_operand.ensures.whole c.write_operand-2.ensures.begun
