use Rattle.std.proofs.Common.{◌≡◌, ◌++◌, [], ℕ, codes, decimal, refl, sym, append_assoc}
use Rattle.std.proofs.KnownBytes.{Appends-trans}
use Rattle.brc_lang.specs.declared.kind.Kind.{Kind}
use Rattle.brc_lang.specs.declared.module.Instr.TheVariants.{As}
use Rattle.brc_lang.specs.Grammar.{variable, kind_name, instruction}
use Rattle.brc_lang.proofs.Written.{stops_early, stops_between, stops_late}
use Rattle.brc_lang.proofs.instruction_text.write_as.Goals as goal

parts : (from : ℕ) (kind : Kind) (otherwise : ℕ)
    → instruction [] (As from kind otherwise) ≡ (codes "as " ++ variable from) ++ (codes " " ++ kind_name kind)
    ++ (codes " else @" ++ decimal otherwise)
parts from kind otherwise =
    sym (append_assoc (codes "as " ++ variable from) (codes " " ++ kind_name kind)
    (codes " else @" ++ decimal otherwise))

pub returns-in_err-write_operand-clause-begun : goal.returns-in_err-write_operand-clause-begun
returns-in_err-write_operand-clause-begun g c =
    stops_early _ _ _ _ (codes "as " ++ variable c.args.from)
    ((codes " " ++ kind_name c.args.kind) ++ (codes " else @" ++ decimal c.args.otherwise)) refl
    c.in_err-write_operand.ensures.begun

pub returns-in_err-write_word-clause-begun : goal.returns-in_err-write_word-clause-begun
returns-in_err-write_word-clause-begun g c =
    stops_between _ _ _ _ _ (codes "as " ++ variable c.args.from) (codes " " ++ kind_name c.args.kind)
    (codes " else @" ++ decimal c.args.otherwise) (parts c.args.from c.args.kind c.args.otherwise)
    c.in_ok-write_operand.ensures.whole (rw c.name.ensures at c.in_err-write_word.ensures.begun)

pub returns-clause-begun : goal.returns-clause-begun
returns-clause-begun g c =
    let front =
    Appends-trans _ _ _ (codes "as " ++ variable c.args.from) (codes " " ++ kind_name c.args.kind)
    c.in_ok-write_operand.ensures.whole (rw c.name.ensures at c.in_ok-write_word.ensures.whole) in
    stops_late _ _ _ _ _ ((codes "as " ++ variable c.args.from) ++ (codes " " ++ kind_name c.args.kind))
    (codes " else @" ++ decimal c.args.otherwise) (parts c.args.from c.args.kind c.args.otherwise)
    front (rw c.from.ensures at c.write_numeral.ensures.begun)
