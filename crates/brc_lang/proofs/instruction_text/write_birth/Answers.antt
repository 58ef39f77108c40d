use Rattle.std.proofs.Common.{◌≡◌, ◌++◌, ◌∙◌, [], ◌∷◌, List, ℕ, codes, decimal, sym, append_assoc}
use Rattle.std.proofs.KnownBytes.{Appends-trans}
use Rattle.brc_lang.specs.Grammar.{spaced, variable, target}
use Rattle.brc_lang.proofs.Written.{stops_early, stops_between, stops_late}
use Rattle.brc_lang.proofs.instruction_text.write_birth.Goals as goal

abbrev operands : ℕ → ℕ → ℕ → List ℕ
operands to number otherwise = spaced (variable to ∷ decimal number ∷ codes "else" ∷ target otherwise ∷ [])

first_part : (before : List ℕ) (to number otherwise : ℕ)
    → before ++ operands to number otherwise
    ≡ (before ++ variable to) ++ ((codes " " ++ decimal number) ++ (codes " else @" ++ decimal otherwise))
first_part before to number otherwise =
    sym (append_assoc before (variable to) ((codes " " ++ decimal number) ++ (codes " else @" ++ decimal otherwise)))

parts : (before : List ℕ) (to number otherwise : ℕ)
    → before ++ operands to number otherwise
    ≡ ((before ++ variable to) ++ (codes " " ++ decimal number)) ++ (codes " else @" ++ decimal otherwise)
parts before to number otherwise =
    first_part before to number otherwise
    ∙ sym (append_assoc (before ++ variable to) (codes " " ++ decimal number) (codes " else @" ++ decimal otherwise))

pub returns-in_err-write_operand-clause-begun : goal.returns-in_err-write_operand-clause-begun
returns-in_err-write_operand-clause-begun g c =
    stops_early _ _ _ _ (c.args.before.now ++ variable c.args.to)
    ((codes " " ++ decimal c.args.number) ++ (codes " else @" ++ decimal c.args.otherwise))
    (first_part c.args.before.now c.args.to c.args.number c.args.otherwise)
    c.in_err-write_operand.ensures.begun

pub returns-in_err-write_numeral-clause-begun : goal.returns-in_err-write_numeral-clause-begun
returns-in_err-write_numeral-clause-begun g c =
    stops_between _ _ _ _ _ (c.args.before.now ++ variable c.args.to) (codes " " ++ decimal c.args.number)
    (codes " else @" ++ decimal c.args.otherwise)
    (parts c.args.before.now c.args.to c.args.number c.args.otherwise)
    c.in_ok-write_operand.ensures.whole (rw c.from.ensures at c.in_err-write_numeral.ensures.begun)

pub returns-clause-begun : goal.returns-clause-begun
returns-clause-begun g c =
    let front =
    Appends-trans _ _ _ (c.args.before.now ++ variable c.args.to) (codes " " ++ decimal c.args.number)
    c.in_ok-write_operand.ensures.whole (rw c.from.ensures at c.in_ok-write_numeral.ensures.whole) in
    stops_late _ _ _ _ _ ((c.args.before.now ++ variable c.args.to) ++ (codes " " ++ decimal c.args.number))
    (codes " else @" ++ decimal c.args.otherwise)
    (parts c.args.before.now c.args.to c.args.number c.args.otherwise)
    front (rw c.from-2.ensures at c.write_numeral-2.ensures.begun)
