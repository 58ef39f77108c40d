use Rattle.std.proofs.Common.{◌≡◌, ◌++◌, ◌∙◌, [], ◌∷◌, List, ℕ, codes, decimal, ap, sym, append_assoc}
use Rattle.std.proofs.KnownBytes.{Appends-trans}
use Rattle.brc_lang.specs.Grammar.{spaced, variable, target}
use Rattle.brc_lang.proofs.Written.{stops_early, stops_between, stops_late}
use Rattle.brc_lang.proofs.instruction_text.write_taking.Goals as goal

abbrev operands : ℕ → ℕ → ℕ → ℕ → List ℕ
operands to object number otherwise =
    spaced (variable to ∷ variable object ∷ decimal number ∷ codes "else" ∷ target otherwise ∷ [])

abbrev pair : ℕ → ℕ → List ℕ
pair to object = spaced (variable to ∷ variable object ∷ [])

abbrev rest : ℕ → ℕ → List ℕ
rest number otherwise = (codes " " ++ decimal number) ++ (codes " else @" ++ decimal otherwise)

first_part : (before : List ℕ) (to object number otherwise : ℕ)
    → before ++ operands to object number otherwise ≡ (before ++ pair to object) ++ rest number otherwise
first_part before to object number otherwise =
    ap (λ l. before ++ l) (sym (append_assoc (variable to) (codes " " ++ variable object) (rest number otherwise)))
    ∙ sym (append_assoc before (pair to object) (rest number otherwise))

parts : (before : List ℕ) (to object number otherwise : ℕ)
    → before ++ operands to object number otherwise
    ≡ ((before ++ pair to object) ++ (codes " " ++ decimal number)) ++ (codes " else @" ++ decimal otherwise)
parts before to object number otherwise =
    first_part before to object number otherwise
    ∙ sym (append_assoc (before ++ pair to object) (codes " " ++ decimal number) (codes " else @" ++ decimal otherwise))

pub returns-in_err-write_operands-clause-begun : goal.returns-in_err-write_operands-clause-begun
returns-in_err-write_operands-clause-begun g c =
    stops_early _ _ _ _ (c.args.before.now ++ pair c.args.to c.args.object) (rest c.args.number c.args.otherwise)
    (first_part c.args.before.now c.args.to c.args.object c.args.number c.args.otherwise)
    c.in_err-write_operands.ensures.begun

pub returns-in_err-write_numeral-clause-begun : goal.returns-in_err-write_numeral-clause-begun
returns-in_err-write_numeral-clause-begun g c =
    stops_between _ _ _ _ _ (c.args.before.now ++ pair c.args.to c.args.object) (codes " " ++ decimal c.args.number)
    (codes " else @" ++ decimal c.args.otherwise)
    (parts c.args.before.now c.args.to c.args.object c.args.number c.args.otherwise)
    c.in_ok-write_operands.ensures.whole (rw c.from.ensures at c.in_err-write_numeral.ensures.begun)

pub returns-clause-begun : goal.returns-clause-begun
returns-clause-begun g c =
    let front =
    Appends-trans _ _ _ (c.args.before.now ++ pair c.args.to c.args.object) (codes " " ++ decimal c.args.number)
    c.in_ok-write_operands.ensures.whole (rw c.from.ensures at c.in_ok-write_numeral.ensures.whole) in
    stops_late _ _ _ _ _ ((c.args.before.now ++ pair c.args.to c.args.object) ++ (codes " " ++ decimal c.args.number))
    (codes " else @" ++ decimal c.args.otherwise)
    (parts c.args.before.now c.args.to c.args.object c.args.number c.args.otherwise)
    front (rw c.from-2.ensures at c.write_numeral-2.ensures.begun)
