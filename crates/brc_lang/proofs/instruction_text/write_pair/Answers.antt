use Rattle.std.proofs.Common.{◌≡◌, ◌++◌, ◌∙◌, [], ◌∷◌, List, ℕ, codes, decimal, ap, sym, append_assoc}
use Rattle.brc_lang.specs.Grammar.{spaced, variable, target}
use Rattle.brc_lang.proofs.Written.{stops_early, stops_late}
use Rattle.brc_lang.proofs.instruction_text.write_pair.Goals as goal

abbrev operands : ℕ → ℕ → ℕ → List ℕ
operands first second otherwise = spaced (variable first ∷ variable second ∷ codes "else" ∷ target otherwise ∷ [])

abbrev variables : ℕ → ℕ → List ℕ
variables first second = spaced (variable first ∷ variable second ∷ [])

parts : (before : List ℕ) (first second otherwise : ℕ)
    → before ++ operands first second otherwise
    ≡ (before ++ variables first second) ++ (codes " else @" ++ decimal otherwise)
parts before first second otherwise =
    ap (λ l. before ++ l)
    (sym (append_assoc (variable first) (codes " " ++ variable second) (codes " else @" ++ decimal otherwise)))
    ∙ sym (append_assoc before (variables first second) (codes " else @" ++ decimal otherwise))

pub returns-in_err-write_operands-clause-begun : goal.returns-in_err-write_operands-clause-begun
returns-in_err-write_operands-clause-begun g c =
    stops_early _ _ _ _ (c.args.before.now ++ variables c.args.first c.args.second)
    (codes " else @" ++ decimal c.args.otherwise)
    (parts c.args.before.now c.args.first c.args.second c.args.otherwise) c.in_err-write_operands.ensures.begun

pub returns-clause-begun : goal.returns-clause-begun
returns-clause-begun g c =
    stops_late _ _ _ _ _ (c.args.before.now ++ variables c.args.first c.args.second)
    (codes " else @" ++ decimal c.args.otherwise)
    (parts c.args.before.now c.args.first c.args.second c.args.otherwise)
    c.in_ok-write_operands.ensures.whole (rw c.from.ensures at c.write_numeral.ensures.begun)
