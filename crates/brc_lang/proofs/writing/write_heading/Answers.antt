use Rattle.std.proofs.Common.{◌≡◌, ◌++◌, ◌∙◌, [], ◌∷◌, List, ℕ, codes, ap, sym, append_assoc, append-nil}
use Rattle.std.proofs.KnownBytes.{Appends-trans}
use Rattle.std.specs.List.{flat_map}
use Rattle.brc_lang.specs.declared.parameter.Parameter.{Parameter}
use Rattle.brc_lang.specs.Grammar.{spaced, heading, parameter_words, passing_name, kind_name}
use Rattle.brc_lang.proofs.Written.{stops_early, stops_between, stops_late, ends_whole}
use Rattle.brc_lang.proofs.writing.write_heading.Goals as goal

-- what is written of the parameters
abbrev pairs : List Parameter → List ℕ
pairs parameters = flat_map (λ p. 32 ∷ spaced (parameter_words (p ∷ []))) parameters

-- behind any word, the name or the kind before, the words of the parameters are each behind a space
behind : (word : List ℕ) (ps : List Parameter) → spaced (word ∷ parameter_words ps) ≡ word ++ pairs ps
behind word [] = sym (append-nil word)
behind word (p ∷ ps) =
    ap (λ l. word ++ 32 ∷ (passing_name p.passing ++ 32 ∷ l)) (behind (kind_name p.kind) ps)
    ∙ ap (λ l. word ++ 32 ∷ l) (sym (append_assoc (passing_name p.passing) (32 ∷ kind_name p.kind) (pairs ps)))

-- the line, parted behind the parameters
after_parameters : (name : List ℕ) (ps : List Parameter)
    → heading name ps ≡ ((codes "func " ++ name) ++ pairs ps) ++ codes "\n"
after_parameters name ps = ap (λ l. codes "func " ++ (l ++ codes "\n")) (behind name ps)

-- and behind the name
after_name : (name : List ℕ) (ps : List Parameter)
    → heading name ps ≡ (codes "func " ++ name) ++ (pairs ps ++ codes "\n")
after_name name ps =
    after_parameters name ps ∙ append_assoc (codes "func " ++ name) (pairs ps) (codes "\n")

pub returns-in_err-write_bytes-clause-begun : goal.returns-in_err-write_bytes-clause-begun
returns-in_err-write_bytes-clause-begun g c =
    stops_early _ _ _ _ (codes "func ") (c.args.name.now ++ (pairs c.args.parameters.now ++ codes "\n"))
    (after_name c.args.name.now c.args.parameters.now) c.in_err-write_bytes.ensures.begun

pub returns-in_err-write_bytes-2-clause-begun : goal.returns-in_err-write_bytes-2-clause-begun
returns-in_err-write_bytes-2-clause-begun g c =
    stops_between _ _ _ _ _ (codes "func ") c.args.name.now (pairs c.args.parameters.now ++ codes "\n")
    (after_name c.args.name.now c.args.parameters.now) c.in_ok-write_bytes.ensures.whole
    c.in_err-write_bytes-2.ensures.begun

pub returns-in_err-write_parameters-clause-begun : goal.returns-in_err-write_parameters-clause-begun
returns-in_err-write_parameters-clause-begun g c =
    let named =
    Appends-trans _ _ _ (codes "func ") c.args.name.now c.in_ok-write_bytes.ensures.whole
    c.in_ok-write_bytes-2.ensures.whole in
    stops_between _ _ _ _ _ (codes "func " ++ c.args.name.now) (pairs c.args.parameters.now) (codes "\n")
    (after_parameters c.args.name.now c.args.parameters.now) named c.in_err-write_parameters.ensures.begun

pub returns-clause-whole : goal.returns-clause-whole
returns-clause-whole g c =
    let named =
    Appends-trans _ _ _ (codes "func ") c.args.name.now c.in_ok-write_bytes.ensures.whole
    c.in_ok-write_bytes-2.ensures.whole in
    let front =
    Appends-trans _ _ _ (codes "func " ++ c.args.name.now) (pairs c.args.parameters.now) named
    c.in_ok-write_parameters.ensures.whole in
    ends_whole _ _ _ _ _ ((codes "func " ++ c.args.name.now) ++ pairs c.args.parameters.now) (codes "\n")
    (after_parameters c.args.name.now c.args.parameters.now) front c.write_bytes-3.ensures.whole

pub returns-clause-begun : goal.returns-clause-begun
returns-clause-begun g c =
    let named =
    Appends-trans _ _ _ (codes "func ") c.args.name.now c.in_ok-write_bytes.ensures.whole
    c.in_ok-write_bytes-2.ensures.whole in
    let front =
    Appends-trans _ _ _ (codes "func " ++ c.args.name.now) (pairs c.args.parameters.now) named
    c.in_ok-write_parameters.ensures.whole in
    stops_late _ _ _ _ _ ((codes "func " ++ c.args.name.now) ++ pairs c.args.parameters.now) (codes "\n")
    (after_parameters c.args.name.now c.args.parameters.now) front c.write_bytes-3.ensures.begun
