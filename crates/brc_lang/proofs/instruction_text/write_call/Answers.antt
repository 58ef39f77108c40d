use Rattle.std.proofs.Common.{◌≡◌, ◌++◌, ◌∙◌, [], ◌∷◌, List, ℕ, codes, decimal, ap, sym, refl, append_assoc}
use Rattle.std.proofs.KnownBytes.{Appends-trans}
use Rattle.std.specs.List.{flat_map}
use Rattle.brc_lang.specs.declared.parameter.Argument.{Argument}
use Rattle.brc_lang.specs.Grammar.{spaced, variable, argument_words}
use Rattle.brc_lang.proofs.Written.{stops_early, stops_between, stops_late, ends_whole}
use Rattle.brc_lang.proofs.instruction_text.write_call.Goals as goal

-- what is written before the name, behind it, and last
abbrev opened : ℕ → List ℕ
opened to = (codes "call " ++ variable to) ++ codes " "

abbrev sources : List Argument → List ℕ
sources arguments = flat_map (λ a. 32 ∷ variable a.from) arguments

abbrev exit : ℕ → List ℕ
exit otherwise = codes " else @" ++ decimal otherwise

abbrev call : ℕ → List ℕ → List Argument → ℕ → List ℕ
call to name arguments otherwise =
    spaced (codes "call" ∷ variable to ∷ name ∷ argument_words arguments otherwise)

-- behind any word, the name or the variable before, the variables of the arguments are each behind a space
behind : (word : List ℕ) (arguments : List Argument) (otherwise : ℕ)
    → spaced (word ∷ argument_words arguments otherwise) ≡ word ++ (sources arguments ++ exit otherwise)
behind word [] otherwise = refl
behind word (a ∷ others) otherwise =
    ap (λ l. word ++ 32 ∷ l) (behind (variable a.from) others otherwise)
    ∙ ap (λ l. word ++ 32 ∷ l) (sym (append_assoc (variable a.from) (sources others) (exit otherwise)))

-- the call, parted before the name
after_space : (to : ℕ) (name : List ℕ) (arguments : List Argument) (otherwise : ℕ)
    → call to name arguments otherwise ≡ opened to ++ (name ++ (sources arguments ++ exit otherwise))
after_space to name arguments otherwise =
    ap (λ l. (codes "call " ++ variable to) ++ (codes " " ++ l)) (behind name arguments otherwise)
    ∙ sym (append_assoc (codes "call " ++ variable to) (codes " ") (name ++ (sources arguments ++ exit otherwise)))

-- behind the name
after_name : (to : ℕ) (name : List ℕ) (arguments : List Argument) (otherwise : ℕ)
    → call to name arguments otherwise ≡ (opened to ++ name) ++ (sources arguments ++ exit otherwise)
after_name to name arguments otherwise =
    after_space to name arguments otherwise
    ∙ sym (append_assoc (opened to) name (sources arguments ++ exit otherwise))

-- and behind the arguments
after_arguments : (to : ℕ) (name : List ℕ) (arguments : List Argument) (otherwise : ℕ)
    → call to name arguments otherwise ≡ ((opened to ++ name) ++ sources arguments) ++ exit otherwise
after_arguments to name arguments otherwise =
    after_name to name arguments otherwise
    ∙ sym (append_assoc (opened to ++ name) (sources arguments) (exit otherwise))

pub returns-in_err-write_operand-clause-begun : goal.returns-in_err-write_operand-clause-begun
returns-in_err-write_operand-clause-begun g c =
    stops_early _ _ _ _ (codes "call " ++ variable c.args.to)
    (codes " " ++ spaced (c.args.name.now ∷ argument_words c.args.arguments.now c.args.otherwise)) refl
    c.in_err-write_operand.ensures.begun

pub returns-in_err-write_bytes-clause-begun : goal.returns-in_err-write_bytes-clause-begun
returns-in_err-write_bytes-clause-begun g c =
    stops_between _ _ _ _ _ (codes "call " ++ variable c.args.to) (codes " ")
    (c.args.name.now ++ (sources c.args.arguments.now ++ exit c.args.otherwise))
    (after_space c.args.to c.args.name.now c.args.arguments.now c.args.otherwise)
    c.in_ok-write_operand.ensures.whole c.in_err-write_bytes.ensures.begun

pub returns-in_err-write_bytes-2-clause-begun : goal.returns-in_err-write_bytes-2-clause-begun
returns-in_err-write_bytes-2-clause-begun g c =
    let front =
    Appends-trans _ _ _ (codes "call " ++ variable c.args.to) (codes " ") c.in_ok-write_operand.ensures.whole
    c.in_ok-write_bytes.ensures.whole in
    stops_between _ _ _ _ _ (opened c.args.to) c.args.name.now
    (sources c.args.arguments.now ++ exit c.args.otherwise)
    (after_name c.args.to c.args.name.now c.args.arguments.now c.args.otherwise)
    front c.in_err-write_bytes-2.ensures.begun

pub returns-in_err-write_arguments-clause-begun : goal.returns-in_err-write_arguments-clause-begun
returns-in_err-write_arguments-clause-begun g c =
    let front =
    Appends-trans _ _ _ (codes "call " ++ variable c.args.to) (codes " ") c.in_ok-write_operand.ensures.whole
    c.in_ok-write_bytes.ensures.whole in
    let named =
    Appends-trans _ _ _ (opened c.args.to) c.args.name.now front c.in_ok-write_bytes-2.ensures.whole in
    stops_between _ _ _ _ _ (opened c.args.to ++ c.args.name.now) (sources c.args.arguments.now)
    (exit c.args.otherwise) (after_arguments c.args.to c.args.name.now c.args.arguments.now c.args.otherwise)
    named c.in_err-write_arguments.ensures.begun

pub returns-clause-whole : goal.returns-clause-whole
returns-clause-whole g c =
    let front =
    Appends-trans _ _ _ (codes "call " ++ variable c.args.to) (codes " ") c.in_ok-write_operand.ensures.whole
    c.in_ok-write_bytes.ensures.whole in
    let named =
    Appends-trans _ _ _ (opened c.args.to) c.args.name.now front c.in_ok-write_bytes-2.ensures.whole in
    let given =
    Appends-trans _ _ _ (opened c.args.to ++ c.args.name.now) (sources c.args.arguments.now) named
    c.in_ok-write_arguments.ensures.whole in
    ends_whole _ _ _ _ _ ((opened c.args.to ++ c.args.name.now) ++ sources c.args.arguments.now)
    (exit c.args.otherwise) (after_arguments c.args.to c.args.name.now c.args.arguments.now c.args.otherwise)
    given (rw c.from.ensures at c.write_numeral.ensures.whole)

pub returns-clause-begun : goal.returns-clause-begun
returns-clause-begun g c =
    let front =
    Appends-trans _ _ _ (codes "call " ++ variable c.args.to) (codes " ") c.in_ok-write_operand.ensures.whole
    c.in_ok-write_bytes.ensures.whole in
    let named =
    Appends-trans _ _ _ (opened c.args.to) c.args.name.now front c.in_ok-write_bytes-2.ensures.whole in
    let given =
    Appends-trans _ _ _ (opened c.args.to ++ c.args.name.now) (sources c.args.arguments.now) named
    c.in_ok-write_arguments.ensures.whole in
    stops_late _ _ _ _ _ ((opened c.args.to ++ c.args.name.now) ++ sources c.args.arguments.now)
    (exit c.args.otherwise) (after_arguments c.args.to c.args.name.now c.args.arguments.now c.args.otherwise)
    given (rw c.from.ensures at c.write_numeral.ensures.begun)
