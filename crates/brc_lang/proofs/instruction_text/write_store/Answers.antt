use Rattle.std.proofs.Common.{◌≡◌, ◌++◌, ◌∙◌, [], ◌∷◌, List, ℕ, codes, decimal, sym, append_assoc}
use Rattle.std.proofs.KnownBytes.{Appends-trans}
use Rattle.brc_lang.specs.Grammar.{spaced, variable, target}
use Rattle.brc_lang.proofs.Written.{stops_early, stops_between, stops_late}
use Rattle.brc_lang.proofs.instruction_text.write_store.Goals as goal

abbrev operands : ℕ → ℕ → ℕ → ℕ → List ℕ
operands list index from otherwise =
    spaced (variable list ∷ decimal index ∷ variable from ∷ codes "else" ∷ target otherwise ∷ [])

-- what is written after the list, after the index, and last
abbrev number : ℕ → List ℕ
number index = codes " " ++ decimal index

abbrev source : ℕ → List ℕ
source from = codes " " ++ variable from

abbrev exit : ℕ → List ℕ
exit otherwise = codes " else @" ++ decimal otherwise

after_list : (before : List ℕ) (list index from otherwise : ℕ)
    → before ++ operands list index from otherwise
    ≡ (before ++ variable list) ++ (number index ++ (source from ++ exit otherwise))
after_list before list index from otherwise =
    sym (append_assoc before (variable list) (number index ++ (source from ++ exit otherwise)))

after_index : (before : List ℕ) (list index from otherwise : ℕ)
    → before ++ operands list index from otherwise
    ≡ ((before ++ variable list) ++ number index) ++ (source from ++ exit otherwise)
after_index before list index from otherwise =
    after_list before list index from otherwise
    ∙ sym (append_assoc (before ++ variable list) (number index) (source from ++ exit otherwise))

after_source : (before : List ℕ) (list index from otherwise : ℕ)
    → before ++ operands list index from otherwise
    ≡ (((before ++ variable list) ++ number index) ++ source from) ++ exit otherwise
after_source before list index from otherwise =
    after_index before list index from otherwise
    ∙ sym (append_assoc ((before ++ variable list) ++ number index) (source from) (exit otherwise))

pub returns-in_err-write_operand-clause-begun : goal.returns-in_err-write_operand-clause-begun
returns-in_err-write_operand-clause-begun g c =
    stops_early _ _ _ _ (c.args.before.now ++ variable c.args.list)
    (number c.args.index ++ (source c.args.from ++ exit c.args.otherwise))
    (after_list c.args.before.now c.args.list c.args.index c.args.from c.args.otherwise)
    c.in_err-write_operand.ensures.begun

pub returns-in_err-write_numeral-clause-begun : goal.returns-in_err-write_numeral-clause-begun
returns-in_err-write_numeral-clause-begun g c =
    stops_between _ _ _ _ _ (c.args.before.now ++ variable c.args.list) (number c.args.index)
    (source c.args.from ++ exit c.args.otherwise)
    (after_index c.args.before.now c.args.list c.args.index c.args.from c.args.otherwise)
    c.in_ok-write_operand.ensures.whole (rw c.from.ensures at c.in_err-write_numeral.ensures.begun)

pub returns-in_err-write_operand-2-clause-begun : goal.returns-in_err-write_operand-2-clause-begun
returns-in_err-write_operand-2-clause-begun g c =
    let front =
    Appends-trans _ _ _ (c.args.before.now ++ variable c.args.list) (number c.args.index)
    c.in_ok-write_operand.ensures.whole (rw c.from.ensures at c.in_ok-write_numeral.ensures.whole) in
    stops_between _ _ _ _ _ ((c.args.before.now ++ variable c.args.list) ++ number c.args.index) (source c.args.from)
    (exit c.args.otherwise)
    (after_source c.args.before.now c.args.list c.args.index c.args.from c.args.otherwise)
    front c.in_err-write_operand-2.ensures.begun

pub returns-clause-begun : goal.returns-clause-begun
returns-clause-begun g c =
    let item =
    Appends-trans _ _ _ (c.args.before.now ++ variable c.args.list) (number c.args.index)
    c.in_ok-write_operand.ensures.whole (rw c.from.ensures at c.in_ok-write_numeral.ensures.whole) in
    let front =
    Appends-trans _ _ _ ((c.args.before.now ++ variable c.args.list) ++ number c.args.index) (source c.args.from)
    item c.in_ok-write_operand-2.ensures.whole in
    stops_late _ _ _ _ _ (((c.args.before.now ++ variable c.args.list) ++ number c.args.index) ++ source c.args.from)
    (exit c.args.otherwise)
    (after_source c.args.before.now c.args.list c.args.index c.args.from c.args.otherwise)
    front (rw c.from-2.ensures at c.write_numeral-2.ensures.begun)
