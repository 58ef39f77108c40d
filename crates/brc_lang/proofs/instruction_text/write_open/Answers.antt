use Rattle.std.proofs.Common.{◌≡◌, ◌++◌, ◌∙◌, [], List, ℕ, codes, decimal, refl, sym, append_assoc}
use Rattle.std.proofs.KnownBytes.{Appends-trans}
use Rattle.brc_lang.specs.declared.mode.Mode.{Mode}
use Rattle.brc_lang.specs.declared.module.Instr.TheVariants.{Open}
use Rattle.brc_lang.specs.Grammar.{variable, instruction}
use Rattle.brc_lang.specs.Modes.{mode_name}
use Rattle.brc_lang.proofs.Written.{stops_early, stops_between, stops_late}
use Rattle.brc_lang.proofs.instruction_text.write_open.Goals as goal

-- what is written first, after the variable, after the path, and last
abbrev opened : ℕ → List ℕ
opened to = codes "open " ++ variable to

abbrev place : ℕ → List ℕ
place path = codes " " ++ decimal path

abbrev word : Mode → List ℕ
word mode = codes " " ++ mode_name mode

abbrev exit : ℕ → List ℕ
exit otherwise = codes " else @" ++ decimal otherwise

after_path : (to path : ℕ) (mode : Mode) (otherwise : ℕ)
    → instruction [] (Open to path mode otherwise) ≡ (opened to ++ place path) ++ (word mode ++ exit otherwise)
after_path to path mode otherwise = sym (append_assoc (opened to) (place path) (word mode ++ exit otherwise))

after_mode : (to path : ℕ) (mode : Mode) (otherwise : ℕ)
    → instruction [] (Open to path mode otherwise) ≡ ((opened to ++ place path) ++ word mode) ++ exit otherwise
after_mode to path mode otherwise =
    after_path to path mode otherwise
    ∙ sym (append_assoc (opened to ++ place path) (word mode) (exit otherwise))

pub returns-in_err-write_operand-clause-begun : goal.returns-in_err-write_operand-clause-begun
returns-in_err-write_operand-clause-begun g c =
    stops_early _ _ _ _ (opened c.args.to) (place c.args.path ++ (word c.args.mode ++ exit c.args.otherwise)) refl
    c.in_err-write_operand.ensures.begun

pub returns-in_err-write_numeral-clause-begun : goal.returns-in_err-write_numeral-clause-begun
returns-in_err-write_numeral-clause-begun g c =
    stops_between _ _ _ _ _ (opened c.args.to) (place c.args.path) (word c.args.mode ++ exit c.args.otherwise)
    (after_path c.args.to c.args.path c.args.mode c.args.otherwise)
    c.in_ok-write_operand.ensures.whole (rw c.from.ensures at c.in_err-write_numeral.ensures.begun)

pub returns-in_err-write_word-clause-begun : goal.returns-in_err-write_word-clause-begun
returns-in_err-write_word-clause-begun g c =
    let front =
    Appends-trans _ _ _ (opened c.args.to) (place c.args.path) c.in_ok-write_operand.ensures.whole
    (rw c.from.ensures at c.in_ok-write_numeral.ensures.whole) in
    stops_between _ _ _ _ _ (opened c.args.to ++ place c.args.path) (word c.args.mode) (exit c.args.otherwise)
    (after_mode c.args.to c.args.path c.args.mode c.args.otherwise)
    front (rw c.name.ensures at c.in_err-write_word.ensures.begun)

pub returns-clause-begun : goal.returns-clause-begun
returns-clause-begun g c =
    let place_part =
    Appends-trans _ _ _ (opened c.args.to) (place c.args.path) c.in_ok-write_operand.ensures.whole
    (rw c.from.ensures at c.in_ok-write_numeral.ensures.whole) in
    let front =
    Appends-trans _ _ _ (opened c.args.to ++ place c.args.path) (word c.args.mode) place_part
    (rw c.name.ensures at c.in_ok-write_word.ensures.whole) in
    stops_late _ _ _ _ _ ((opened c.args.to ++ place c.args.path) ++ word c.args.mode) (exit c.args.otherwise)
    (after_mode c.args.to c.args.path c.args.mode c.args.otherwise)
    front (rw c.from-2.ensures at c.write_numeral-2.ensures.begun)
