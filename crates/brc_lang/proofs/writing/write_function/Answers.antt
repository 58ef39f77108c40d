use Rattle.std.proofs.Common.{◌≡◌, ◌++◌, List, ℕ, ap, sym, ◌∙◌, append_assoc, refl, codes}
use Rattle.std.proofs.KnownBytes.{Appends-trans}
use Rattle.brc_lang.specs.declared.module.Function.{Function}
use Rattle.brc_lang.specs.declared.module.Instr.{Instr}
use Rattle.brc_lang.specs.declared.parameter.Parameter.{Parameter}
use Rattle.brc_lang.specs.Grammar.{heading, instructions, function, line}
use Rattle.brc_lang.proofs.Written.{stops_early, stops_between, stops_late}
use Rattle.brc_lang.proofs.writing.write_function.Goals as goal

-- the heading, the instructions and `end`, of what the function's fields return
parts : (above : List Function) (f : Function) (name : List ℕ) (parameters : List Parameter) (code : List Instr)
    → name ≡ f.name → parameters ≡ f.parameters → code ≡ f.code
    → function above f ≡ heading name parameters ++ instructions above code ++ line (codes "end")
parts above f name parameters code named given coded =
    ap (λ n. heading n f.parameters ++ instructions above f.code ++ line (codes "end")) (sym named)
    ∙ ap (λ ps. heading name ps ++ instructions above f.code ++ line (codes "end")) (sym given)
    ∙ ap (λ is. heading name parameters ++ instructions above is ++ line (codes "end")) (sym coded)

pub returns-in_err-write_heading-clause-begun : goal.returns-in_err-write_heading-clause-begun
returns-in_err-write_heading-clause-begun g c =
    let above = c.args.above.now in
    let code = c.args.function.now.code in
    stops_early _ _ _ _ (heading c.as_bytes.result.now c.as_slice.result.now)
    (instructions above code ++ line (codes "end"))
    (parts _ _ _ _ code c.as_bytes.ensures.value c.as_slice.ensures refl
    ∙ append_assoc (heading c.as_bytes.result.now c.as_slice.result.now) (instructions above code) (line (codes "end")))
    c.in_err-write_heading.ensures.begun

pub returns-in_err-write_instructions-clause-begun : goal.returns-in_err-write_instructions-clause-begun
returns-in_err-write_instructions-clause-begun g c =
    stops_between _ _ _ _ _ (heading c.as_bytes.result.now c.as_slice.result.now)
    (instructions c.args.above.now c.as_slice-2.result.now) (line (codes "end"))
    (parts _ _ _ _ _ c.as_bytes.ensures.value c.as_slice.ensures c.as_slice-2.ensures)
    c.in_ok-write_heading.ensures.whole c.in_err-write_instructions.ensures.begun

pub returns-clause-begun : goal.returns-clause-begun
returns-clause-begun g c =
    let opened = heading c.as_bytes.result.now c.as_slice.result.now in
    let body = instructions c.args.above.now c.as_slice-2.result.now in
    let front =
    Appends-trans _ _ _ opened body c.in_ok-write_heading.ensures.whole c.in_ok-write_instructions.ensures.whole in
    stops_late _ _ _ _ _ (opened ++ body) (line (codes "end"))
    (parts _ _ _ _ _ c.as_bytes.ensures.value c.as_slice.ensures c.as_slice-2.ensures)
    front c.write_bytes.ensures.begun
