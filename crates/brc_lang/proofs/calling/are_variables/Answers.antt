use Rattle.std.proofs.Common.{rules, List, ℕ, Bor, sym, ◌∙◌}
use Rattle.brc_lang.proofs.ArgumentLists.{first_fault, one_variable_more}
use Rattle.brc_lang.proofs.calling.are_variables.Goals as goal

pub returns-in_err-variable : goal.returns-in_err-variable
returns-in_err-variable c =
    let fault =
    first_fault (λ (w : Bor (List ℕ)). w.now) c.args.words.now c.loop-word.word-index _ c.in_err-variable.field-0.0
    c.loop-word-test.true c.loop-word.invariant (sym c.variable.ensures ∙ c.in_err-variable.was) in
    search (rules, fault)

pub loop-word-preserved : goal.loop-word-preserved
loop-word-preserved c =
    one_variable_more (λ (w : Bor (List ℕ)). w.now) c.args.words.now c.loop-word.word-index _ c.in_ok-variable.field-0
    c.loop-word-test.true c.loop-word.invariant (sym c.variable.ensures ∙ c.in_ok-variable.was)
