use Rattle.std.proofs.Common.{◌+◌, List, ℕ, Bor, map, subst, sym, ◌∙◌}
use Rattle.brc_lang.proofs.ArgumentLists.{ArgumentsSoFar, next_argument, no_fault, all_arguments}
use Rattle.brc_lang.proofs.calling.arguments.Goals.{in-Ok, in_default}
use Rattle.brc_lang.proofs.calling.arguments.Goals as goal

pub loop-number-preserved : goal.loop-number-preserved
loop-number-preserved c =
    let so_far =
    ArgumentsSoFar c.args.parameters.now (map (λ (w : Bor (List ℕ)). w.now) c.args.words.now)
    (c.loop-number.number + 1) in
    elim c.match-variable.branch [
      | in-Ok w ↦ subst so_far (sym (w.arguments-is ∙ w.push.ensures))
          (next_argument (λ (w : Bor (List ℕ)). w.now) c.args.parameters.now c.args.words.now c.loop-number.number
          w.in-Ok.from _ _ c.loop-number.arguments c.requires.same c.loop-number-test.true
          (sym c.variable.ensures ∙ w.in-Ok.is) c.loop-number.invariant)
      | in_default w ↦ absurd (no_fault (λ (w : Bor (List ℕ)). w.now) c.args.words.now c.loop-number.number _
          w.in_default.field-0 c.requires.variables c.loop-number-test.true
          (sym c.variable.ensures ∙ w.in_default.is))
    ]

pub returns : goal.returns
returns c =
    all_arguments (λ (w : Bor (List ℕ)). w.now) c.args.parameters.now c.args.words.now c.loop-number.number
    c.loop-number.arguments c.requires.same c.loop-number-test.false c.loop-number.invariant
