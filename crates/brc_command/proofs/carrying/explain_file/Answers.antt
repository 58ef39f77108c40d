use Rattle.std.proofs.Common.{List, ℕ, Bor, Option, option_map, subst, sym, ◌∙◌, rules}
use Rattle.brc_command.specs.declared.step_fault.StepFault.{StepFault}
use Rattle.brc_command.specs.Explanations.{IsExplained}
use Rattle.brc_command.specs.Loading.{ReadsAsModule}
use Rattle.brc_command.proofs.GivenTexts.{explained_fault}
use Rattle.brc_command.proofs.WholeExplanations.{explains, leaves_fault}
use Rattle.brc_command.proofs.carrying.explain_file.Goals as goal

pub returns-then-is_err-clause-left : goal.returns-then-is_err-clause-left
returns-then-is_err-clause-left g c =
    let only = option_map (λ (name : Bor (List ℕ)). name.now) c.args.function in
    let gives = g.L.Load.may_give c.args.load.now in
    let says = g.X.Explain.says c.args.explainer.now c.args.paint in (
      c.in-Ok.field-0.fault,
      (
        c.in-Ok.field-0.text.items,
        explains says gives c.args.file.now c.as_slice.result.now only
            (subst (ReadsAsModule gives c.args.file.now) (sym c.as_slice.ensures.value) c.in_ok-bytes.ensures.loaded)
            c.in-Ok.field-0.fault c.in-Ok.field-0.text.items c.in-Ok.ensures.explained,
        search rules,
      ),
    )

pub returns-in-Some-clause-stopped : goal.returns-in-Some-clause-stopped
returns-in-Some-clause-stopped g c =
    let only = option_map (λ (name : Bor (List ℕ)). name.now) c.args.function in
    let gives = g.L.Load.may_give c.args.load.now in
    let told = c.in-Ok.ensures.explained in
    explained_fault gives (g.L.Load.may_lack c.args.load.now) c.args.file.now c.as_slice.result.now
    (subst (ReadsAsModule gives c.args.file.now) (sym c.as_slice.ensures.value) c.in_ok-bytes.ensures.loaded)
    only told.subject c.in-Some.fault told.about (sym c.in-Some.is ∙ told.ends)

pub returns-in-Some-clause-left : goal.returns-in-Some-clause-left
returns-in-Some-clause-left g c =
    let only = option_map (λ (name : Bor (List ℕ)). name.now) c.args.function in
    let gives = g.L.Load.may_give c.args.load.now in
    let says = g.X.Explain.says c.args.explainer.now c.args.paint in
    leaves_fault says gives c.args.file.now c.as_slice.result.now only
    (subst (ReadsAsModule gives c.args.file.now) (sym c.as_slice.ensures.value) c.in_ok-bytes.ensures.loaded)
    c.in-Some.fault c.in-Ok.field-0.text.items _ _
    (subst (λ (f : Option StepFault). IsExplained says c.as_slice.result.now only f c.in-Ok.field-0.text.items)
    c.in-Some.is
    c.in-Ok.ensures.explained) (search rules)
