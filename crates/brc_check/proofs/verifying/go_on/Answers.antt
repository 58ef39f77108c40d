use Rattle.std.proofs.Common.{◌≡◌, Bool, sym, ap, ◌∙◌, subst, cond}
use Rattle.std.specs.Prelude.{None, Some}
use Rattle.brc_model.specs.declared.state.Exit.TheVariants.{Success, Fault}
use Rattle.brc_model.specs.Paths.{At, follow}
use Rattle.brc_check.specs.Lookups.{MeetsKept}
use Rattle.brc_check.specs.Tables.{state_at}
use Rattle.brc_check.proofs.Comparing.{exit_error, point_closed, some_on}
use Rattle.brc_check.proofs.Kept.{one_exit}
use Rattle.brc_check.proofs.verifying.go_on.Goals as goal
use Rattle.brc_check.proofs.verifying.go_on.Goals.{then-has_two_exits+in_default-fault_error, else-has_two_exits}

pub returns-in-Some-fault_error : goal.returns-in-Some-fault_error
returns-in-Some-fault_error c =
    exit_error c.args.function.now c.args.kept.now c.args.at c.in-Some.state Fault c.in-Some-fault_error.reported.at
    c.in-Some-fault_error.reported.code c.requires.points
    (sym c.requires.here ∙ sym c.enter.ensures ∙ c.in-Some.is)
    (rw c.as_slice-code.ensures at c.in-Some-fault_error.ensures)

pub returns-in-Err : goal.returns-in-Err
returns-in-Err c =
    exit_error c.args.function.now c.args.kept.now c.args.at c.in-Some.state Success c.in-Err.reported.at
    c.in-Err.reported.code c.requires.points
    (sym c.requires.here ∙ sym c.enter.ensures ∙ c.in-Some.is) (rw c.as_slice-code.ensures at c.in-Err.ensures)

pub returns-then-not-on : goal.returns-then-not-on
returns-then-not-on c =
    let code = c.args.function.now.code in
    let kept = c.args.kept.now in
    let at = c.args.at in
    let s = c.in-Some.state in
    let here : state_at code kept at ≡ Some s = sym c.requires.here ∙ sym c.enter.ensures ∙ c.in-Some.is in
    let on_success : MeetsKept kept (follow code (At at s) Success) =
    rw c.as_slice-code.ensures at c.in-Ok.ensures.0 in (
      some_on code kept at s None here
          (rw c.as_slice-code.ensures at c.in-Ok.ensures.1
          ∙ ap (λ (b : Bool). cond b (Some c.pass_on.new.state) None) c.if-not-on.true),
      point_closed code kept at s c.requires.points here on_success
          (elim c.if-has_two_exits.branch [
            | then-has_two_exits+in_default-fault_error w ↦
                rw c.as_slice-code.ensures at w.in_default-fault_error.ensures
            | else-has_two_exits w ↦
                subst (MeetsKept kept) (sym (one_exit code at c.index-code-at.result s c.requires.within
                (rw c.as_slice-code.ensures at c.index-code-at.is) (c.has_two_exits.ensures w.if-has_two_exits.false)))
                on_success
          ]),
    )

pub returns-else-not-on : goal.returns-else-not-on
returns-else-not-on c =
    let code = c.args.function.now.code in
    let kept = c.args.kept.now in
    let at = c.args.at in
    let s = c.in-Some.state in
    let here : state_at code kept at ≡ Some s = sym c.requires.here ∙ sym c.enter.ensures ∙ c.in-Some.is in
    let on_success : MeetsKept kept (follow code (At at s) Success) =
    rw c.as_slice-code.ensures at c.in-Ok.ensures.0 in (
      some_on code kept at s (Some c.pass_on.new.state) here
          (rw c.as_slice-code.ensures at c.in-Ok.ensures.1
          ∙ ap (λ (b : Bool). cond b (Some c.pass_on.new.state) None) c.if-not-on.false),
      point_closed code kept at s c.requires.points here on_success
          (elim c.if-has_two_exits.branch [
            | then-has_two_exits+in_default-fault_error w ↦
                rw c.as_slice-code.ensures at w.in_default-fault_error.ensures
            | else-has_two_exits w ↦
                subst (MeetsKept kept) (sym (one_exit code at c.index-code-at.result s c.requires.within
                (rw c.as_slice-code.ensures at c.index-code-at.is) (c.has_two_exits.ensures w.if-has_two_exits.false)))
                on_success
          ]),
    )
