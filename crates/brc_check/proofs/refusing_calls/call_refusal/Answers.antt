use Rattle.std.proofs.Common.{Bool, true, false, refl, ap, ◌∙◌}
use Rattle.std.specs.Prelude.{is_some}
use Rattle.std.specs.Bool.{then_some}
use Rattle.brc_lang.specs.declared.check_code.CheckCode.TheVariants.{SecondLock}
use Rattle.brc_model.specs.SlotStates.{is_owned}
use Rattle.brc_check.proofs.Calls.{lowest_by, locked_alone, not_owned}
use Rattle.brc_check.proofs.refusing_calls.call_refusal.Goals as goal
use Rattle.brc_check.proofs.refusing_calls.call_refusal.Goals.{then-not-are_given_once-via-then-not-are_given_once}
use Rattle.brc_check.proofs.refusing_calls.call_refusal.Goals.{then-not-are_given_once-via-else-not-are_given_once+then-has_empty}

pub returns-then-not-are_given_once : goal.returns-then-not-are_given_once
returns-then-not-are_given_once c =
    let s = c.args.state.now in
    let arguments = c.args.arguments.now in
    elim c.then-not-are_given_once.branch [
      | then-not-are_given_once-via-then-not-are_given_once w ↦
          lowest_by s c.args.to arguments false _ _ _ _ w.if-not-are_given_once.ensures refl refl refl refl
      | then-not-are_given_once-via-else-not-are_given_once+then-has_empty w ↦
          lowest_by s c.args.to arguments true true _ _ _ w.if-not-are_given_once.ensures w.if-has_empty.ensures refl
          refl refl
    ]

pub returns-then-has_other_kinds : goal.returns-then-has_other_kinds
returns-then-has_other_kinds c =
    lowest_by c.args.state.now c.args.to c.args.arguments.now true false true _ _ c.if-not-are_given_once.ensures
    c.if-has_empty.ensures c.if-has_other_kinds.ensures refl refl

pub returns-then-has_stolen_unowned : goal.returns-then-has_stolen_unowned
returns-then-has_stolen_unowned c =
    lowest_by c.args.state.now c.args.to c.args.arguments.now true false false true _ c.if-not-are_given_once.ensures
    c.if-has_empty.ensures c.if-has_other_kinds.ensures c.if-has_stolen_unowned.ensures refl

pub returns-in-Owned : goal.returns-in-Owned
returns-in-Owned c =
    lowest_by c.args.state.now c.args.to c.args.arguments.now true false false false true
    c.if-not-are_given_once.ensures c.if-has_empty.ensures c.if-has_other_kinds.ensures
    c.if-has_stolen_unowned.ensures (ap is_owned c.in-Owned.ensures)

pub returns : goal.returns
returns c =
    c.then_some.ensures
    ∙ ap (λ (b : Bool). then_some b SecondLock) c.is_some.ensures
    ∙ locked_alone (is_some c.args.state.now.locked)
    ∙ lowest_by c.args.state.now c.args.to c.args.arguments.now true false false false false
    c.if-not-are_given_once.ensures c.if-has_empty.ensures c.if-has_other_kinds.ensures
    c.if-has_stolen_unowned.ensures
    (not_owned c.var.result c.in_default.not-Owned ∙ ap is_owned c.var.ensures)
