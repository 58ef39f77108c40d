use Rattle.std.proofs.Common.{subst, sym, ◌∙◌}
use Rattle.std.specs.List.{AllByRecursion}
use Rattle.brc_command.specs.Findings.{IsOther}
use Rattle.brc_command.proofs.Others.{all_more}
use Rattle.brc_command.proofs.finding.others_of.Goals.{in-Some+in_ok-push, in_default}
use Rattle.brc_command.proofs.finding.others_of.Goals as goal

pub loop-number-preserved : goal.loop-number-preserved
loop-number-preserved c =
    let m = c.args.module.now in
    elim c.match-found.branch [
      | in-Some+in_ok-push w ↦
          subst (AllByRecursion (IsOther m)) (sym (w.others-is ∙ w.in_ok-push.ensures.ok))
          (all_more (IsOther m) c.loop-number.others w.in-Some.other c.loop-number.invariant
          (rw w.in-Some.is at c.in_ok-found.ensures))
      | in_default w ↦ subst (AllByRecursion (IsOther m)) (sym w.others-is) c.loop-number.invariant
    ]
