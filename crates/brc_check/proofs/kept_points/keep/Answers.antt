use Rattle.std.proofs.Common.{◌++◌, [], ◌∷◌, Option, arith, sym, ap, ◌∙◌}
use Rattle.brc_model.specs.declared.state.State.{State}
use Rattle.brc_check.proofs.Marks.{picked_one, picked_none}
use Rattle.brc_check.proofs.kept_points.keep.Goals as goal
use Rattle.brc_check.proofs.kept_points.keep.Goals.{then-marks-at+in_ok-push, else-marks-at}

pub loop-at-preserved : goal.loop-at-preserved
loop-at-preserved c =
    let code = c.args.code.now in
    let entries = c.args.entries.now in
    let lt = c.loop-at-test.true in
    let at = c.loop-at.at in
    let most = c.requires in
    let marked = c.marks_of-marks.ensures at (omega (arith, lt, most)) in
    elim c.if-marks-at.branch [
      | then-marks-at+in_ok-push w ↦
          picked_one code entries at c.loop-at.kept c.if-marks-at.kept c.loop-at.invariant
          (sym marked ∙ w.if-marks-at.true)
          (w.kept-is ∙ w.in_ok-push.ensures.ok
          ∙ ap (λ (s : Option State). c.loop-at.kept ++ record { at = at; state = s } ∷ []) w.entry_at.ensures)
      | else-marks-at w ↦
          w.kept-is
          ∙ picked_none code entries at c.loop-at.kept c.loop-at.invariant (sym marked ∙ w.if-marks-at.false)
    ]
