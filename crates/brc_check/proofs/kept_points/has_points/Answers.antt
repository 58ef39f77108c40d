use Rattle.std.proofs.Common.{ℕ, ◌+◌, arith, sym, ap, ◌∙◌, subst}
use Rattle.brc_check.specs.Tables.{point_of}
use Rattle.brc_check.proofs.Marks.{IsLeft, left_first, left_short, left_other, left_skip, left_take, left_last}
use Rattle.brc_check.proofs.kept_points.has_points.Goals as goal
use Rattle.brc_check.proofs.kept_points.has_points.Goals.{then-number-kept-via-then-number-kept}
use Rattle.brc_check.proofs.kept_points.has_points.Goals.{then-number-kept-via-else-number-kept+then-kept-number}
use Rattle.brc_check.proofs.kept_points.has_points.Goals.{then-marks-at+else-number-kept+else-kept-number}
use Rattle.brc_check.proofs.kept_points.has_points.Goals.{else-marks-at}

pub loop-at-init : goal.loop-at-init
loop-at-init c = left_first c.args.code.now c.args.kept.now

pub returns-then-number-kept : goal.returns-then-number-kept
returns-then-number-kept c =
    let lt = c.loop-at-test.true in
    let at = c.loop-at.at in
    let most = c.requires in
    let here = sym (c.marks_of-marks.ensures at (omega (arith, lt, most))) ∙ c.if-marks-at.true in
    elim c.then-number-kept.branch [
      | then-number-kept-via-then-number-kept w ↦ (
        λ f. absurd cc,
        λ h. absurd (left_short c.args.code.now c.args.kept.now c.loop-at.number at c.loop-at.invariant lt here
            w.if-number-kept.true h),
      )
      | then-number-kept-via-else-number-kept+then-kept-number w ↦ (
        λ f. absurd cc,
        λ h. absurd (left_other c.args.code.now c.args.kept.now c.loop-at.number at w.index-kept-number.result
            c.loop-at.invariant lt here w.if-number-kept.false w.index-kept-number.is
            (λ same. w.if-kept-number.true (sym (ap point_of w.index-kept-number.is) ∙ same)) h),
      )
    ]

pub loop-at-preserved : goal.loop-at-preserved
loop-at-preserved c =
    let code = c.args.code.now in
    let kept = c.args.kept.now in
    let lt = c.loop-at-test.true in
    let at = c.loop-at.at in
    let most = c.requires in
    let marked = c.marks_of-marks.ensures at (omega (arith, lt, most)) in
    elim c.if-marks-at.branch [
      | then-marks-at+else-number-kept+else-kept-number w ↦
          subst (λ (n : ℕ). IsLeft code kept n (at + 1)) (sym w.number-is)
          (left_take code kept c.loop-at.number at w.index-kept-number.result c.loop-at.invariant lt
          (sym marked ∙ w.if-marks-at.true) w.if-number-kept.false w.index-kept-number.is
          (ap point_of w.index-kept-number.is ∙ w.if-kept-number.false))
      | else-marks-at w ↦
          subst (λ (n : ℕ). IsLeft code kept n (at + 1)) (sym w.number-is)
          (left_skip code kept c.loop-at.number at c.loop-at.invariant lt (sym marked ∙ w.if-marks-at.false))
    ]

pub returns : goal.returns
returns c =
    left_last c.args.code.now c.args.kept.now c.loop-at.number c.loop-at.at c.loop-at.invariant (omega arith)
