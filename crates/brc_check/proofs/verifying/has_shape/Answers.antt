use Rattle.std.proofs.Common.{◌∙◌, sym, refl}
use Rattle.brc_check.proofs.Comparing.{HasPoints, each_more, points_from, points_to, same_points, shape_all}
use Rattle.brc_check.proofs.verifying.has_shape.Goals as goal

pub returns-then-not-has_points : goal.returns-then-not-has_points
returns-then-not-has_points c = (
  λ f. absurd cc,
  λ shape.
      let same =
      same_points c.args.functions.now c.args.lists.now c.loop-number.number c.index-functions-number.result
      c.index-lists-number.result shape c.loop-number-test.true c.index-functions-number.is
      c.index-lists-number.is in
      sym c.if-not-has_points.true
      ∙ c.has_points.ensures.1 (points_to c.index-functions-number.result c.index-lists-number.result
      c.as_slice-in-loop-number.result.now c.as_slice.result.now c.as_slice.ensures c.as_slice-in-loop-number.ensures
      same),
)

pub loop-number-preserved : goal.loop-number-preserved
loop-number-preserved c =
    each_more HasPoints c.args.functions.now c.args.lists.now c.loop-number.number c.index-functions-number.result
    c.index-lists-number.result c.if-lists-functions.false c.loop-number-test.true
    c.index-functions-number.is c.index-lists-number.is c.loop-number.invariant
    (points_from c.index-functions-number.result c.index-lists-number.result c.as_slice-in-loop-number.result.now
    c.as_slice.result.now c.as_slice.ensures c.as_slice-in-loop-number.ensures
    (c.has_points.ensures.0 c.if-not-has_points.false))

pub returns : goal.returns
returns c = (
  λ t. shape_all c.args.functions.now c.args.lists.now c.loop-number.number c.if-lists-functions.false
      c.loop-number-test.false c.loop-number.invariant,
  λ shape. refl,
)
