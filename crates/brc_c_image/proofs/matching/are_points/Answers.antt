use Rattle.std.proofs.Common.{◌≡◌, ℕ, true, arith, subst}
use Rattle.std.specs.Prelude.{slice_index_or}
use Rattle.std.proofs.lemmas.Option.{slice_get_within}
use Rattle.brc_c_outline.specs.declared.outline.Point.{Point as OutlinePoint}
use Rattle.brc_c_image.specs.GraphOutlines.{HoldsAs, label_of}
use Rattle.brc_c_image.proofs.Listed.{front_more}
use Rattle.brc_c_image.proofs.matching.are_points.Goals as goal

pub loop-number-preserved : goal.loop-number-preserved
loop-number-preserved c =
    let yes : c.in_ok-is_point.field-0 ≡ true = cc in
    let items = c.deref-point-items.ensures.value in
    let is : c.point-item.result
    ≡ slice_index_or c.args.outline.now.points.items c.loop-number.number c.point-item.result
    = cc in
    front_more
    (λ (u : ℕ) (point : OutlinePoint). HoldsAs c.args.rules c.args.graph.now c.args.found.now c.args.outline.now
    c.args.places.now c.args.is_whole u point (label_of c.args.labels.now u))
    c.args.outline.now.points.items c.loop-number.number c.point-item.result (omega arith) is
    c.loop-number.invariant
    (subst (HoldsAs c.args.rules c.args.graph.now c.args.found.now c.args.outline.now c.args.places.now c.args.is_whole
    c.loop-number.number c.point-item.result) c.number_at-label.ensures (c.in_ok-is_point.ensures yes))

pub returns : goal.returns
returns c so u point at =
    let within = slice_get_within c.args.outline.now.points.items u point at in
    c.loop-number.invariant u point (omega arith) at
