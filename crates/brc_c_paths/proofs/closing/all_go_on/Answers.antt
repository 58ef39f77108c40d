use Rattle.std.proofs.Common.{◌≡◌, true}
use Rattle.brc_c_store.specs.Registers.{has_none}
use Rattle.brc_c_paths.specs.declared.point.Point.{Point}
use Rattle.brc_c_paths.specs.Closed.{graph_points, GoesOn}
use Rattle.brc_c_paths.proofs.Listed.{front_whole, front_more}
use Rattle.brc_c_paths.proofs.closing.all_go_on.Goals as goal

pub loop-point-preserved : goal.loop-point-preserved
loop-point-preserved c =
    let yes : c.in_ok-goes_on.field-0 ≡ true = cc in
    front_more
    (λ (point : Point). GoesOn c.args.rules c.args.graph.now c.args.live.now (graph_points c.args.points.now)
    c.args.exceeds point (has_none point.store.stale))
    c.args.points.now c.loop-point.point-index c.point-item.result c.loop-point-test.true c.point-item.is
    c.loop-point.invariant (c.in_ok-goes_on.ensures yes)

pub returns : goal.returns
returns c so =
    front_whole
    (λ (point : Point). GoesOn c.args.rules c.args.graph.now c.args.live.now (graph_points c.args.points.now)
    c.args.exceeds point (has_none point.store.stale))
    c.args.points.now c.loop-point.point-index c.loop-point-test.false c.loop-point.invariant
