use Rattle.std.proofs.Common.{refl, subst}
use Rattle.brc_c_paths.specs.declared.point.Point.{Point}
use Rattle.brc_c_paths.specs.Paths.{GraphPoint, code_at}
use Rattle.brc_c_paths.specs.Closed.{graph_point, IsListedIf}
use Rattle.brc_c_paths.proofs.Listed.{front_all, front_more}
use Rattle.brc_c_paths.proofs.judging.are_listed.Goals as goal

pub loop-point-preserved : goal.loop-point-preserved
loop-point-preserved c =
    front_more
    (λ (point : Point). IsListedIf c.args.faults.now point.node
    (code_at c.args.rules c.args.graph.now (graph_point point)))
    c.args.points.now c.loop-point.point-index c.point-item.result c.loop-point-test.true c.point-item.is
    c.loop-point.invariant
    (subst (IsListedIf c.args.faults.now c.point-item.result.node) c.in_ok-code.ensures
    (c.if-not-is_listed_if.ensures refl))

pub returns : goal.returns
returns c so =
    front_all graph_point
    (λ (p : GraphPoint). IsListedIf c.args.faults.now p.node (code_at c.args.rules c.args.graph.now p))
    c.args.points.now c.loop-point.point-index c.loop-point-test.false c.loop-point.invariant
