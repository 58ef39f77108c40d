use Rattle.std.proofs.Common.{◌≡◌, ◌∙◌, sym}
use Rattle.std.specs.Prelude.{None}
use Rattle.brc_c_paths.specs.declared.point.Point.{Point}
use Rattle.brc_c_paths.specs.Paths.{GraphPoint, code_at}
use Rattle.brc_c_paths.specs.Closed.{graph_point}
use Rattle.brc_c_paths.proofs.Listed.{front_all, front_more, none_so}
use Rattle.brc_c_paths.proofs.judging.break_none.Goals as goal

pub loop-point-preserved : goal.loop-point-preserved
loop-point-preserved c =
    front_more (λ (point : Point). code_at c.args.rules c.args.graph.now (graph_point point) ≡ None)
    c.args.points.now c.loop-point.point-index c.point-item.result c.loop-point-test.true c.point-item.is
    c.loop-point.invariant
    (sym c.in_ok-code_of.ensures
    ∙ none_so c.in_ok-code_of.field-0 (sym c.is_some.ensures ∙ c.if-is_some.false))

pub returns : goal.returns
returns c so =
    front_all graph_point (λ (p : GraphPoint). code_at c.args.rules c.args.graph.now p ≡ None)
    c.args.points.now c.loop-point.point-index c.loop-point-test.false c.loop-point.invariant
