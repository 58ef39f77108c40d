use Rattle.std.proofs.Common.{◌≡◌, true, false}
use Rattle.std.proofs.lemmas.Result.{IfOk-weaker}
use Rattle.brc_c_paths.specs.Closed.{graph_points}
use Rattle.brc_c_paths.proofs.PathEnds.{right_graph}
use Rattle.brc_c_paths.proofs.Searched.{closed}
use Rattle.brc_c_paths.proofs.judging.is_right.Goals as goal

pub returns-clause-right : goal.returns-clause-right
returns-clause-right c =
    let none : c.in_ok-break_none.field-0 ≡ true = cc in
    IfOk-weaker c.is_closed.result _ _
    (λ yes searched so. right_graph c.args.rules c.args.graph.now c.args.live.now (graph_points c.args.points.now)
    (c.in_ok-break_none.ensures none)
    (closed c.args.rules c.args.graph.now c.args.live.now c.args.points.now false (searched so)))
    c.is_closed.ensures
