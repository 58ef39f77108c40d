use Rattle.std.proofs.Common.{◌≡◌, true}
use Rattle.std.proofs.lemmas.Result.{IfOk-weaker}
use Rattle.brc_c_paths.specs.Closed.{graph_points}
use Rattle.brc_c_paths.proofs.PathEnds.{path_listed}
use Rattle.brc_c_paths.proofs.Searched.{closed}
use Rattle.brc_c_paths.proofs.judging.all_listed.Goals as goal

pub returns-clause-listed : goal.returns-clause-listed
returns-clause-listed c =
    let listed : c.in_ok-are_listed.field-0 ≡ true = cc in
    IfOk-weaker c.is_closed.result _ _
    (λ yes searched so. path_listed c.args.rules c.args.graph.now c.args.live.now (graph_points c.args.points.now) true
    c.args.faults.now (c.in_ok-are_listed.ensures listed)
    (closed c.args.rules c.args.graph.now c.args.live.now c.args.points.now true (searched so)))
    c.is_closed.ensures
