use Rattle.std.proofs.Common.{◌≡◌, true, subst, sym, ◌∙◌}
use Rattle.std.specs.Prelude.{None, Some}
use Rattle.std.proofs.lemmas.Result.{IfOk-weaker}
use Rattle.brc_c_store.specs.declared.event.Choice.{Choice}
use Rattle.brc_c_store.specs.Stores.{contents_of}
use Rattle.brc_c_paths.specs.Paths.{code_in, way_of_node}
use Rattle.brc_c_paths.specs.Closed.{graph_points, number_of_way, LeadsTo, LeadsUnless}
use Rattle.brc_c_paths.proofs.Listed.{none_so}
use Rattle.brc_c_paths.proofs.Searched.{by_choice}
use Rattle.brc_c_paths.proofs.closing.leads_on.Goals as goal

pub returns : goal.returns
returns c =
    let found = graph_points c.args.points.now in
    let point = c.args.point.now in
    let store = contents_of point.store in
    let none : code_in c.args.rules (Some c.args.node.now) store ≡ None =
    sym c.faults.ensures ∙ none_so c.faults.result (sym c.is_some.ensures ∙ c.if-is_some.false) in
    let yes : c.in_ok-leads.field-0 ≡ true = cc in
    let no : c.in_ok-leads-2.field-0 ≡ true = cc in
    IfOk-weaker c.leads-3.result _ _
    (λ last missing so.
    subst
    (LeadsUnless c.args.rules c.args.graph.now c.args.live.now found c.args.exceeds (Some c.args.node.now) store
    point.ways)
    (sym none)
    (by_choice
    (λ (choice : Choice). LeadsTo found c.args.exceeds (number_of_way point.ways choice)
    (way_of_node c.args.rules c.args.graph.now c.args.live.now (Some c.args.node.now) store choice))
    (c.in_ok-leads.ensures yes) (c.in_ok-leads-2.ensures no) (missing so)))
    c.leads-3.ensures
