-- A search that names where paths go on has found each point to which they come.
use Rattle.std.proofs.Common.{◌≡◌, ℕ, Bool, true, false, List, length, refl, sym, ap, subst}
use Rattle.std.proofs.lemmas.Option.{slice_get_read}
use Rattle.std.specs.Prelude.{Option, None, Some, slice_get}
use Rattle.brc_c_store.specs.declared.event.Choice.{Choice}
use Rattle.brc_c_store.specs.declared.event.Choice.TheVariants.{Yes, No, Missing}
use Rattle.brc_c_store.specs.declared.rules.Rules.{Rules}
use Rattle.brc_c_store.specs.Registers.{has_none}
use Rattle.brc_c_store.specs.Stores.{Contents, contents_of}
use Rattle.brc_c_graph.specs.declared.graph.Graph.{Graph}
use Rattle.brc_c_graph.specs.declared.node.Node.{Node}
use Rattle.brc_c_graph.specs.Nodes.{node_at}
use Rattle.brc_c_paths.specs.declared.liveness.Liveness.{Liveness}
use Rattle.brc_c_paths.specs.declared.point.Point.{Point}
use Rattle.brc_c_paths.specs.declared.point.PointWays.{PointWays}
use Rattle.brc_c_paths.specs.Paths.{GraphPoint, GraphWay, Nowhere, Exceeds, To, emptied, code_in, code_at}
use Rattle.brc_c_paths.specs.Paths.{way_of_node, way_from, entry_point}
use Rattle.brc_c_paths.specs.Closed.{graph_point, graph_points, LeadsTo, LeadsUnless, LeadsOn, GoesOn}
use Rattle.brc_c_paths.specs.Closed.{IsSearched, StaysIn, IsClosed}
use Rattle.brc_c_paths.proofs.Listed.{there_contained, made_of}
use Rattle.brc_c_paths.proofs.PathEnds.{emptied_same}

-- ---- where paths go on

-- what holds of each choice
pub by_choice : (P : Choice → Type 0) → P Yes → P No → P Missing → (choice : Choice) → P choice
by_choice P on_yes on_no on_missing Yes = on_yes
by_choice P on_yes on_no on_missing No = on_no
by_choice P on_yes on_no on_missing Missing = on_missing

leads_stays : (found : List GraphPoint) (exceeds : Bool) (number : Option ℕ) (way : GraphWay)
    → LeadsTo found exceeds number way → StaysIn found exceeds way
leads_stays found exceeds number Nowhere leads = tt
leads_stays found exceeds number Exceeds leads = leads.1
leads_stays found exceeds number (To p) leads = there_contained found leads.0 p leads.2

module _ (rules : Rules) (graph : Graph) (live : Liveness) (found : List GraphPoint) (exceeds : Bool) where
  on_stays : (node : Option Node) (c : Contents) (ways : PointWays)
      → LeadsOn rules graph live found exceeds node c ways → (choice : Choice) → code_in rules node c ≡ None
      → StaysIn found exceeds (way_of_node rules graph live node c choice)
  on_stays node c ways leads choice none =
      let unbroken = subst (LeadsUnless rules graph live found exceeds node c ways) none leads in
      leads_stays found exceeds _ (way_of_node rules graph live node c choice) (unbroken choice)

  -- where paths go on from a point after its registers are emptied
  abbrev LeadsOnFrom : GraphPoint → PointWays → Type 0
  LeadsOnFrom p = LeadsOn rules graph live found exceeds (node_at graph p.node) (emptied p.store)

  -- a point without forgotten items says so itself
  leads_itself : (point : Point) → has_none point.store.stale ≡ true
      → GoesOn rules graph live found exceeds point true → LeadsOnFrom (graph_point point) point.ways
  leads_itself point none goes =
      subst (λ (c : Contents). LeadsOn rules graph live found exceeds (node_at graph point.node) c point.ways)
      (sym (emptied_same (contents_of point.store) none)) goes.1

  -- for another one, the point says so that it is after its registers are emptied
  leads_as : (p : GraphPoint) (point : Point) (b : Bool)
      → graph_point point ≡ record { node = p.node; store = emptied p.store } → has_none point.store.stale ≡ b
      → GoesOn rules graph live found exceeds point b → LeadsOnFrom p point.ways
  leads_as p point true same none goes =
      subst (λ (q : GraphPoint). LeadsOn rules graph live found exceeds (node_at graph q.node) q.store point.ways)
      same goes.1
  leads_as p point false same none goes =
      let kept : has_none (graph_point point).store.stale ≡ true =
      ap (λ (q : GraphPoint). has_none q.store.stale) same in
      absurd cc

-- ---- what is searched is closed

module _ (rules : Rules) (graph : Graph) (live : Liveness) (points : List Point) (exceeds : Bool)
    (searched : IsSearched rules graph live points exceeds) where
  leads_from : (point : Point) (b : Bool) → has_none point.store.stale ≡ b
      → GoesOn rules graph live (graph_points points) exceeds point b
      → (ways : PointWays) × LeadsOnFrom rules graph live (graph_points points) exceeds (graph_point point) ways
  leads_from point true none goes =
      (point.ways, leads_itself rules graph live (graph_points points) exceeds point none goes)
  leads_from point false some goes =
      let after = made_of graph_point points goes.0
      (record { node = point.node; store = emptied (contents_of point.store) }) goes.2 in (
        after.0.ways,
        leads_as rules graph live (graph_points points) exceeds (graph_point point) after.0
            (has_none after.0.store.stale) after.2 refl (searched.goes_on goes.0 after.0 after.1),
      )

  stays_from : (p : GraphPoint) (choice : Choice) → (point : Point) (n : ℕ) → slice_get points n ≡ Some point
      → graph_point point ≡ p → code_at rules graph p ≡ None
      → StaysIn (graph_points points) exceeds (way_from rules graph live p choice)
  stays_from p choice point n there same none =
      let leads = leads_from point (has_none point.store.stale) refl (searched.goes_on n point there) in
      on_stays rules graph live (graph_points points) exceeds (node_at graph p.node) (emptied p.store) leads.0
      (subst (λ (q : GraphPoint). LeadsOnFrom rules graph live (graph_points points) exceeds q leads.0) same leads.1)
      choice none

  -- each way from a point that is found leads to one
  pub closed : IsClosed rules graph live (graph_points points) exceeds
  closed = record {
    begins = there_contained (graph_points points) 0 entry_point searched.begins;
    stays = λ p choice contained none.
        let there = slice_get_read (graph_points points) (length (graph_points points)) contained.0 p refl contained.1
        (sym contained.2) in
        let made = made_of graph_point points contained.0 p there in
        stays_from p choice made.0 contained.0 made.1 made.2 none;
  }
