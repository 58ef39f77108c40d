-- Choices lead to the outline's point for a node after its registers are emptied, where its event comes.
use Rattle.std.proofs.Common.{◌≡◌, ℕ, zero, suc, Bool, true, false, List, [], ◌∷◌, refl, sym, ap, ◌∙◌, subst, arith}
use Rattle.std.proofs.lemmas.Bool.Decides.{nat_tests}
use Rattle.std.specs.Prelude.{Option, None, Some, slice_get, map}
use Rattle.brc_c_store.specs.declared.event.Choice.{Choice}
use Rattle.brc_c_store.specs.declared.event.Choice.TheVariants.{Yes}
use Rattle.brc_c_store.specs.declared.rules.Rules.{Rules}
use Rattle.brc_c_store.specs.Registers.{has_none}
use Rattle.brc_c_store.specs.Stores.{Contents, contents_of}
use Rattle.brc_c_graph.specs.declared.graph.Graph.{Graph}
use Rattle.brc_c_graph.specs.Nodes.{node_at}
use Rattle.brc_c_outline.specs.declared.outline.Outline.{Outline}
use Rattle.brc_c_paths.specs.declared.liveness.Liveness.{Liveness}
use Rattle.brc_c_paths.specs.declared.point.Point.{Point}
use Rattle.brc_c_paths.specs.Paths.{GraphPoint, emptied, code_at}
use Rattle.brc_c_paths.specs.Closed.{graph_point, graph_points, number_of_way, LeadsOn, GoesOn, IsSearched}
use Rattle.brc_c_image.specs.GraphOutlines.{number_after, way_in, leads_to, code_after, code_in_point, code_of_point}
use Rattle.brc_c_image.specs.GraphOutlines.{IsOutlineOf}
use Rattle.brc_c_laws.proofs.Leading.{IsLedTo, led_on}

-- only what is made of the item at a place is there among what is made of all
made_of : {X Y : Type 0} (f : X → Y) (xs : List X) (k : ℕ) (y : Y) → slice_get (map f xs) k ≡ Some y
    → (x : X) × (slice_get xs k ≡ Some x) × (f x ≡ y)
made_of f [] k y e = absurd cc
made_of f (first ∷ xs) zero y e = (first, refl, (let same : f first ≡ y = cc in same))
made_of f (first ∷ xs) (suc k) y e = made_of f xs k y e

-- the same node after the registers of its forgotten items are emptied
abbrev pub emptied_point : GraphPoint → GraphPoint
emptied_point p = record { node = p.node; store = emptied p.store }

-- a store without forgotten items stays as it is
emptied_same : (c : Contents) → has_none c.stale ≡ true → emptied c ≡ c
emptied_same c e =
    let zero : c.stale.0 ≡ 0 = grind (arith, nat_tests) in
    ap (λ (n : ℕ). let s : Contents = record c { stale = record { 0 = n } } in s) (sym zero)

-- choices lead to where paths go from the search's point for the emptied one, whose event comes there
pub record IsReady (rules : Rules) (graph : Graph) (live : Liveness) (found : List Point) (exceeds : Bool)
    (o : Outline) (places : List (Option ℕ)) (p : GraphPoint) : Type 0 where
  pub n : ℕ
  pub point : Point
  pub led : IsLedTo o places n
  pub it : slice_get found n ≡ Some point
  pub same : graph_point point ≡ emptied_point p
  pub last : point.emptied ≡ None
  pub goes : LeadsOn rules graph live (graph_points found) exceeds (node_at graph p.node) (emptied p.store) point.ways

-- ---- what a point of the search says, with its registers emptied or not

code_there : (rules : Rules) (graph : Graph) (found : List Point) (n : ℕ) (point : Point) (number : Option ℕ)
    → slice_get found n ≡ Some point → point.emptied ≡ number
    → code_of_point rules graph found n ≡ code_after rules graph number point
code_there rules graph found n point number it is =
    ap (code_in_point rules graph) it ∙ ap (λ (k : Option ℕ). code_after rules graph k point) is

way_there : (found : List Point) (n : ℕ) (point : Point) (number : Option ℕ) (choice : Choice)
    → slice_get found n ≡ Some point → point.emptied ≡ number
    → leads_to found n choice ≡ number_after number point.ways choice
way_there found n point number choice it is =
    ap (λ (here : Option Point). way_in here choice) it
    ∙ ap (λ (k : Option ℕ). number_after k point.ways choice) is

module _ (rules : Rules) (graph : Graph) (live : Liveness) (found : List Point) (exceeds : Bool) (o : Outline)
    (places : List (Option ℕ)) (p : GraphPoint) (r : IsReady rules graph live found exceeds o places p) where
  -- its event breaks what that of the path's point breaks
  pub code_ready : code_of_point rules graph found r.n ≡ code_at rules graph p
  code_ready = code_there rules graph found r.n r.point None r.it r.last ∙ ap (code_at rules graph) r.same

  -- its ways are those after the event
  pub way_ready : (choice : Choice) → leads_to found r.n choice ≡ number_of_way r.point.ways choice
  way_ready choice = way_there found r.n r.point None choice r.it r.last

-- ---- each point of the search is emptied, or leads to the one that is

module _ (rules : Rules) (graph : Graph) (live : Liveness) (found : List Point) (exceeds : Bool) (o : Outline)
    (searched : IsSearched rules graph live found exceeds) (outlined : IsOutlineOf rules graph found o true) where
  -- choices lead to where the event of the path's point comes
  abbrev pub IsReadyFor : GraphPoint → Type 0
  IsReadyFor p = IsReady rules graph live found exceeds o outlined.places p

  ready_there : (p : GraphPoint) (n : ℕ) (point : Point) (b : Bool) → has_none point.store.stale ≡ b
      → slice_get found n ≡ Some point → graph_point point ≡ emptied_point p → IsLedTo o outlined.places n
      → GoesOn rules graph live (graph_points found) exceeds point b → IsReadyFor p
  ready_there p n point true none it same led goes =
      record {
        n = n;
        point = point;
        led = led;
        it = it;
        same = same;
        last = goes.0;
        goes = subst (λ (q : GraphPoint).
            LeadsOn rules graph live (graph_points found) exceeds (node_at graph q.node) q.store point.ways)
            same goes.1;
      }
  ready_there p n point false some it same led goes =
      let kept : has_none (graph_point point).store.stale ≡ true =
      ap (λ (q : GraphPoint). has_none q.store.stale) same in
      absurd cc

  ready_after : (p : GraphPoint) (n : ℕ) (point : Point) (b : Bool) → has_none point.store.stale ≡ b
      → slice_get found n ≡ Some point → graph_point point ≡ p → IsLedTo o outlined.places n
      → GoesOn rules graph live (graph_points found) exceeds point b → IsReadyFor p
  ready_after p n point true none it same led goes =
      let stays : graph_point point ≡ emptied_point (graph_point point) =
      ap (λ (c : Contents). let q : GraphPoint = record { node = point.node; store = c } in q)
      (sym (emptied_same (contents_of point.store) none)) in
      ready_there p n point true none it (stays ∙ ap emptied_point same) led goes
  ready_after p n point false some it same led goes =
      let after = made_of graph_point found goes.0 (emptied_point (graph_point point)) goes.2 in
      ready_there p goes.0 after.0 (has_none after.0.store.stale) refl after.1 (after.2 ∙ ap emptied_point same)
      (led_on rules graph found o outlined n goes.0 point Yes it
      (code_there rules graph found n point (Some goes.0) it goes.1)
      (way_there found n point (Some goes.0) Yes it goes.1) led)
      (searched.goes_on goes.0 after.0 after.1)

  -- where choices lead for a point of the search, they lead on to where its event comes
  pub ready : (p : GraphPoint) (n : ℕ) → slice_get (graph_points found) n ≡ Some p → IsLedTo o outlined.places n
      → IsReadyFor p
  ready p n it led =
      let made = made_of graph_point found n p it in
      ready_after p n made.0 (has_none made.0.store.stale) refl made.1 made.2 led (searched.goes_on n made.0 made.1)
