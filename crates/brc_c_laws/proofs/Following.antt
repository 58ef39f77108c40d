-- An outline follows each path of its graph.
use Rattle.std.proofs.Common.{◌≡◌, ℕ, Bool, true, List, [], ◌∷◌, inl, inr, refl, sym, ap, ◌∙◌, subst}
use Rattle.std.specs.Prelude.{Option, None, Some, slice_get, fold}
use Rattle.brc_lang.specs.declared.check_code.CheckCode.{CheckCode}
use Rattle.brc_c_store.specs.declared.event.Choice.{Choice}
use Rattle.brc_c_store.specs.declared.rules.Rules.{Rules}
use Rattle.brc_c_graph.specs.declared.graph.Graph.{Graph}
use Rattle.brc_c_graph.specs.Nodes.{node_at}
use Rattle.brc_c_outline.specs.declared.outline.Outline.{Outline}
use Rattle.brc_c_paths.specs.declared.liveness.Liveness.{Liveness}
use Rattle.brc_c_paths.specs.declared.point.Point.{Point}
use Rattle.brc_c_paths.specs.Paths.{GraphPoint, GraphWay, Nowhere, Exceeds, To}
use Rattle.brc_c_paths.specs.Paths.{GraphEnd, At, Ended, Breaks, NotFollowed}
use Rattle.brc_c_paths.specs.Paths.{emptied, code_at, way_from, arrives_with, arrives, goes, follow, entry_point}
use Rattle.brc_c_paths.specs.Paths.{graph_end}
use Rattle.brc_c_paths.specs.Closed.{graph_points, LeadsTo, LeadsUnless, IsSearched}
use Rattle.brc_c_image.specs.GraphOutlines.{leads_to, IsPlace, IsOutlineOf}
use Rattle.brc_c_laws.specs.Laws.{IsFollowed, IsFollowedToBroken, FollowsTo}
use Rattle.brc_c_laws.proofs.Leading.{IsLedTo, led_first, led_on}
use Rattle.brc_c_laws.proofs.Readying.{IsReadyFor, ready, code_ready, way_ready}

module _ (rules : Rules) (graph : Graph) (live : Liveness) (found : List Point) (exceeds : Bool) (o : Outline)
    (searched : IsSearched rules graph live found exceeds) (outlined : IsOutlineOf rules graph found o true) where
  abbrev IsReadyAt : GraphPoint → Type 0
  IsReadyAt p = IsReadyFor rules graph live found exceeds o searched outlined p

  -- the path is followed to its end, and breaks no rule where it is at a node
  abbrev IsFollowedTo : GraphEnd → Type 0
  IsFollowedTo (At p) = IsFollowed rules graph found o outlined p × (code_at rules graph p ≡ None)
  IsFollowedTo Ended = Unit {0}
  IsFollowedTo (Breaks node code) = IsFollowedToBroken rules graph found o outlined node code
  IsFollowedTo NotFollowed = Unit {0}

  -- ---- a path comes to a point

  -- paths don't pass by an event that breaks a rule, so the outline's point is the search's
  breaks_there : (p : GraphPoint) (code : CheckCode) → code_at rules graph p ≡ Some code → (r : IsReadyAt p)
      → IsPlace rules graph found outlined.labels outlined.places r.n (Some r.led.u)
      → IsFollowedToBroken rules graph found o outlined p.node code
  breaks_there p code e r (inl labelled) =
      record {
        n = r.n;
        u = r.led.u;
        choices = r.led.choices;
        point = r.point;
        it = r.it;
        there = ap (λ (q : GraphPoint). q.node) r.same;
        breaks = code_ready rules graph live found exceeds o outlined.places p r ∙ e;
        labelled = labelled;
        leads = r.led.leads;
      }
  breaks_there p code e r (inr passes) =
      let none : code_at rules graph p ≡ None =
      sym (code_ready rules graph live found exceeds o outlined.places p r) ∙ passes.unbroken in
      absurd cc

  arrives_at : (p : GraphPoint) (n : ℕ) → slice_get (graph_points found) n ≡ Some p → IsLedTo o outlined.places n
      → (code : Option CheckCode) → code_at rules graph p ≡ code → IsFollowedTo (arrives_with p code)
  arrives_at p n it led None e =
      (record { n = n; u = led.u; choices = led.choices; it = it; there = led.there; leads = led.leads }, e)
  arrives_at p n it led (Some code) e =
      let r = ready rules graph live found exceeds o searched outlined p n it led in
      breaks_there p code e r (outlined.passed r.n r.led.u r.led.there)

  -- ---- a path goes on

  goes_by : (p : GraphPoint) (r : IsReadyAt p) (choice : Choice) → code_at rules graph p ≡ None
      → (number : Option ℕ) (way : GraphWay) → LeadsTo (graph_points found) exceeds number way
      → (leads_to found r.n choice ≡ number) → IsFollowedTo (goes rules graph way)
  goes_by p r choice none number Nowhere leads is = tt
  goes_by p r choice none number Exceeds leads is = tt
  goes_by p r choice none number (To q) leads is =
      arrives_at q leads.0 leads.2
      (led_on rules graph found o outlined r.n leads.0 r.point choice r.it
      (code_ready rules graph live found exceeds o outlined.places p r ∙ none) (is ∙ leads.1) r.led)
      (code_at rules graph q) refl

  goes_from : (p : GraphPoint) (choice : Choice) → IsReadyAt p → code_at rules graph p ≡ None
      → IsFollowedTo (goes rules graph (way_from rules graph live p choice))
  goes_from p choice r none =
      let unbroken = subst
      (LeadsUnless rules graph live (graph_points found) exceeds (node_at graph p.node) (emptied p.store) r.point.ways)
      none r.goes in
      goes_by p r choice none _ (way_from rules graph live p choice) (unbroken choice)
      (way_ready rules graph live found exceeds o outlined.places p r choice)

  goes_on : (p : GraphPoint) (choice : Choice) → IsFollowed rules graph found o outlined p
      → code_at rules graph p ≡ None → IsFollowedTo (goes rules graph (way_from rules graph live p choice))
  goes_on p choice f none =
      goes_from p choice
      (ready rules graph live found exceeds o searched outlined p f.n f.it
      (record { u = f.u; choices = f.choices; there = f.there; leads = f.leads }))
      none

  follows_on : (end : GraphEnd) (choice : Choice) → IsFollowedTo end
      → IsFollowedTo (follow rules graph live end choice)
  follows_on (At p) choice here = goes_on p choice here.0 here.1
  follows_on Ended choice here = tt
  follows_on (Breaks node code) choice here = here
  follows_on NotFollowed choice here = tt

  follows_from : (choices : List Choice) (end : GraphEnd) → IsFollowedTo end
      → IsFollowedTo (fold (follow rules graph live) end choices)
  follows_from [] end here = here
  follows_from (choice ∷ choices) end here =
      follows_from choices (follow rules graph live end choice) (follows_on end choice here)

  -- ---- from the entry

  followed : (end : GraphEnd) → IsFollowedTo end → FollowsTo rules graph found o outlined end
  followed (At p) here = here.0
  followed Ended here = tt
  followed (Breaks node code) here = here
  followed NotFollowed here = tt

  -- choices lead to the outline's point for the end of each path
  pub path_followed : (choices : List Choice)
      → FollowsTo rules graph found o outlined (graph_end rules graph live choices)
  path_followed choices =
      followed (graph_end rules graph live choices)
      (follows_from choices (arrives rules graph entry_point)
      (arrives_at entry_point 0 searched.begins (led_first rules graph found o outlined)
      (code_at rules graph entry_point) refl))
