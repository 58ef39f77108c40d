-- Where paths end: at points that a search has found, if these are closed.
use Rattle.std.proofs.Common.{◌≡◌, ℕ, Bool, true, false, List, [], ◌∷◌, refl, sym, ap, ◌∙◌, subst, arith}
use Rattle.std.proofs.lemmas.Bool.Decides.{nat_tests}
use Rattle.std.specs.Prelude.{Option, None, Some, Contains, fold}
use Rattle.brc_lang.specs.declared.check_code.CheckCode.{CheckCode}
use Rattle.brc_c_store.specs.declared.event.Choice.{Choice}
use Rattle.brc_c_store.specs.declared.rules.Rules.{Rules}
use Rattle.brc_c_store.specs.Registers.{has_none}
use Rattle.brc_c_store.specs.Stores.{Contents}
use Rattle.brc_c_graph.specs.declared.graph.Graph.{Graph}
use Rattle.brc_c_graph.specs.declared.node.NodeId.{NodeId}
use Rattle.brc_c_paths.specs.declared.fault.Fault.{Fault}
use Rattle.brc_c_paths.specs.declared.liveness.Liveness.{Liveness}
use Rattle.brc_c_paths.specs.Paths.{GraphPoint, GraphWay, Nowhere, Exceeds, To}
use Rattle.brc_c_paths.specs.Paths.{GraphEnd, At, Ended, Breaks, NotFollowed}
use Rattle.brc_c_paths.specs.Paths.{emptied, code_at, arrives_with, arrives, goes, follow, entry_point, graph_end}
use Rattle.brc_c_paths.specs.Paths.{way_from, PathBreaks, IsUnbroken, IsRightGraph}
use Rattle.brc_c_paths.specs.Closed.{StaysIn, IsClosed, EndsIn, IsListed, IsListedIf}

-- ---- paths end where the search has found

arrives_in : (rules : Rules) (graph : Graph) (found : List GraphPoint) (exceeds : Bool) (p : GraphPoint)
    (code : Option CheckCode) → Contains found p → code_at rules graph p ≡ code
    → EndsIn rules graph found exceeds (arrives_with p code)
arrives_in rules graph found exceeds p None contained e = (contained, e)
arrives_in rules graph found exceeds p (Some code) contained e =
    record { p = p; among = contained; there = refl; breaks = e }

goes_in : (rules : Rules) (graph : Graph) (found : List GraphPoint) (exceeds : Bool) (way : GraphWay)
    → StaysIn found exceeds way → EndsIn rules graph found exceeds (goes rules graph way)
goes_in rules graph found exceeds Nowhere stays = tt
goes_in rules graph found exceeds Exceeds stays = stays
goes_in rules graph found exceeds (To p) stays =
    arrives_in rules graph found exceeds p (code_at rules graph p) stays refl

follows_in : (rules : Rules) (graph : Graph) (live : Liveness) (found : List GraphPoint) (exceeds : Bool)
    → IsClosed rules graph live found exceeds → (end : GraphEnd) (choice : Choice)
    → EndsIn rules graph found exceeds end
    → EndsIn rules graph found exceeds (follow rules graph live end choice)
follows_in rules graph live found exceeds closed (At p) choice here =
    goes_in rules graph found exceeds (way_from rules graph live p choice)
    (closed.stays p choice here.0 here.1)
follows_in rules graph live found exceeds closed Ended choice here = tt
follows_in rules graph live found exceeds closed (Breaks node code) choice here = here
follows_in rules graph live found exceeds closed NotFollowed choice here = here

ends_in_from : (rules : Rules) (graph : Graph) (live : Liveness) (found : List GraphPoint) (exceeds : Bool)
    → IsClosed rules graph live found exceeds → (choices : List Choice) (end : GraphEnd)
    → EndsIn rules graph found exceeds end
    → EndsIn rules graph found exceeds (fold (follow rules graph live) end choices)
ends_in_from rules graph live found exceeds closed [] end here = here
ends_in_from rules graph live found exceeds closed (choice ∷ choices) end here =
    ends_in_from rules graph live found exceeds closed choices (follow rules graph live end choice)
    (follows_in rules graph live found exceeds closed end choice here)

-- each path ends at a point that is found
pub ends_in : (rules : Rules) (graph : Graph) (live : Liveness) (found : List GraphPoint) (exceeds : Bool)
    → IsClosed rules graph live found exceeds → (choices : List Choice)
    → EndsIn rules graph found exceeds (graph_end rules graph live choices)
ends_in rules graph live found exceeds closed choices =
    ends_in_from rules graph live found exceeds closed choices (arrives rules graph entry_point)
    (arrives_in rules graph found exceeds entry_point (code_at rules graph entry_point) closed.begins refl)

-- ---- what follows for the graph

unbroken : (rules : Rules) (graph : Graph) (found : List GraphPoint)
    → ((p : GraphPoint) → Contains found p → code_at rules graph p ≡ None) → (end : GraphEnd)
    → EndsIn rules graph found false end → IsUnbroken end
unbroken rules graph found none (At p) here = tt
unbroken rules graph found none Ended here = tt
unbroken rules graph found none (Breaks node code) here =
    let e = sym here.breaks ∙ none here.p here.among in absurd cc
unbroken rules graph found none NotFollowed here = absurd cc

-- no path breaks a rule if no point that is found does
pub right_graph : (rules : Rules) (graph : Graph) (live : Liveness) (found : List GraphPoint)
    → ((p : GraphPoint) → Contains found p → code_at rules graph p ≡ None)
    → IsClosed rules graph live found false → IsRightGraph rules graph live
right_graph rules graph live found none closed choices =
    unbroken rules graph found none (graph_end rules graph live choices)
    (ends_in rules graph live found false closed choices)

-- what a path breaks is listed if all that the points break is
pub path_listed : (rules : Rules) (graph : Graph) (live : Liveness) (found : List GraphPoint) (exceeds : Bool)
    (faults : List Fault)
    → ((p : GraphPoint) → Contains found p → IsListedIf faults p.node (code_at rules graph p))
    → IsClosed rules graph live found exceeds → (node : NodeId) (code : CheckCode)
    → PathBreaks rules graph live node code → IsListed faults node code
path_listed rules graph live found exceeds faults listed closed node code path =
    let here = subst (EndsIn rules graph found exceeds) path.breaks
    (ends_in rules graph live found exceeds closed path.choices) in
    subst (λ (n : NodeId). IsListed faults n code) here.there
    (subst (IsListedIf faults here.p.node) here.breaks (listed here.p here.among))

-- ---- registers that are emptied

-- a store without forgotten items stays as it is
pub emptied_same : (c : Contents) → has_none c.stale ≡ true → emptied c ≡ c
emptied_same c e =
    let zero : c.stale.0 ≡ 0 = grind (arith, nat_tests) in
    ap (λ (n : ℕ). let s : Contents = record c { stale = record { 0 = n } } in s) (sym zero)
