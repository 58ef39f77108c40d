-- What a search has found: each node in each store to which a path comes.
use Rattle.std.specs.Prelude.{◌≡◌, ℕ, Bool, true, false, IsTrue, List, Option, None, Some, map, slice_get, Contains}
use Rattle.brc_lang.specs.declared.check_code.CheckCode.{CheckCode}
use Rattle.brc_c_store.specs.declared.event.Choice.{Choice}
use Rattle.brc_c_store.specs.declared.event.Choice.TheVariants.{Yes, No, Missing}
use Rattle.brc_c_store.specs.declared.rules.Rules.{Rules}
use Rattle.brc_c_store.specs.Registers.{has_none}
use Rattle.brc_c_store.specs.Stores.{Contents, contents_of}
use Rattle.brc_c_graph.specs.declared.graph.Graph.{Graph}
use Rattle.brc_c_graph.specs.declared.node.Node.{Node}
use Rattle.brc_c_graph.specs.declared.node.NodeId.{NodeId}
use Rattle.brc_c_graph.specs.Nodes.{node_at}
use Rattle.brc_c_paths.specs.declared.fault.Fault.{Fault}
use Rattle.brc_c_paths.specs.declared.liveness.Liveness.{Liveness}
use Rattle.brc_c_paths.specs.declared.point.Point.{Point}
use Rattle.brc_c_paths.specs.declared.point.PointWays.{PointWays}
use Rattle.brc_c_paths.specs.Paths.{GraphPoint, GraphWay, Nowhere, Exceeds, To}
use Rattle.brc_c_paths.specs.Paths.{GraphEnd, At, Ended, Breaks, NotFollowed}
use Rattle.brc_c_paths.specs.Paths.{emptied, code_in, code_at, way_from, way_of_node, entry_point}
use Rattle.brc_c_paths.specs.Paths.{graph_end, choices_of}

-- a point that the code has found
abbrev pub graph_point : Point → GraphPoint
graph_point point = record { node = point.node; store = contents_of point.store }

abbrev pub graph_points : List Point → List GraphPoint
graph_points points = map graph_point points

-- the point after a choice, by its number
abbrev pub number_of_way : PointWays → Choice → Option ℕ
number_of_way ways Yes = ways.yes
number_of_way ways No = ways.no
number_of_way ways Missing = ways.missing

-- a way leads to the point of this number, or nowhere; or further than is followed, if some may
abbrev pub LeadsTo : List GraphPoint → Bool → Option ℕ → GraphWay → Type 0
LeadsTo found exceeds number Nowhere = number ≡ None
LeadsTo found exceeds number Exceeds = (number ≡ None) × IsTrue exceeds
LeadsTo found exceeds number (To p) = (m : ℕ) × (number ≡ Some m) × (slice_get found m ≡ Some p)

-- where paths go from a node in a store, if its event breaks no rule there
abbrev pub LeadsUnless : Rules → Graph → Liveness → List GraphPoint → Bool → Option Node → Contents → PointWays
    → Option CheckCode → Type 0
LeadsUnless rules graph live found exceeds here c ways None =
    (choice : Choice) → LeadsTo found exceeds (number_of_way ways choice) (way_of_node rules graph live here c choice)
LeadsUnless rules graph live found exceeds here c ways (Some code) =
    (choice : Choice) → number_of_way ways choice ≡ None

abbrev pub LeadsOn : Rules → Graph → Liveness → List GraphPoint → Bool → Option Node → Contents → PointWays → Type 0
LeadsOn rules graph live found exceeds node c ways =
    LeadsUnless rules graph live found exceeds node c ways (code_in rules node c)

-- the point of this number is the same node, after the registers of forgotten items are emptied
abbrev pub EmptiesTo : List GraphPoint → GraphPoint → Option ℕ → Type 0
EmptiesTo found p number =
    (k : ℕ) × (number ≡ Some k) × (slice_get found k ≡ Some (record { node = p.node; store = emptied p.store }))

-- where paths go on from a point: first registers are emptied, if there are forgotten items; then comes the event
abbrev pub GoesOn : Rules → Graph → Liveness → List GraphPoint → Bool → Point → Bool → Type 0
GoesOn rules graph live found exceeds point true =
    (point.emptied ≡ None)
    × LeadsOn rules graph live found exceeds (node_at graph point.node) (contents_of point.store) point.ways
GoesOn rules graph live found exceeds point false = EmptiesTo found (graph_point point) point.emptied

-- paths begin at the first point, and go on from each to points
pub record IsSearched (rules : Rules) (graph : Graph) (live : Liveness) (points : List Point) (exceeds : Bool) :
    Type 0 where
  pub begins : slice_get (graph_points points) 0 ≡ Some entry_point
  pub goes_on : (n : ℕ) (point : Point) → slice_get points n ≡ Some point
      → GoesOn rules graph live (graph_points points) exceeds point (has_none point.store.stale)

-- so each way from a point that is found leads to one, if the point's event breaks no rule
abbrev pub StaysIn : List GraphPoint → Bool → GraphWay → Type 0
StaysIn found exceeds Nowhere = Unit {0}
StaysIn found exceeds Exceeds = IsTrue exceeds
StaysIn found exceeds (To p) = Contains found p

pub record IsClosed (rules : Rules) (graph : Graph) (live : Liveness) (found : List GraphPoint) (exceeds : Bool) :
    Type 0 where
  pub begins : Contains found entry_point
  pub stays : (p : GraphPoint) (choice : Choice) → Contains found p → code_at rules graph p ≡ None
      → StaysIn found exceeds (way_from rules graph live p choice)

-- some point of the node that is found breaks this rule
pub record FoundBreaks (rules : Rules) (graph : Graph) (found : List GraphPoint) (node : NodeId) (code : CheckCode) :
    Type 0 where
  pub p : GraphPoint
  pub among : Contains found p
  pub there : p.node ≡ node
  pub breaks : code_at rules graph p ≡ Some code

-- a path ends at a point that is found
abbrev pub EndsIn : Rules → Graph → List GraphPoint → Bool → GraphEnd → Type 0
EndsIn rules graph found exceeds (At p) = Contains found p × (code_at rules graph p ≡ None)
EndsIn rules graph found exceeds Ended = Unit {0}
EndsIn rules graph found exceeds (Breaks node code) = FoundBreaks rules graph found node code
EndsIn rules graph found exceeds NotFollowed = IsTrue exceeds

-- ---- faults

-- one of the faults is that this node breaks this rule
pub record IsListed (faults : List Fault) (node : NodeId) (code : CheckCode) : Type 0 where
  pub fault : Fault
  pub listed : Contains faults fault
  pub there : fault.node ≡ node
  pub breaks : fault.code ≡ code

-- the rule that an event breaks, if any, is that of a fault of the node
abbrev pub IsListedIf : List Fault → NodeId → Option CheckCode → Type 0
IsListedIf faults node None = Unit {0}
IsListedIf faults node (Some code) = IsListed faults node code

-- the steps of a fault are a path that breaks its rule at its node
abbrev pub IsPathOf : Rules → Graph → Liveness → Fault → Type 0
IsPathOf rules graph live fault =
    graph_end rules graph live (choices_of fault.path.items) ≡ Breaks fault.node fault.code
