-- What follows for paths from an outline that is a graph's.
use Rattle.std.specs.Prelude.{◌≡◌, ℕ, Bool, true, List, Some, slice_get}
use Rattle.brc_lang.specs.declared.module.Function.{Function}
use Rattle.brc_lang.specs.declared.check_code.CheckCode.{CheckCode}
use Rattle.brc_model.specs.Paths.{ReportsCode}
use Rattle.brc_c_store.specs.declared.event.Choice.{Choice}
use Rattle.brc_c_store.specs.declared.rules.Rules.{Rules}
use Rattle.brc_c_graph.specs.declared.graph.Graph.{Graph}
use Rattle.brc_c_graph.specs.declared.node.NodeId.{NodeId}
use Rattle.brc_c_outline.specs.declared.outline.Broken.{Broken}
use Rattle.brc_c_outline.specs.declared.outline.Outline.{Outline}
use Rattle.brc_c_outline.specs.Outlines.{IsImage, led_to, broken_in, point_at}
use Rattle.brc_c_paths.specs.declared.liveness.Liveness.{Liveness}
use Rattle.brc_c_paths.specs.declared.point.Point.{Point}
use Rattle.brc_c_paths.specs.Closed.{IsSearched, graph_points}
use Rattle.brc_c_paths.specs.Paths.{GraphPoint, GraphEnd, At, Ended, Breaks, NotFollowed, graph_end}
use Rattle.brc_c_image.specs.GraphOutlines.{IsOutlineOf, code_of_point, label_of, place_of}

-- choices lead to the outline's point for this point of the graph
pub record IsFollowed (rules : Rules) (graph : Graph) (found : List Point) (o : Outline)
    (outlined : IsOutlineOf rules graph found o true) (p : GraphPoint) : Type 0 where
  pub n : ℕ
  pub u : ℕ
  pub choices : List ℕ
  pub it : slice_get (graph_points found) n ≡ Some p
  pub there : place_of outlined.places n ≡ Some u
  pub leads : led_to o choices ≡ Some u

-- choices lead to the outline's point of this node, whose event breaks this rule
pub record IsFollowedToBroken (rules : Rules) (graph : Graph) (found : List Point) (o : Outline)
    (outlined : IsOutlineOf rules graph found o true) (node : NodeId) (code : CheckCode) : Type 0 where
  pub n : ℕ
  pub u : ℕ
  pub choices : List ℕ
  pub point : Point
  pub it : slice_get found n ≡ Some point
  pub there : point.node ≡ node
  pub breaks : code_of_point rules graph found n ≡ Some code
  pub labelled : label_of outlined.labels u ≡ Some n
  pub leads : led_to o choices ≡ Some u

abbrev pub FollowsTo : (rules : Rules) (graph : Graph) (found : List Point) (o : Outline)
    → IsOutlineOf rules graph found o true → GraphEnd → Type 0
FollowsTo rules graph found o outlined (At p) = IsFollowed rules graph found o outlined p
FollowsTo rules graph found o outlined Ended = Unit {0}
FollowsTo rules graph found o outlined (Breaks node code) = IsFollowedToBroken rules graph found o outlined node code
FollowsTo rules graph found o outlined NotFollowed = Unit {0}

abbrev pub EveryGraphPathIsFollowed : Type 0
EveryGraphPathIsFollowed = (rules : Rules) (graph : Graph) (live : Liveness) (found : List Point) (exceeds : Bool)
    (o : Outline) → IsSearched rules graph live found exceeds → (outlined : IsOutlineOf rules graph found o true)
    → (choices : List Choice) → FollowsTo rules graph found o outlined (graph_end rules graph live choices)

abbrev pub EveryShownFaultIsReported : Type 0
EveryShownFaultIsReported = (rules : Rules) (graph : Graph) (found : List Point) (o : Outline) (f : Function)
    (outlined : IsOutlineOf rules graph found o true) → IsImage f o → (node : NodeId) (code : CheckCode)
    → (followed : IsFollowedToBroken rules graph found o outlined node code) → (broken : Broken)
    → broken_in (point_at o followed.u) ≡ Some broken → ReportsCode f broken.at code
