-- When an outline is that of a graph: its points are nodes in stores to which paths of the graph come, and its states
-- and ways are theirs.
use Rattle.std.specs.Prelude.{◌≡◌, ◌⊎◌, ℕ, Bool, IsTrue, List, [], Option, None, Some, slice_get, Contains}
use Rattle.brc_lang.specs.declared.check_code.CheckCode.{CheckCode}
use Rattle.brc_c_store.specs.declared.event.Choice.{Choice}
use Rattle.brc_c_store.specs.declared.rules.Rules.{Rules}
use Rattle.brc_c_store.specs.Stores.{contents_of}
use Rattle.brc_c_graph.specs.declared.graph.Graph.{Graph}
use Rattle.brc_model.specs.declared.state.State.{State}
use Rattle.brc_c_outline.specs.declared.outline.Broken.{Broken}
use Rattle.brc_c_outline.specs.declared.outline.Outline.{Outline}
use Rattle.brc_c_outline.specs.declared.outline.Point.{Point as OutlinePoint}
use Rattle.brc_c_outline.specs.Outlines.{point_at}
use Rattle.brc_c_paths.specs.declared.point.Point.{Point}
use Rattle.brc_c_paths.specs.declared.point.PointWays.{PointWays}
use Rattle.brc_c_paths.specs.Paths.{code_at}
use Rattle.brc_c_paths.specs.Closed.{graph_point, number_of_way}
use Rattle.brc_c_image.specs.States.{state_of}

abbrev pub number_in : Option (Option ℕ) → Option ℕ
number_in None = None
number_in (Some number) = number

-- ---- the points of a search

-- the point to which a path goes first: the same node after registers are emptied, or the one after a choice
abbrev pub number_after : Option ℕ → PointWays → Choice → Option ℕ
number_after None ways choice = number_of_way ways choice
number_after (Some k) ways choice = Some k

abbrev pub way_in : Option Point → Choice → Option ℕ
way_in None choice = None
way_in (Some point) choice = number_after point.emptied point.ways choice

-- the point to which a choice leads from the one of this number
abbrev pub leads_to : List Point → ℕ → Choice → Option ℕ
leads_to found n choice = way_in (slice_get found n) choice

-- the event comes only after registers are emptied
abbrev pub code_after : Rules → Graph → Option ℕ → Point → Option CheckCode
code_after rules graph None point = code_at rules graph (graph_point point)
code_after rules graph (Some k) point = None

abbrev pub code_in_point : Rules → Graph → Option Point → Option CheckCode
code_in_point rules graph None = None
code_in_point rules graph (Some point) = code_after rules graph point.emptied point

-- the rule that is broken at the point of this number
abbrev pub code_of_point : Rules → Graph → List Point → ℕ → Option CheckCode
code_of_point rules graph found n = code_in_point rules graph (slice_get found n)

-- ---- which point of the outline stands for which of the search

-- the search's point that the outline's point is, if it is one
abbrev pub label_of : List (Option ℕ) → ℕ → Option ℕ
label_of labels u = number_in (slice_get labels u)

-- the outline's point to which paths go from the search's point, or at which they are there
abbrev pub place_of : List (Option ℕ) → ℕ → Option ℕ
place_of places n = number_in (slice_get places n)

-- ---- the conditions, each of one point

-- the outline's way to v is one of the search's point n
pub record IsGraphWay (found : List Point) (places : List (Option ℕ)) (n v : ℕ) : Type 0 where
  pub choice : Choice
  pub m : ℕ
  pub leads : leads_to found n choice ≡ Some m
  pub there : place_of places m ≡ Some v

abbrev pub IsBrokenAs : Option CheckCode → Option Broken → Type 0
IsBrokenAs code None = Unit {0}
IsBrokenAs code (Some broken) = code ≡ Some broken.code

abbrev pub GivesUpIn : Option OutlinePoint → Type 0
GivesUpIn None = ⊥
GivesUpIn (Some point) = (point.broken ≡ None) × (point.ways.items ≡ [])

-- paths give up at the outline's point v: it has no ways, and nothing is broken there
abbrev pub GivesUp : Outline → ℕ → Type 0
GivesUp o v = GivesUpIn (point_at o v)

-- what the outline says of its point u, the search's point n: what is broken there, and where paths go on or give up
pub record IsPointOf (rules : Rules) (graph : Graph) (found : List Point) (o : Outline) (places : List (Option ℕ))
    (n : ℕ) (point : OutlinePoint) : Type 0 where
  pub broken : IsBrokenAs (code_of_point rules graph found n) point.broken
  pub comes : (v : ℕ) → Contains point.ways.items v → (IsGraphWay found places n v ⊎ GivesUp o v)

-- the outline goes along the way, or its paths stay where they are
abbrev pub GoesAlong : List (Option ℕ) → OutlinePoint → ℕ → Option ℕ → Type 0
GoesAlong places point u None = Unit {0}
GoesAlong places point u (Some m) =
    (v : ℕ) × (place_of places m ≡ Some v) × ((v ≡ u) ⊎ Contains point.ways.items v)

-- each way of the search's point n is one of the outline's point u
abbrev pub GoesOn : List Point → List (Option ℕ) → ℕ → ℕ → OutlinePoint → Type 0
GoesOn found places n u point = (choice : Choice) → GoesAlong places point u (leads_to found n choice)

abbrev pub PassesTo : List (Option ℕ) → ℕ → Option ℕ → Type 0
PassesTo places u None = Unit {0}
PassesTo places u (Some m) = place_of places m ≡ Some u

-- nothing is written for the search's point n, which breaks no rule: all its ways lead to where paths are there
pub record Passes (rules : Rules) (graph : Graph) (found : List Point) (places : List (Option ℕ)) (n u : ℕ) :
    Type 0 where
  pub unbroken : code_of_point rules graph found n ≡ None
  pub ways : (choice : Choice) → PassesTo places u (leads_to found n choice)

-- the search's point n is the outline's point u, or paths pass to it
abbrev pub IsPlace : Rules → Graph → List Point → List (Option ℕ) → List (Option ℕ) → ℕ → Option ℕ → Type 0
IsPlace rules graph found labels places n None = Unit {0}
IsPlace rules graph found labels places n (Some u) =
    (label_of labels u ≡ Some n) ⊎ Passes rules graph found places n u

abbrev pub IsInState : State → Option OutlinePoint → Type 0
IsInState state None = ⊥
IsInState state (Some point) = point.state ≡ state

-- the outline's point u has the state of the search's point
abbrev pub HasStateOf : Rules → Outline → ℕ → Option Point → Type 0
HasStateOf rules o u None = ⊥
HasStateOf rules o u (Some point) = IsInState (state_of rules (contents_of point.store)) (point_at o u)

-- where paths go from the search's point n, they are in the state of that point
abbrev pub HasStateAt : Rules → List Point → Outline → ℕ → Option ℕ → Type 0
HasStateAt rules found o n None = Unit {0}
HasStateAt rules found o n (Some u) = HasStateOf rules o u (slice_get found n)

abbrev pub BeginsIn : List (Option ℕ) → Option OutlinePoint → Type 0
BeginsIn places None = ⊥
BeginsIn places (Some point) = GoesAlong places point 0 (Some 0)

-- the outline's first point is the one where paths begin, or leads there: by the rules of a global lock it locks it
abbrev pub Begins : Outline → List (Option ℕ) → Type 0
Begins o places = BeginsIn places (point_at o 0)

-- the outline's point u is the search's point n; if the outline is whole, each way goes on
pub record PointHolds (rules : Rules) (graph : Graph) (found : List Point) (o : Outline) (places : List (Option ℕ))
    (is_whole : Bool) (u n : ℕ) (point : OutlinePoint) : Type 0 where
  pub is_it : IsPointOf rules graph found o places n point
  pub goes_on : IsTrue is_whole → code_of_point rules graph found n ≡ None → GoesOn found places n u point

-- the outline's point u is the one of the search that it is said to be; if it is none, nothing is broken there
abbrev pub HoldsAs : Rules → Graph → List Point → Outline → List (Option ℕ) → Bool → ℕ → OutlinePoint → Option ℕ
    → Type 0
HoldsAs rules graph found o places is_whole u point None = point.broken ≡ None
HoldsAs rules graph found o places is_whole u point (Some n) =
    PointHolds rules graph found o places is_whole u n point

-- ---- outlines

-- The outline has points of the search, in their states, and ways of theirs; if it has all, then also each way. A point
-- at which paths are led to others, or told apart, is none of the search's.
pub record IsOutlineOf (rules : Rules) (graph : Graph) (found : List Point) (o : Outline) (is_whole : Bool) :
    Type 0 where
  pub labels : List (Option ℕ)
  pub places : List (Option ℕ)
  pub points : (u n : ℕ) (point : OutlinePoint) → point_at o u ≡ Some point → label_of labels u ≡ Some n
      → IsPointOf rules graph found o places n point
  pub others : (u : ℕ) (point : OutlinePoint) → point_at o u ≡ Some point → label_of labels u ≡ None
      → point.broken ≡ None
  pub passed : (n u : ℕ) → place_of places n ≡ Some u → IsPlace rules graph found labels places n (Some u)
  pub states : (n u : ℕ) → place_of places n ≡ Some u → HasStateAt rules found o n (Some u)
  pub begins : IsTrue is_whole → Begins o places
  pub goes_on : IsTrue is_whole → (u n : ℕ) (point : OutlinePoint) → point_at o u ≡ Some point
      → label_of labels u ≡ Some n → code_of_point rules graph found n ≡ None → GoesOn found places n u point
