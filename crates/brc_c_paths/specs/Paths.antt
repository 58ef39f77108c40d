-- The paths of a graph: in which stores they come to its nodes, and which rules they break there.
use Rattle.std.specs.Prelude.{◌≡◌, ℕ, nat_lt, if◌then◌else◌, Bool, true, false, List, length, fold, map}
use Rattle.std.specs.Prelude.{Option, None, Some}
use Rattle.brc_lang.specs.declared.check_code.CheckCode.{CheckCode}
use Rattle.brc_c_store.specs.declared.event.Choice.{Choice}
use Rattle.brc_c_store.specs.declared.event.Event.{Event}
use Rattle.brc_c_store.specs.declared.event.Event.TheVariants.{EndItems, Lock, Unlock, Detach}
use Rattle.brc_c_store.specs.declared.register.RegisterSet.{RegisterSet}
use Rattle.brc_c_store.specs.declared.rules.Rules.{Rules}
use Rattle.brc_c_store.specs.Registers.{no_registers, union_of}
use Rattle.brc_c_store.specs.Stores.{Contents, empty_contents, owned_registers}
use Rattle.brc_c_store.specs.Questions.{Outcome, Never, TooMany, Goes}
use Rattle.brc_c_store.specs.Faults.{faults_of}
use Rattle.brc_c_store.specs.After.{after_of}
use Rattle.brc_c_graph.specs.declared.graph.Graph.{Graph}
use Rattle.brc_c_graph.specs.declared.node.Node.{Node}
use Rattle.brc_c_graph.specs.declared.node.NodeId.{NodeId}
use Rattle.brc_c_graph.specs.Nodes.{node_at, way_of}
use Rattle.brc_c_paths.specs.declared.fault.Step.{Step}
use Rattle.brc_c_paths.specs.declared.liveness.Liveness.{Liveness}
use Rattle.brc_c_paths.specs.Registers.{difference_of, items_of}
use Rattle.brc_c_paths.specs.Normal.{normal_of}

-- a node, and a store in which a path is there
pub record GraphPoint : Type 0 where
  pub node : NodeId
  pub store : Contents

-- where a path goes after an event
pub data GraphWay : Type 0 where
  -- no path goes this way
  Nowhere : GraphWay
  -- too many references are owned, or too many sections open: nothing is said of such a path
  Exceeds : GraphWay
  To : GraphPoint → GraphWay

-- the end of a path
pub data GraphEnd : Type 0 where
  At : GraphPoint → GraphEnd
  -- the call has ended, or no path goes this way
  Ended : GraphEnd
  -- the event of this node breaks this rule
  Breaks : NodeId → CheckCode → GraphEnd
  -- nothing is said of the path from here on
  NotFollowed : GraphEnd

-- ---- events

-- the registers of forgotten items are emptied before an event comes
abbrev pub emptied : Contents → Contents
emptied c = record c { stale = no_registers }

abbrev pub code_in : Rules → Option Node → Contents → Option CheckCode
code_in rules None c = None
code_in rules (Some node) c = faults_of rules node.event c

-- the rule that the point's event breaks, if any
abbrev pub code_at : Rules → Graph → GraphPoint → Option CheckCode
code_at rules graph p = code_in rules (node_at graph p.node) (emptied p.store)

-- whether what is borrowed ends by such an event, if anything does: the text gives the lock back there
abbrev pub ends_items : Event → Bool
ends_items EndItems = true
ends_items (Lock first second) = true
ends_items Unlock = true
ends_items Detach = true
ends_items _ = false

-- the registers that have an item before an event, and neither an item nor a reference after it
abbrev pub lost_items : Contents → Contents → RegisterSet
lost_items before after =
    difference_of (difference_of (items_of before) (items_of after)) (owned_registers after)

-- items that aren't known any more are forgotten: their registers have to be emptied
abbrev pub with_forgotten : Event → Contents → Contents → Contents
with_forgotten event before after =
    if ends_items event then after
    else record after { stale = union_of after.stale (lost_items before after) }

-- ---- ways

-- a path comes to a node after an event, in the normal form of the store
abbrev pub arrival : Graph → Liveness → Event → Contents → NodeId → Contents → GraphPoint
arrival graph live event before to after =
    record { node = to; store = normal_of graph live to (with_forgotten event before after) }

-- how many critical sections may be open at once: a loop that opens one in each pass has no end
abbrev pub most_sections : ℕ
most_sections = 8

abbrev pub way_after : Graph → Liveness → Event → Contents → NodeId → Outcome → GraphWay
way_after graph live event before to Never = Nowhere
way_after graph live event before to TooMany = Exceeds
way_after graph live event before to (Goes after) =
    if nat_lt most_sections (length after.sections) then Exceeds
    else To (arrival graph live event before to after)

abbrev pub way_along : Rules → Graph → Liveness → Event → Contents → Choice → Option NodeId → GraphWay
way_along rules graph live event before choice None = Nowhere
way_along rules graph live event before choice (Some to) =
    way_after graph live event before to (after_of rules event choice before)

abbrev pub way_of_node : Rules → Graph → Liveness → Option Node → Contents → Choice → GraphWay
way_of_node rules graph live None before choice = Nowhere
way_of_node rules graph live (Some node) before choice =
    way_along rules graph live node.event before choice (way_of node.ways choice)

-- where a path goes from a point by a choice
abbrev pub way_from : Rules → Graph → Liveness → GraphPoint → Choice → GraphWay
way_from rules graph live p choice =
    way_of_node rules graph live (node_at graph p.node) (emptied p.store) choice

-- ---- paths

abbrev pub arrives_with : GraphPoint → Option CheckCode → GraphEnd
arrives_with p None = At p
arrives_with p (Some code) = Breaks p.node code

-- a path comes to a point, whose event may break a rule
abbrev pub arrives : Rules → Graph → GraphPoint → GraphEnd
arrives rules graph p = arrives_with p (code_at rules graph p)

abbrev pub goes : Rules → Graph → GraphWay → GraphEnd
goes rules graph Nowhere = Ended
goes rules graph Exceeds = NotFollowed
goes rules graph (To p) = arrives rules graph p

-- the path goes on by one choice; a path that has ended, or broken a rule, stays where it is
abbrev pub follow : Rules → Graph → Liveness → GraphEnd → Choice → GraphEnd
follow rules graph live (At p) choice = goes rules graph (way_from rules graph live p choice)
follow rules graph live Ended choice = Ended
follow rules graph live (Breaks node code) choice = Breaks node code
follow rules graph live NotFollowed choice = NotFollowed

-- where each path begins: at the first node, with nothing known
abbrev pub entry_point : GraphPoint
entry_point = record { node = record { 0 = 0 }; store = empty_contents }

-- the end of the path that makes these choices, one after another, from the entry
abbrev pub graph_end : Rules → Graph → Liveness → List Choice → GraphEnd
graph_end rules graph live choices = fold (follow rules graph live) (arrives rules graph entry_point) choices

-- the choices of a path's steps
abbrev pub choices_of : List Step → List Choice
choices_of steps = map (λ step. step.choice) steps

-- ---- what is said of a graph

-- some path breaks this rule at this node
pub record PathBreaks (rules : Rules) (graph : Graph) (live : Liveness) (node : NodeId) (code : CheckCode) :
    Type 0 where
  pub choices : List Choice
  pub breaks : graph_end rules graph live choices ≡ Breaks node code

-- the path is followed, and breaks no rule
abbrev pub IsUnbroken : GraphEnd → Type 0
IsUnbroken (At p) = Unit {0}
IsUnbroken Ended = Unit {0}
IsUnbroken (Breaks node code) = ⊥
IsUnbroken NotFollowed = ⊥

-- no path breaks a rule, and each is followed to its end
abbrev pub IsRightGraph : Rules → Graph → Liveness → Type 0
IsRightGraph rules graph live = (choices : List Choice) → IsUnbroken (graph_end rules graph live choices)
