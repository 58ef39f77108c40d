-- The nodes of a graph, and where paths go on from them.
use Rattle.std.specs.Prelude.{ℕ, List, Bool, true, false, Option, None, Some, slice_get}
use Rattle.brc_c_store.specs.declared.event.Choice.{Choice}
use Rattle.brc_c_store.specs.declared.event.Choice.TheVariants.{Yes, No, Missing}
use Rattle.brc_c_store.specs.declared.value.Local.{Local}
use Rattle.brc_c_graph.specs.declared.graph.Graph.{Graph}
use Rattle.brc_c_graph.specs.declared.local_name.LocalName.{LocalName}
use Rattle.brc_c_graph.specs.declared.node.Node.{Node}
use Rattle.brc_c_graph.specs.declared.node.NodeId.{NodeId}
use Rattle.brc_c_graph.specs.declared.node.Ways.{Ways}

-- the node of this number
abbrev pub node_at : Graph → NodeId → Option Node
node_at graph id = slice_get graph.nodes.items id.0

-- where a path goes on after a choice
abbrev pub way_of : Ways → Choice → Option NodeId
way_of ways Yes = ways.yes
way_of ways No = ways.no
way_of ways Missing = ways.missing

-- what a name is in the source
abbrev pub local_at : Graph → Local → Option LocalName
local_at graph local = slice_get graph.locals.items local.0
