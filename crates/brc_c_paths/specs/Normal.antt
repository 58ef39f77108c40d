-- The normal form of a store at a node.
use Rattle.std.specs.Prelude.{if◌then◌else◌}
use Rattle.brc_c_store.specs.declared.register.RegisterSet.{RegisterSet}
use Rattle.brc_c_store.specs.Stores.{Contents}
use Rattle.brc_c_graph.specs.declared.graph.Graph.{Graph}
use Rattle.brc_c_graph.specs.declared.node.NodeId.{NodeId}
use Rattle.brc_c_paths.specs.declared.liveness.Liveness.{Liveness}
use Rattle.brc_c_paths.specs.Registers.{difference_of, known_items, items_of}
use Rattle.brc_c_paths.specs.CellsKept.{with_cells_kept}
use Rattle.brc_c_paths.specs.NamesKept.{with_names_kept}
use Rattle.brc_c_paths.specs.Lenders.{with_lenders_forgotten}
use Rattle.brc_c_paths.specs.Order.{order_of}
use Rattle.brc_c_paths.specs.Numbers.{renumbered}
use Rattle.brc_c_paths.specs.Sorted.{with_facts_kept}
use Rattle.brc_c_paths.specs.Settled.{is_settled}

-- the store with the cells and the names that matter from the node on, and without objects out of reach
unfoldable pub with_known_kept : Graph → Liveness → NodeId → Contents → Contents
with_known_kept graph live node c =
    with_lenders_forgotten (with_names_kept graph live node (with_cells_kept live node c))

-- the objects in the order of their names, without those that nothing leads to
unfoldable pub with_objects_ordered : Contents → Contents
with_objects_ordered c = renumbered c (order_of c)

-- of these items, those whose objects are forgotten are stale
unfoldable pub with_items_marked : RegisterSet → Contents → Contents
with_items_marked items c = record c { stale = difference_of items (known_items c) }

-- the store, normal: what no path from the node reads again is forgotten, and the rest has an order of its own
unfoldable pub made_normal : Graph → Liveness → NodeId → Contents → Contents
made_normal graph live node c =
    with_facts_kept live node
    (with_items_marked (items_of c) (with_objects_ordered (with_known_kept graph live node c)))

-- the normal form of a store; one of which this is seen at once is its own
abbrev pub normal_of : Graph → Liveness → NodeId → Contents → Contents
normal_of graph live node c = if is_settled live node c then c else made_normal graph live node c
