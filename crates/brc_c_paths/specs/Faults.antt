-- The faults that are found of a graph.
use Rattle.std.specs.Prelude.{List, Contains}
use Rattle.brc_lang.specs.declared.check_code.CheckCode.{CheckCode}
use Rattle.brc_c_store.specs.declared.rules.Rules.{Rules}
use Rattle.brc_c_graph.specs.declared.graph.Graph.{Graph}
use Rattle.brc_c_graph.specs.declared.node.NodeId.{NodeId}
use Rattle.brc_c_paths.specs.declared.fault.Fault.{Fault}
use Rattle.brc_c_paths.specs.declared.liveness.Liveness.{Liveness}
use Rattle.brc_c_paths.specs.Paths.{PathBreaks}
use Rattle.brc_c_paths.specs.Closed.{IsListed, IsPathOf}

-- they are just the rules that paths break: the steps of each are a path that does, and each that a path breaks at a
-- node is among them
pub record AreFaultsOf (rules : Rules) (graph : Graph) (live : Liveness) (faults : List Fault) : Type 0 where
  pub paths : (fault : Fault) → Contains faults fault → IsPathOf rules graph live fault
  pub listed : (node : NodeId) (code : CheckCode) → PathBreaks rules graph live node code → IsListed faults node code
