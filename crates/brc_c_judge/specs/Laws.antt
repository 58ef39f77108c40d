-- What a verdict says of the walks along its texts and of the paths of the graph.
use Rattle.std.specs.Prelude.{◌≡◌, ℕ, List, Contains}
use Rattle.brc_lang.specs.declared.check_code.CheckCode.{CheckCode}
use Rattle.brc_model.specs.Paths.{ReportsCode}
use Rattle.brc_c_store.specs.declared.rules.Rules.{Rules}
use Rattle.brc_c_graph.specs.declared.graph.Graph.{Graph}
use Rattle.brc_c_graph.specs.declared.node.NodeId.{NodeId}
use Rattle.brc_c_paths.specs.declared.liveness.Liveness.{Liveness}
use Rattle.brc_c_paths.specs.Paths.{PathBreaks}
use Rattle.brc_c_paths.specs.Faults.{AreFaultsOf}
use Rattle.brc_c_judge.specs.Texts.{Shown, IsShown}
use Rattle.brc_c_judge.specs.Verdicts.{AreShown, faults_in}

-- a fault of this rule at this node, and its text: a walk along it reports the rule, at the instruction that is named
pub record HasItsWalk (confirmed : List Shown) (node : NodeId) (code : CheckCode) : Type 0 where
  pub it : Shown
  pub listed : Contains confirmed it
  pub there : it.fault.node ≡ node
  pub same : it.fault.code ≡ code
  pub shown : IsShown it
  pub reports : ReportsCode shown.shows.function it.text.at code

-- each rule that a path of the graph breaks at a node is reported by a walk along the text of such a fault
abbrev pub EveryGraphPathHasItsWalk : Type 0
EveryGraphPathHasItsWalk = (rules : Rules) (graph : Graph) (live : Liveness) (confirmed : List Shown)
    → AreFaultsOf rules graph live (faults_in confirmed) → AreShown confirmed → (node : NodeId) (code : CheckCode)
    → PathBreaks rules graph live node code → HasItsWalk confirmed node code

-- a walk reports what the text is to show, and a path of the graph breaks that rule at the fault's node
pub record IsOfItsFault (rules : Rules) (graph : Graph) (live : Liveness) (it : Shown) (at : ℕ) (code : CheckCode) :
    Type 0 where
  pub there : at ≡ it.text.at
  pub same : code ≡ it.fault.code
  pub breaks : PathBreaks rules graph live it.fault.node code

-- whatever a walk along the text of a fault reports, a path of the graph breaks that rule at the fault's node
abbrev pub EveryWalkIsAGraphPath : Type 0
EveryWalkIsAGraphPath = (rules : Rules) (graph : Graph) (live : Liveness) (confirmed : List Shown)
    → AreFaultsOf rules graph live (faults_in confirmed) → (it : Shown) → Contains confirmed it → (shown : IsShown it)
    → (at : ℕ) (code : CheckCode) → ReportsCode shown.shows.function at code
    → IsOfItsFault rules graph live it at code
