-- What an image says of the paths of its graph.
use Rattle.std.specs.Prelude.{Bool, true, false, List, Contains}
use Rattle.brc_c_store.specs.declared.rules.Rules.{Rules}
use Rattle.brc_c_graph.specs.declared.graph.Graph.{Graph}
use Rattle.brc_c_paths.specs.declared.fault.Fault.{Fault}
use Rattle.brc_c_paths.specs.declared.liveness.Liveness.{Liveness}
use Rattle.brc_c_paths.specs.declared.point.Point.{Point}
use Rattle.brc_c_paths.specs.Closed.{IsSearched}
use Rattle.brc_c_paths.specs.Paths.{IsRightGraph}
use Rattle.brc_c_paths.specs.Faults.{AreFaultsOf}
use Rattle.brc_c_image.specs.declared.image.Image.{Image}
use Rattle.brc_c_image.specs.declared.image.Image.TheVariants.{TooLarge, Right, Wrong, Unmatched}
use Rattle.brc_c_image.specs.declared.image.Text.{Text}
use Rattle.brc_c_image.specs.GraphOutlines.{IsOutlineOf}

-- a search has found all points of the graph's paths, and the outline of each text has these, or some of them
pub record AreOutlinesOf (rules : Rules) (graph : Graph) (live : Liveness) (texts : List Text) (exceeds : Bool) :
    Type 0 where
  pub found : List Point
  pub searched : IsSearched rules graph live found exceeds
  pub outlines : (text : Text) → Contains texts text → IsOutlineOf rules graph found text.outline text.is_whole

-- no path breaks a rule
pub record IsRightImage (rules : Rules) (graph : Graph) (texts : List Text) : Type 0 where
  pub live : Liveness
  pub right : IsRightGraph rules graph live
  pub outlines : AreOutlinesOf rules graph live texts false

-- the faults are just the rules that paths break
pub record IsWrongImage (rules : Rules) (graph : Graph) (faults : List Fault) (texts : List Text) : Type 0 where
  pub live : Liveness
  pub broken : AreFaultsOf rules graph live faults
  pub outlines : AreOutlinesOf rules graph live texts true

abbrev pub IsImageOf : Rules → Graph → Image → Type 0
IsImageOf rules graph (TooLarge size) = Unit {0}
IsImageOf rules graph (Right texts) = IsRightImage rules graph texts.items
IsImageOf rules graph (Wrong faults texts) = IsWrongImage rules graph faults.items texts.items
IsImageOf rules graph Unmatched = Unit {0}
