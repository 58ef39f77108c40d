-- What an image says of the graph, and the verdicts on its texts of these, are together the verdict on the function.
use Rattle.std.proofs.Common.{List, sym, subst}
use Rattle.brc_c_store.specs.declared.rules.Rules.{Rules}
use Rattle.brc_c_graph.specs.declared.graph.Graph.{Graph}
use Rattle.brc_c_paths.specs.declared.fault.Fault.{Fault}
use Rattle.brc_c_image.specs.declared.image.Text.{Text}
use Rattle.brc_c_image.specs.Images.{IsRightImage, IsWrongImage}
use Rattle.brc_c_judge.specs.declared.verdict.Verdict.{Verdict}
use Rattle.brc_c_judge.specs.declared.verdict.Verdict.TheVariants.{Right, Wrong, TooLarge, Unconfirmed, NoImage}
use Rattle.brc_c_judge.specs.Verdicts.{AreAccepted, IsVerdictOf, IsOfRight, IsOfFaults, faults_in}

pub verdict_of_right : (rules : Rules) (graph : Graph) (texts : List Text) → IsRightImage rules graph texts
    → (verdict : Verdict) → IsOfRight texts verdict → IsVerdictOf rules graph verdict
verdict_of_right rules graph texts image (Right first others) h =
    (subst (IsRightImage rules graph) (sym h.0) image, subst AreAccepted (sym h.0) h.1)
verdict_of_right rules graph texts image (Wrong confirmed) h = absurd h
verdict_of_right rules graph texts image (TooLarge size) h = tt
verdict_of_right rules graph texts image (Unconfirmed faults) h = tt
verdict_of_right rules graph texts image NoImage h = tt

pub verdict_of_faults : (rules : Rules) (graph : Graph) (faults : List Fault) (texts : List Text)
    → IsWrongImage rules graph faults texts → (verdict : Verdict) → IsOfFaults faults texts verdict
    → IsVerdictOf rules graph verdict
verdict_of_faults rules graph faults texts image (Right first others) h = absurd h
verdict_of_faults rules graph faults texts image (Wrong confirmed) h = (
  subst (IsWrongImage rules graph (faults_in confirmed.items)) (sym h.1)
      (subst (λ (fs : List Fault). IsWrongImage rules graph fs texts) (sym h.0) image),
  h.2,
)
verdict_of_faults rules graph faults texts image (TooLarge size) h = tt
verdict_of_faults rules graph faults texts image (Unconfirmed others) h = tt
verdict_of_faults rules graph faults texts image NoImage h = tt
