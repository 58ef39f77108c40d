-- What a verdict says of a text, and of a function.
use Rattle.std.specs.Prelude.{◌≡◌, ℕ, List, ◌∷◌, map, Option, Some, Contains}
use Rattle.brc_c_store.specs.declared.rules.Rules.{Rules}
use Rattle.brc_c_graph.specs.declared.graph.Graph.{Graph}
use Rattle.brc_c_paths.specs.declared.fault.Fault.{Fault}
use Rattle.brc_c_outline.specs.declared.outline.Outline.{Outline}
use Rattle.brc_c_image.specs.declared.image.Text.{Text}
use Rattle.brc_c_image.specs.Images.{IsRightImage, IsWrongImage}
use Rattle.brc_c_judge.specs.declared.judging.Claim.{Claim}
use Rattle.brc_c_judge.specs.declared.judging.Judged.{Judged}
use Rattle.brc_c_judge.specs.declared.judging.Judged.TheVariants.{Right, Wrong, Unconfirmed, NoImage}
use Rattle.brc_c_judge.specs.declared.verdict.Verdict.{Verdict}
use Rattle.brc_c_judge.specs.declared.verdict.Verdict.TheVariants as verdicts
use Rattle.brc_c_judge.specs.declared.verdict.Found.{Found}
use Rattle.brc_c_judge.specs.declared.verdict.Found.TheVariants as found
use Rattle.brc_c_judge.specs.Texts.{IsAcceptedText, IsRightText, ShowsClaim, Shown, IsAcceptedHere, IsShown}

-- what a verdict says of a text that is to show the outline, and of what is claimed of it
abbrev pub IsVerdictOn : List ℕ → Outline → Option Claim → Judged → Type 0
IsVerdictOn text o claim Right = IsRightText text o
IsVerdictOn text o claim (Wrong f) = (claim ≡ Some f.claim) × ShowsClaim text o f.claim
IsVerdictOn text o claim Unconfirmed = IsAcceptedText text → ⊥
IsVerdictOn text o claim NoImage = Unit {0}

-- ---- functions

-- each text is accepted, and shows its outline
abbrev pub AreAccepted : List Text → Type 0
AreAccepted texts = (text : Text) → Contains texts text → IsAcceptedHere text

-- each text shows its fault
abbrev pub AreShown : List Shown → Type 0
AreShown shown = (it : Shown) → Contains shown it → IsShown it

-- the faults that are shown
abbrev pub faults_in : List Shown → List Fault
faults_in shown = map (λ it. it.fault) shown

-- the texts that show them
abbrev pub texts_in : List Shown → List Text
texts_in shown = map (λ it. it.text) shown

-- What a verdict says of a function's graph and of its texts. *Right*: no path breaks a rule, and the checker accepts
-- each text. *Wrong*: the faults are just the rules that paths break, and of each a text shows it, and nothing else.
abbrev pub IsVerdictOf : Rules → Graph → Verdict → Type 0
IsVerdictOf rules graph (verdicts.Right first others) =
    IsRightImage rules graph (first ∷ others.items) × AreAccepted (first ∷ others.items)
IsVerdictOf rules graph (verdicts.Wrong confirmed) =
    IsWrongImage rules graph (faults_in confirmed.items) (texts_in confirmed.items) × AreShown confirmed.items
IsVerdictOf rules graph (verdicts.TooLarge size) = Unit {0}
IsVerdictOf rules graph (verdicts.Unconfirmed faults) = Unit {0}
IsVerdictOf rules graph verdicts.NoImage = Unit {0}

-- the verdict on texts that are to be accepted: it names no fault
abbrev pub IsOfRight : List Text → Verdict → Type 0
IsOfRight texts (verdicts.Right first others) = (first ∷ others.items ≡ texts) × AreAccepted texts
IsOfRight texts (verdicts.Wrong confirmed) = ⊥
IsOfRight texts _ = Unit {0}

-- the verdict on faults, each with a text: a wrong one has just these
abbrev pub IsOfFaults : List Fault → List Text → Verdict → Type 0
IsOfFaults faults texts (verdicts.Right first others) = ⊥
IsOfFaults faults texts (verdicts.Wrong confirmed) =
    (faults_in confirmed.items ≡ faults) × (texts_in confirmed.items ≡ texts) × AreShown confirmed.items
IsOfFaults faults texts _ = Unit {0}

-- a text that is found accepted is the one that was asked about
abbrev pub IsFound : Text → Found → Type 0
IsFound text (found.Accepted accepted) = (accepted ≡ text) × IsAcceptedHere text
IsFound text _ = Unit {0}
