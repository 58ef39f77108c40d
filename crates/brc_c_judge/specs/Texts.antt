-- What a text shows.
use Rattle.std.specs.Prelude.{◌≡◌, ℕ, List, [], ◌∷◌, ◌++◌, Contains}
use Rattle.brc_lang.specs.declared.module.Function.{Function}
use Rattle.brc_lang.specs.declared.module.Module.{Module}
use Rattle.brc_lang.specs.declared.check_code.CheckCode.{CheckCode}
use Rattle.brc_lang.specs.Grammar.{Spells}
use Rattle.brc_model.specs.Paths.{IsAcceptable}
use Rattle.brc_model.specs.Safety.{Safe}
use Rattle.brc_check.specs.Refusal.{IsReported}
use Rattle.brc_c_paths.specs.declared.fault.Fault.{Fault}
use Rattle.brc_c_outline.specs.declared.outline.Outline.{Outline}
use Rattle.brc_c_outline.specs.Outlines.{IsBroken, IsUnbroken, Shows}
use Rattle.brc_c_image.specs.declared.image.Text.{Text}
use Rattle.brc_c_judge.specs.declared.judging.Claim.{Claim}

-- it spells a module in which no path reports an error, and whose runs are safe
pub record IsAcceptedText (text : List ℕ) : Type 0 where
  pub «module» : Module
  pub spelled : Spells text «module»
  pub acceptable : IsAcceptable «module»
  pub safe : Safe «module»

-- it spells an accepted module that has exactly the paths of the outline: none of them breaks a rule
pub record IsRightText (text : List ℕ) (o : Outline) : Type 0 where
  pub accepted : IsAcceptedText text
  pub shows : Shows accepted.«module» o
  pub unbroken : IsUnbroken o

-- no path of the outline breaks another rule, or one that another instruction reports
abbrev pub BreaksOnly : Outline → ℕ → CheckCode → Type 0
BreaksOnly o at code = (at' : ℕ) (code' : CheckCode) → IsBroken o at' code' → (at' ≡ at) × (code' ≡ code)

-- it spells a module that has exactly the paths of the outline, one of which breaks this rule, and none another, and in
-- which what is claimed is reported
pub record ShowsClaim (text : List ℕ) (o : Outline) (claim : Claim) : Type 0 where
  pub «module» : Module
  pub spelled : Spells text «module»
  pub shows : Shows «module» o
  pub broken : IsBroken o claim.at claim.code
  pub only : BreaksOnly o claim.at claim.code
  pub function : Function
  pub listed : Contains «module».functions function
  pub reported : IsReported function claim.at claim.code

-- a fault, and a text that shows it
pub record Shown : Type 0 where
  pub fault : Fault
  pub text : Text

-- what is claimed of the text
abbrev pub claim_of : Fault → Text → Claim
claim_of fault text = record { at = text.at; code = fault.code }

-- the text is accepted, and shows its outline
abbrev pub IsAcceptedHere : Text → Type 0
IsAcceptedHere text = IsRightText text.bytes.items text.outline

-- the text shows its fault
abbrev pub IsShown : Shown → Type 0
IsShown it = ShowsClaim it.text.bytes.items it.text.outline (claim_of it.fault it.text)

-- the text shows its fault, which comes after those before
pub record IsConfirmed (it : Shown) (before after : List Shown) : Type 0 where
  pub shown : IsShown it
  pub added : after ≡ before ++ it ∷ []
