-- What is explained of a module's text, and how the explanation ends.
use Rattle.std.specs.Prelude.{◌≡◌, ℕ, true, false, List, Option, None, Some, IfSome, option_map}
use Rattle.std.specs.List.{position_or_len}
use Rattle.brc_lang.specs.declared.fault.ReadFault.{ReadFault}
use Rattle.brc_lang.specs.declared.module.Module.{Module}
use Rattle.brc_lang.specs.Grammar.{Spells}
use Rattle.brc_lang.specs.Fault.{HasFault}
use Rattle.brc_model.specs.Paths.{IsAcceptable}
use Rattle.brc_check.specs.declared.refused.Refused.{Refused}
use Rattle.brc_check.specs.Refusal.{IsRefusedFor}
use Rattle.brc_pages.specs.declared.topic.Topic.{Topic}
use Rattle.brc_command.specs.declared.step_fault.StepFault.{StepFault}
use Rattle.brc_command.specs.declared.step_fault.StepFault.TheVariants.{Text, NoMemory, Refused as RefusedFor}
use Rattle.brc_command.specs.declared.stop.Stop.{Stop}
use Rattle.brc_command.specs.declared.stop.Stop.TheVariants.{NoFunction, Fault}
use Rattle.brc_command.specs.Calls.{has_function, is_named}

-- the text spells an accepted module
pub record IsAccepted (text : List ℕ) (m : Module) : Type 0 where
  pub spelled : Spells text m
  pub accepted : IsAcceptable m

-- the module has the function of this name, if one is given
abbrev pub HasOnly : Module → Option (List ℕ) → Type 0
HasOnly m only = IfSome only (λ name. has_function m name ≡ true)

-- the text spells a module that has no function of the name
abbrev pub LacksNamed : List ℕ → List ℕ → Type 0
LacksNamed text name = (m : Module) × Spells text m × (has_function m name ≡ false)

-- the module lacks the function for which an explanation asks
abbrev pub IsUnknownIn : Module → Option (List ℕ) → Stop → Type 0
IsUnknownIn m only (NoFunction name) = (only ≡ Some name.now) × (has_function m name.now ≡ false)
IsUnknownIn m only _ = ⊥

-- ---- what is explained, and what is said of it

-- the number of the function for which an explanation asks, if it asks for one
abbrev pub number_in : Module → Option (List ℕ) → Option ℕ
number_in m only = option_map (λ name. position_or_len (is_named name) m.functions) only

-- what an explanation is about: a code; bytes that can't be read; a module, with the number of the function for which
-- it asks; or bytes that spell a schedule, or have a fault as one
pub data Subject : Type 0 where
  Code : (topic : Topic) → Subject
  UnreadableText : (bytes : List ℕ) (fault : ReadFault) → Subject
  AcceptedModule : (m : Module) (only : Option ℕ) → Subject
  RefusedModule : (m : Module) (refused : Refused) (only : Option ℕ) → Subject
  ScheduleText : (bytes : List ℕ) (fault : Option ReadFault) → Subject

-- the subject of an explanation of bytes as a module
abbrev pub IsAbout : List ℕ → Option (List ℕ) → Subject → Type 0
IsAbout bytes only (Code topic) = ⊥
IsAbout bytes only (UnreadableText text e) = (text ≡ bytes) × HasFault bytes e.line e.code
IsAbout bytes only (AcceptedModule m number) = IsAccepted bytes m × HasOnly m only × (number ≡ number_in m only)
IsAbout bytes only (RefusedModule m r number) = Spells bytes m × IsRefusedFor m.functions r
    × (number ≡ number_in m only)
IsAbout bytes only (ScheduleText text fault) = ⊥

-- the fault with which an explanation of the subject ends, if it is a module's
abbrev pub fault_of : Subject → Option StepFault
fault_of (Code topic) = None
fault_of (UnreadableText text e) = Some (Text e)
fault_of (AcceptedModule m number) = None
fault_of (RefusedModule m r number) = Some (RefusedFor r)
fault_of (ScheduleText text fault) = None

-- The text is what an explainer says of the bytes, and the explanation ends with the fault. `says subject text`: the
-- explainer may say so of the subject.
pub record IsExplained (says : Subject → List ℕ → Type 0) (bytes : List ℕ) (only : Option (List ℕ))
    (fault : Option StepFault) (text : List ℕ) : Type 0 where
  pub subject : Subject
  pub about : IsAbout bytes only subject
  pub ends : fault ≡ fault_of subject
  pub said : says subject text

-- an explainer of whose words nothing is said
abbrev pub says_anything : Subject → List ℕ → Type 0
says_anything subject text = Unit {0}

-- the module lacks the function for which the explanation asks, or memory was refused
abbrev pub IsUnexplained : List ℕ → Option (List ℕ) → Stop → Type 0
IsUnexplained text only (NoFunction name) = (only ≡ Some name.now) × LacksNamed text name.now
IsUnexplained text only (Fault NoMemory) = Unit {0}
IsUnexplained text only _ = ⊥
