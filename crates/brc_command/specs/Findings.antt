-- What is found of the module of a file.
use Rattle.std.specs.Prelude.{◌≡◌, ℕ, ◌+◌, ◌*◌, List, length, take, Option, Some, option_map, position}
use Rattle.std.specs.List.{AllByRecursion}
use Rattle.brc_lang.specs.declared.module.Module.{Module}
use Rattle.brc_lang.specs.Grammar.{Spells}
use Rattle.brc_lang.specs.Fault.{HasFault}
use Rattle.brc_check.specs.declared.refused.Refused.{Refused as Refusal}
use Rattle.brc_check.specs.Refusal.{IsRefusedFor}
use Rattle.brc_explain.specs.Rows.{LeadToRefusal}
use Rattle.brc_command.specs.declared.finding.Finding.{Finding}
use Rattle.brc_command.specs.declared.finding.Finding.TheVariants.{Accepted, Refused, Unreadable, Stopped}
use Rattle.brc_command.specs.declared.finding.Located.{Located}
use Rattle.brc_command.specs.declared.finding.Other.{Other}
use Rattle.brc_command.specs.declared.step_fault.StepFault.TheVariants.{Text, NoMemory}
use Rattle.brc_command.specs.declared.stop.Stop.{Stop}
use Rattle.brc_command.specs.declared.stop.Stop.TheVariants.{UnreadableFile, NoFunction, Fault}
use Rattle.brc_command.specs.Accepted.{instruction_count}
use Rattle.brc_command.specs.Calls.{is_named}
use Rattle.brc_command.specs.Explanations.{IsAccepted, HasOnly, LacksNamed}
use Rattle.brc_command.specs.Lines.{stop_status}

-- The line of the text with an instruction of the function of a number, counted from 1. Above it are the first line,
-- the static lines, the functions before, each with a heading and an end, and the function's own heading and earlier
-- instructions.
abbrev pub line_at : Module → ℕ → ℕ → ℕ
line_at m number at = length m.statics + instruction_count (take number m.functions) + 2 * number + at + 3

-- the line of the instruction at fault
abbrev pub line_of : Module → Refusal → Option ℕ
line_of m r = option_map (λ number. line_at m number r.at) (position (is_named r.function) m.functions)

-- a function of the module is refused, and this is where
pub record IsOther (m : Module) (other : Other) : Type 0 where
  pub refusal : IsRefusedFor m.functions other.refused
  pub line : other.line ≡ line_of m other.refused

-- the module that the text spells is refused, and this is where, by which paths; other functions of it are refused too
pub record IsLocated (text : List ℕ) (found : Located) : Type 0 where
  pub m : Module
  pub spelled : Spells text m
  pub refusal : IsRefusedFor m.functions found.refused
  pub line : found.line ≡ line_of m found.refused
  pub steps : LeadToRefusal m.functions found.refused found.steps
  pub others : AllByRecursion (IsOther m) found.others

-- the text spells a module with the function that was asked for, if one was
abbrev pub HasOnlyIn : List ℕ → Option (List ℕ) → Type 0
HasOnlyIn text only = (m : Module) × Spells text m × HasOnly m only

-- why nothing is known of the module of a text
abbrev pub IsUnknown : List ℕ → Option (List ℕ) → Stop → Type 0
IsUnknown text only (NoFunction name) = (only ≡ Some name.now) × LacksNamed text name.now
IsUnknown text only (Fault (Text e)) = HasFault text e.line e.code
IsUnknown text only (Fault NoMemory) = Unit {0}
IsUnknown text only stop = ⊥

-- this is found of a text
abbrev pub IsFoundIn : List ℕ → Option (List ℕ) → Finding → Type 0
IsFoundIn text only Accepted = ((m : Module) × IsAccepted text m) × HasOnlyIn text only
IsFoundIn text only (Refused found) = IsLocated text found × HasOnlyIn text only
IsFoundIn text only (Unreadable found) = HasFault text found.fault.line found.fault.code
IsFoundIn text only (Stopped stop) = IsUnknown text only stop

-- This is found of a file. `gives path bytes`: the loader may give these bytes for the path; `lacks path`: it may
-- answer that the path can't be read.
abbrev pub IsFinding : (List ℕ → List ℕ → Type 0) → (List ℕ → Type 0) → List ℕ → Option (List ℕ) → Finding → Type 0
IsFinding gives lacks file only (Stopped UnreadableFile) = lacks file
IsFinding gives lacks file only (Stopped (Fault NoMemory)) = Unit {0}
IsFinding gives lacks file only finding = (text : List ℕ) × gives file text × IsFoundIn text only finding

abbrev pub finding_status : Finding → ℕ
finding_status Accepted = 0
finding_status (Refused found) = 1
finding_status (Unreadable found) = 2
finding_status (Stopped stop) = stop_status stop
