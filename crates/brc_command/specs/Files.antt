-- What is written of several files, one after another, and the exit status.
use Rattle.std.specs.Prelude.{◌≡◌, ◌≢◌, ◌⊎◌, ℕ, max, Bool, true, false, List, [], ◌∷◌, ◌++◌, map, flat_map, Option}
use Rattle.std.specs.Prelude.{length, nat_lt, option_map, codes}
use Rattle.std.specs.Borrow.{Bor}
use Rattle.std.specs.Io.KnownBytes.{Appends}
use Rattle.std.specs.List.{AllByRecursion}
use Rattle.brc_lang.specs.declared.module.Function.{Function}
use Rattle.brc_lang.specs.declared.module.Module.{Module}
use Rattle.brc_lang.specs.Grammar.{Spells}
use Rattle.brc_check.specs.declared.refused.Refused.{Refused}
use Rattle.brc_check.specs.Refusal.{IsRefusedFor}
use Rattle.brc_command.specs.declared.files.Format.{Format}
use Rattle.brc_command.specs.declared.files.Format.TheVariants.{Text, All, Json}
use Rattle.brc_command.specs.declared.finding.Finding.{Finding}
use Rattle.brc_command.specs.declared.step_fault.StepFault.TheVariants.{NoMemory, Output}
use Rattle.brc_command.specs.declared.stop.Stop.{Stop}
use Rattle.brc_command.specs.declared.stop.Stop.TheVariants.{Fault}
use Rattle.brc_command.specs.Commands.{HasCheckReport, IsModuleReason}
use Rattle.brc_command.specs.Findings.{IsFinding, finding_status}
use Rattle.brc_command.specs.Lines.{refused_text, stop_text, stop_status}
use Rattle.brc_command.specs.Objects.{IsObjectLine}

-- what is written of one file on standard output and on standard error, and its status
pub record Outcome : Type 0 where
  pub file : List ℕ
  pub report : List ℕ
  pub line : List ℕ
  pub status : ℕ

-- what a line begins with: the file's name, if there are several files
abbrev pub prefix : Bool → List ℕ → List ℕ
prefix true file = file ++ codes ": "
prefix false file = []

abbrev pub IsPrefix : List ℕ → List ℕ → Type 0
IsPrefix front whole = (rest : List ℕ) × (whole ≡ front ++ rest)

-- ---- one file

-- the report is whole, and nothing is on standard error
pub record IsReported (is_report : List ℕ → Type 0) (status : ℕ) (o : Outcome) : Type 0 where
  pub whole : is_report o.report
  pub silent : o.line ≡ []
  pub same_status : o.status ≡ status

-- a reason gives the status and the line, of which at least a prefix is on standard error; a prefix of the report is
-- written if its writer returned an error, and nothing of it otherwise
pub record IsStoppedAt (named : Bool) (is_reason : Stop → Type 0) (is_report : List ℕ → Type 0) (o : Outcome)
    : Type 0 where
  pub stop : Stop
  pub reason : is_reason stop
  pub same_status : o.status ≡ stop_status stop
  pub line : IsPrefix o.line (prefix named o.file ++ stop_text stop)
  pub unwritten : stop ≢ Fault Output → o.report ≡ []
  pub begun : stop ≡ Fault Output → (text : List ℕ) × is_report text × IsPrefix o.report text

-- the line about an accepted module
abbrev pub IsNamedLine : (List ℕ → List ℕ → Type 0) → Bool → List ℕ → List ℕ → Type 0
IsNamedLine gives named file report = (text : List ℕ) × HasCheckReport gives file text
    × (report ≡ prefix named file ++ text)

-- the line with the object of what is found
abbrev pub IsObject : (List ℕ → List ℕ → Type 0) → (List ℕ → Type 0) → List ℕ → Option (List ℕ) → Finding → List ℕ
    → Type 0
IsObject gives lacks file only finding text = IsFinding gives lacks file only finding × IsObjectLine file finding text

abbrev pub IsSomeObject : (List ℕ → List ℕ → Type 0) → (List ℕ → Type 0) → List ℕ → Option (List ℕ) → List ℕ → Type 0
IsSomeObject gives lacks file only text = (finding : Finding) × IsObject gives lacks file only finding text

-- an object isn't written whole for want of memory, or because of an error of the writer
abbrev pub IsWriteReason : Stop → Type 0
IsWriteReason stop = (stop ≡ Fault NoMemory) ⊎ (stop ≡ Fault Output)

-- a line for each refusal, in their order
abbrev pub refusal_lines : Bool → List ℕ → List Refused → List ℕ
refusal_lines named file refusals = flat_map (λ r. prefix named file ++ refused_text r) refusals

-- the line is that of a refusal of one of the functions
abbrev pub IsRefusalLine : List Function → Bool → List ℕ → List ℕ → Type 0
IsRefusalLine functions named file text = (r : Refused) × IsRefusedFor functions r
    × (text ≡ prefix named file ++ refused_text r)

-- the lines of a refusal and of others, each of one of the functions
pub record AreRefusalLines (functions : List Function) (named : Bool) (file text : List ℕ) : Type 0 where
  pub first : Refused
  pub is : IsRefusedFor functions first
  pub others : List Refused
  pub each : AllByRecursion (IsRefusedFor functions) others
  pub lines : text ≡ (prefix named file ++ refused_text first) ++ refusal_lines named file others

-- the lines of refusals of the file's module
pub record AreRefusalLinesOf (gives : List ℕ → List ℕ → Type 0) (named : Bool) (file text : List ℕ) : Type 0 where
  pub module_text : List ℕ
  pub m : Module
  pub given : gives file module_text
  pub spelled : Spells module_text m
  pub lines : AreRefusalLines m.functions named file text

-- the module is refused; at least a prefix of the lines of its refusals is on standard error
pub record IsRefusedIn (gives : List ℕ → List ℕ → Type 0) (named : Bool) (o : Outcome) : Type 0 where
  pub text : List ℕ
  pub lines : AreRefusalLinesOf gives named o.file text
  pub same_status : o.status ≡ 1
  pub line : IsPrefix o.line text
  pub unwritten : o.report ≡ []

abbrev pub IsOutcome : (List ℕ → List ℕ → Type 0) → (List ℕ → Type 0) → Bool → Format → Outcome → Type 0
IsOutcome gives lacks named Text o = IsReported (IsNamedLine gives named o.file) 0 o
    ⊎ IsStoppedAt named (IsModuleReason gives lacks o.file) (IsNamedLine gives named o.file) o
IsOutcome gives lacks named All o = IsReported (IsNamedLine gives named o.file) 0 o
    ⊎ IsStoppedAt named (IsModuleReason gives lacks o.file) (IsNamedLine gives named o.file) o
    ⊎ IsRefusedIn gives named o
IsOutcome gives lacks named (Json function) o =
    ((finding : Finding) × IsReported (IsObject gives lacks o.file (option_map (λ name. name.now) function) finding)
    (finding_status finding) o)
    ⊎ IsStoppedAt named IsWriteReason (IsSomeObject gives lacks o.file (option_map (λ name. name.now) function)) o

-- this is written of the file
pub record IsWritten (is_outcome : Outcome → Type 0) (file : List ℕ) (old new err_old err_new : Option (List ℕ))
    (status : ℕ) : Type 0 where
  pub outcome : Outcome
  pub same_file : outcome.file ≡ file
  pub is : is_outcome outcome
  pub reported : Appends old new outcome.report
  pub lines : Appends err_old err_new outcome.line
  pub same_status : outcome.status ≡ status

-- ---- all files

abbrev pub are_several : List (Bor (List ℕ)) → Bool
are_several files = nat_lt 1 (length files)

abbrev pub greatest : List ℕ → ℕ
greatest [] = 0
greatest (status ∷ more) = max status (greatest more)

-- Each file has its outcome. What is written is what is written of them, in their order, and the status is the greatest
-- of theirs.
pub record AreWritten (is_outcome : Outcome → Type 0) (files : List (List ℕ))
    (old new err_old err_new : Option (List ℕ)) (status : ℕ) : Type 0 where
  pub outcomes : List Outcome
  pub one_each : map (λ o. o.file) outcomes ≡ files
  pub each : AllByRecursion is_outcome outcomes
  pub reported : Appends old new (flat_map (λ o. o.report) outcomes)
  pub lines : Appends err_old err_new (flat_map (λ o. o.line) outcomes)
  pub same_status : status ≡ greatest (map (λ o. o.status) outcomes)
