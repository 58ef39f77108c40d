-- The outputs and the status of `act`, for any words of a command line.
use Rattle.std.specs.Prelude.{◌≡◌, ◌⊎◌, ℕ, Bool, true, false, ◌||◌, List, [], ◌∷◌, map, codes, Option}
use Rattle.std.specs.Str.{bytes_eq}
use Rattle.std.specs.Borrow.{Bor}
use Rattle.brc_lang.specs.Written.{AppendsBeginning}
use Rattle.brc_report.specs.declared.paint.Paint.{Paint}
use Rattle.brc_command.specs.declared.asked.Asked.{Asked}
use Rattle.brc_command.specs.declared.asked.Run.{Run}
use Rattle.brc_command.specs.declared.step_fault.StepFault.TheVariants.{NoMemory}
use Rattle.brc_command.specs.declared.files.Format.{Format}
use Rattle.brc_command.specs.Commands.{HasReport, HasRunReport, IsReason, ProgramLeaves, IsDone, IsStopped}
use Rattle.brc_command.specs.Meetings.{IsCounted}
use Rattle.brc_command.specs.Files.{AreWritten, IsOutcome, are_several}
use Rattle.brc_command.specs.Lines.{fault_text}
use Rattle.brc_command.specs.declared.unchecked.Unchecked.{Unchecked}
use Rattle.brc_command.specs.WrongRuns.{EndsUnchecked}

-- the command line asks for one report, and `act` writes it
pub record IsDoneAsking (gives : List ℕ → List ℕ → Type 0) (paint : Paint) (old new err_old err_new : Option (List ℕ))
    : Type 0 where
  pub asked : Asked
  pub done : IsDone (HasReport gives paint asked) old new err_old err_new

-- the command line asks for one report, and it stops for a reason
pub record IsStoppedAsking (gives : List ℕ → List ℕ → Type 0) (lacks : List ℕ → Type 0) (paint : Paint)
    (old new err_old err_new : Option (List ℕ)) (status : ℕ) : Type 0 where
  pub asked : Asked
  pub stopped : IsStopped (IsReason gives lacks asked) (ProgramLeaves gives paint asked) old new err_old err_new status

-- the word asks for how often the threads of a run have met
abbrev pub asks_for_counts : List ℕ → Bool
asks_for_counts word = bytes_eq word (codes "--counts")

-- the command line asks for a run's report and for these numbers, by one of its words, and `act` writes both
pub record IsDoneCounting (counts : Bool) (gives : List ℕ → List ℕ → Type 0)
    (old new err_old err_new : Option (List ℕ)) : Type 0 where
  pub word : counts ≡ true
  pub asked : Run
  pub done : IsCounted (HasRunReport gives asked) old new err_old err_new

-- the command line asks for the check of files, and each of them has its outcome
pub record ChecksFiles (gives : List ℕ → List ℕ → Type 0) (lacks : List ℕ → Type 0)
    (old new err_old err_new : Option (List ℕ)) (status : ℕ) : Type 0 where
  pub files : List (Bor (List ℕ))
  pub format : Format
  pub written : AreWritten (IsOutcome gives lacks (are_several files) format) (map (λ file. file.now) files) old new
      err_old err_new status

-- the word asks for a run of a module that need not be accepted
abbrev pub asks_for_run : List ℕ → Bool
asks_for_run word = bytes_eq word (codes "--schedule") || bytes_eq word (codes "--unchecked")

-- the command line asks for such a run, by one of its words
pub record EndsAskingUnchecked (asks : Bool) (gives : List ℕ → List ℕ → Type 0) (lacks : List ℕ → Type 0)
    (old new err_old err_new : Option (List ℕ)) (status : ℕ) : Type 0 where
  pub word : asks ≡ true
  pub asked : Unchecked
  pub ended : EndsUnchecked gives lacks asked old new err_old err_new status

-- the command's name asks for the judgement of C files
abbrev pub asks_for_c : List ℕ → Bool
asks_for_c name = bytes_eq name (codes "c")

-- it holds of the command's name, the word after the program's own
abbrev pub of_command : {A : Type 0} → (A → Bool) → List A → Bool
of_command holds (_ ∷ name ∷ _) = holds name
of_command holds _ = false

-- the command is that one; what is written then is left open
pub record EndsAskingForC (asks_c : Bool) : Type 0 where
  pub command : asks_c ≡ true

-- the command line is wrong or asks for help, and the status is 2; or memory was refused, and the status is 3
abbrev pub IsRefused : Option (List ℕ) → Option (List ℕ) → ℕ → Type 0
IsRefused err_old err_new status = (status ≡ 2) ⊎ ((status ≡ 3)
    × AppendsBeginning err_old err_new (fault_text NoMemory))

abbrev pub Ends : Bool → Bool → Bool → (List ℕ → List ℕ → Type 0) → (List ℕ → Type 0) → Paint → Option (List ℕ)
    → Option (List ℕ) → Option (List ℕ) → Option (List ℕ) → ℕ → Type 0
Ends counts asks asks_c gives lacks paint old new err_old err_new status =
    IsDoneAsking gives paint old new err_old err_new ⊎ IsDoneCounting counts gives old new err_old err_new
    ⊎ ChecksFiles gives lacks old new err_old err_new status
    ⊎ EndsAskingUnchecked asks gives lacks old new err_old err_new status ⊎ EndsAskingForC asks_c

abbrev pub Stops : Bool → Bool → (List ℕ → List ℕ → Type 0) → (List ℕ → Type 0) → Paint → Option (List ℕ)
    → Option (List ℕ) → Option (List ℕ) → Option (List ℕ) → ℕ → Type 0
Stops asks asks_c gives lacks paint old new err_old err_new status =
    IsStoppedAsking gives lacks paint old new err_old err_new status
    ⊎ ChecksFiles gives lacks old new err_old err_new status
    ⊎ EndsAskingUnchecked asks gives lacks old new err_old err_new status ⊎ EndsAskingForC asks_c
    ⊎ ((new ≡ old) × IsRefused err_old err_new status)
