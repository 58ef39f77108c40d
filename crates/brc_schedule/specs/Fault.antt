-- The fault of a schedule's text: that of its first faulty line from the top.
use Rattle.std.specs.Prelude.{◌≡◌, ℕ, ◌+◌, ◌<◌, ◌≤◌, Bool, false, ◌&&◌, ◌==◌, nat_le, nat_lt, nat_eq, if◌then◌else◌}
use Rattle.std.specs.Prelude.{List, [], ◌∷◌, ◌++◌, length, Option, None, Some, Result, Ok, Err, codes, ◌⊎◌, MatchResult}
use Rattle.std.specs.List.{AllByRecursion, list_any, before_first, starts_with}
use Rattle.std.specs.Str.{bytes_eq}
use Rattle.brc_lang.specs.declared.fault.FaultCode.{FaultCode}
use Rattle.brc_lang.specs.declared.fault.FaultCode.TheVariants.{FirstLine, UnknownWord, CutOff, NoMemory}
use Rattle.brc_lang.specs.declared.fault.ReadFault.{ReadFault}
use Rattle.brc_lang.specs.Grammar.{is_name}
use Rattle.brc_lang.specs.InstructionWords.{words, number_between, ◌>>=◌}
use Rattle.brc_lang.specs.Fault.{is_line_feed, line_count}
use Rattle.brc_model.specs.declared.thread.Choice.{Choice}
use Rattle.brc_model.specs.declared.thread.Choice.TheVariants as choices
use Rattle.brc_model.specs.Limits.{worker_limit, row_limit, times_limit}
use Rattle.brc_schedule.specs.Limits.{last_row}
use Rattle.brc_schedule.specs.declared.beginning.Beginning.{Beginning}
use Rattle.brc_schedule.specs.declared.beginning.Beginning.TheVariants.{Opened, Staffed, Planned}
use Rattle.brc_schedule.specs.declared.schedule.PlannedCall.{PlannedCall}
use Rattle.brc_schedule.specs.declared.schedule.Schedule.{Schedule}
use Rattle.brc_schedule.specs.declared.schedule.Steps.{Steps}
use Rattle.brc_schedule.specs.Text.{first_line, workers_line, text, AreSizes, IsPlannedCall, AreSteps}

-- ---- one line: the first word and the number of words are compared first, then the words from left to right

abbrev pub size_in : List ℕ → ℕ → List (List ℕ) → Result ℕ FaultCode
size_in name most (w ∷ size ∷ []) = if bytes_eq w name then number_between 1 most size else Err UnknownWord
size_in name most _ = Err UnknownWord

abbrev pub name_in : List ℕ → Result (List ℕ) FaultCode
name_in word = if is_name word then Ok word else Err UnknownWord

abbrev pub call_in : ℕ → List (List ℕ) → Result PlannedCall FaultCode
call_in worker (w ∷ turn ∷ name ∷ times ∷ []) =
    if bytes_eq w (codes "call")
    then (number_between worker worker turn >>= λ t. name_in name >>= λ n. number_between 1 times_limit times
    >>= λ k. Ok (record { name = n; times = k }))
    else Err UnknownWord
call_in worker _ = Err UnknownWord

abbrev pub choice_in : List ℕ → Result Choice FaultCode
choice_in word =
    if bytes_eq word (codes "ok") then Ok choices.Ok
    else if bytes_eq word (codes "fault") then Ok choices.Fault
    else Err UnknownWord

abbrev pub steps_in : ℕ → List (List ℕ) → Result Steps FaultCode
steps_in workers (w ∷ thread ∷ choice ∷ times ∷ []) =
    if bytes_eq w (codes "step")
    then (number_between 0 workers thread >>= λ t. choice_in choice >>= λ c. number_between 1 times_limit times
    >>= λ k. Ok (record { thread = t; choice = c; times = k }))
    else Err UnknownWord
steps_in workers (w ∷ thread ∷ row ∷ []) =
    if bytes_eq w (codes "claim")
    then (number_between 0 workers thread >>= λ t. number_between 0 last_row row
    >>= λ r. Ok (record { thread = t; choice = choices.Claim r; times = 1 }))
    else Err UnknownWord
steps_in workers (w ∷ thread ∷ []) =
    if bytes_eq w (codes "stop")
    then (number_between 0 workers thread >>= λ t. Ok (record { thread = t; choice = choices.Stop; times = 1 }))
    else Err UnknownWord
steps_in workers _ = Err UnknownWord

-- ---- a line after those above it

abbrev pub beginning : Beginning → List ℕ
beginning Opened = first_line
beginning (Staffed workers) = first_line ++ workers_line workers
beginning (Planned s) = text s

-- a schedule that may lack calls, and steps below the last of them
pub record IsPlan (s : Schedule) : Type 0 where
  pub sizes : AreSizes s.workers s.rows
  pub few : length s.calls ≤ s.workers
  pub calls : AllByRecursion IsPlannedCall s.calls
  pub steps : AllByRecursion (AreSteps s.workers) s.steps
  pub in_order : 0 < length s.steps → length s.calls ≡ s.workers

-- each line so far is one that the grammar allows there
abbrev pub IsBeginning : Beginning → Type 0
IsBeginning Opened = Unit {0}
IsBeginning (Staffed workers) = (0 < workers) × (workers ≤ worker_limit)
IsBeginning (Planned s) = IsPlan s

abbrev pub with_call : Schedule → PlannedCall → Schedule
with_call s call = record { workers = s.workers; rows = s.rows; calls = s.calls ++ call ∷ []; steps = s.steps }

abbrev pub with_steps : Schedule → Steps → Schedule
with_steps s steps = record { workers = s.workers; rows = s.rows; calls = s.calls; steps = s.steps ++ steps ∷ [] }

-- a call for each worker in turn, and then steps
abbrev pub planned_in : Schedule → List (List ℕ) → Result Schedule FaultCode
planned_in s ws =
    if nat_lt (length s.calls) s.workers then (call_in (length s.calls + 1) ws >>= λ call. Ok (with_call s call))
    else (steps_in s.workers ws >>= λ steps. Ok (with_steps s steps))

-- the text above the next line, or the fault of this one
abbrev pub next_of : Beginning → List (List ℕ) → Result Beginning FaultCode
next_of Opened ws = size_in (codes "workers") worker_limit ws >>= λ workers. Ok (Staffed workers)
next_of (Staffed workers) ws =
    size_in (codes "rows") row_limit ws
    >>= λ rows. Ok (Planned (record { workers = workers; rows = rows; calls = []; steps = [] }))
next_of (Planned s) ws = planned_in s ws >>= λ t. Ok (Planned t)

-- no call is missing
abbrev pub is_whole : Beginning → Bool
is_whole Opened = false
is_whole (Staffed workers) = false
is_whole (Planned s) = nat_le s.workers (length s.calls)

abbrev pub fault_in : Result Beginning FaultCode → Option FaultCode
fault_in (Ok b) = None
fault_in (Err code) = Some code

-- the fault of the line with which rest begins; `CutOff` if that line has no line feed or is missing
abbrev pub fault_of : Beginning → List ℕ → Option FaultCode
fault_of b rest =
    if list_any is_line_feed rest then fault_in (next_of b (words (before_first is_line_feed rest)))
    else if (length rest == 0) && is_whole b then None
    else Some CutOff

-- ---- a text

-- the first faulty line is below lines without a fault
pub record HasLaterFault (bytes : List ℕ) (line : ℕ) (code : FaultCode) : Type 0 where
  pub above : Beginning
  pub rest : List ℕ
  pub above_fits : IsBeginning above
  pub parts : bytes ≡ beginning above ++ rest
  pub numbered : line ≡ line_count (beginning above) + 1
  pub fault : fault_of above rest ≡ Some code

pub record HasFirstLineFault (bytes : List ℕ) (line : ℕ) (code : FaultCode) : Type 0 where
  pub other : starts_with nat_eq bytes first_line ≡ false
  pub numbered : line ≡ 1
  pub fault : code ≡ FirstLine

-- the first faulty line, from 1, and its fault
abbrev pub HasFault : List ℕ → ℕ → FaultCode → Type 0
HasFault bytes line code = HasFirstLineFault bytes line code ⊎ HasLaterFault bytes line code

-- ---- the answers of a reader

-- memory was refused, or the text has this fault
abbrev pub IsFaultOf : List ℕ → ReadFault → Type 0
IsFaultOf bytes e = (e.code ≡ NoMemory) ⊎ HasFault bytes e.line e.code

-- the schedule, unless memory was refused
abbrev pub ReadsAs : Result Schedule ReadFault → Schedule → Type 0
ReadsAs result s = MatchResult result (λ found. found ≡ s) (λ e. e.code ≡ NoMemory)

-- the fault of this line, unless memory was refused
abbrev pub Refuses : Result Schedule ReadFault → ℕ → FaultCode → Type 0
Refuses result line code = MatchResult result (λ _. ⊥) (λ e. ((e.line ≡ line) × (e.code ≡ code)) ⊎ (e.code ≡ NoMemory))
