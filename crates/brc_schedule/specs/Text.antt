-- The one spelling of a schedule: ASCII lines, each with a line feed at its end, of words that single spaces separate.
use Rattle.std.specs.Prelude.{◌≡◌, ℕ, ◌+◌, ◌<◌, ◌≤◌, IsTrue, List, [], ◌∷◌, ◌++◌, length, codes}
use Rattle.std.specs.List.{flat_map, AllByRecursion}
use Rattle.std.specs.Fmt.{decimal}
use Rattle.brc_lang.specs.Grammar.{line, spaced, is_name}
use Rattle.brc_model.specs.declared.thread.Choice.{Choice}
use Rattle.brc_model.specs.declared.thread.Choice.TheVariants as choices
use Rattle.brc_model.specs.Limits.{worker_limit, row_limit, times_limit}
use Rattle.brc_schedule.specs.Limits.{last_row}
use Rattle.brc_schedule.specs.declared.schedule.PlannedCall.{PlannedCall}
use Rattle.brc_schedule.specs.declared.schedule.Schedule.{Schedule}
use Rattle.brc_schedule.specs.declared.schedule.Steps.{Steps}

-- ---- spellings

abbrev pub line_of : List (List ℕ) → List ℕ
line_of words = line (spaced words)

abbrev pub size_words : List ℕ → ℕ → List (List ℕ)
size_words name size = name ∷ decimal size ∷ []

-- the call of a worker, by its number from 1
abbrev pub call_words : ℕ → PlannedCall → List (List ℕ)
call_words worker call = codes "call" ∷ decimal worker ∷ call.name ∷ decimal call.times ∷ []

-- some steps of a thread, by their choice
abbrev pub words_of : ℕ → ℕ → Choice → List (List ℕ)
words_of thread times choices.Ok = codes "step" ∷ decimal thread ∷ codes "ok" ∷ decimal times ∷ []
words_of thread times choices.Fault = codes "step" ∷ decimal thread ∷ codes "fault" ∷ decimal times ∷ []
words_of thread times (choices.Claim row) = codes "claim" ∷ decimal thread ∷ decimal row ∷ []
words_of thread times choices.Stop = codes "stop" ∷ decimal thread ∷ []

abbrev pub step_words : Steps → List (List ℕ)
step_words steps = words_of steps.thread steps.times steps.choice

abbrev pub first_line : List ℕ
first_line = line (codes "schedule 1")

abbrev pub workers_line : ℕ → List ℕ
workers_line workers = line_of (size_words (codes "workers") workers)

abbrev pub rows_line : ℕ → List ℕ
rows_line rows = line_of (size_words (codes "rows") rows)

-- the calls of the workers from this one on
abbrev pub calls_from : ℕ → List PlannedCall → List ℕ
calls_from worker [] = []
calls_from worker (call ∷ calls) = line_of (call_words worker call) ++ calls_from (worker + 1) calls

abbrev pub steps_text : List Steps → List ℕ
steps_text steps = flat_map (λ s. line_of (step_words s)) steps

abbrev pub text : Schedule → List ℕ
text s = first_line ++ workers_line s.workers ++ rows_line s.rows ++ calls_from 1 s.calls ++ steps_text s.steps

-- ---- what has a spelling

pub record IsPlannedCall (call : PlannedCall) : Type 0 where
  pub name : IsTrue (is_name call.name)
  pub some : 0 < call.times
  pub most : call.times ≤ times_limit

-- a claim or a stop is one step, since its line gives no number of times; a claim is at a row of the largest world
abbrev pub IsChoiceOf : ℕ → Choice → Type 0
IsChoiceOf times choices.Ok = Unit {0}
IsChoiceOf times choices.Fault = Unit {0}
IsChoiceOf times (choices.Claim row) = (times ≡ 1) × (row ≤ last_row)
IsChoiceOf times choices.Stop = times ≡ 1

-- steps of main or of a worker
pub record AreSteps (workers : ℕ) (steps : Steps) : Type 0 where
  pub thread : steps.thread ≤ workers
  pub some : 0 < steps.times
  pub most : steps.times ≤ times_limit
  pub choice : IsChoiceOf steps.times steps.choice

-- 1 to 32 workers, 1 to 1024 rows
pub record AreSizes (workers rows : ℕ) : Type 0 where
  pub some_workers : 0 < workers
  pub most_workers : workers ≤ worker_limit
  pub some_rows : 0 < rows
  pub most_rows : rows ≤ row_limit

pub record IsSchedule (s : Schedule) : Type 0 where
  pub sizes : AreSizes s.workers s.rows
  -- a call for each worker
  pub one_each : length s.calls ≡ s.workers
  pub calls : AllByRecursion IsPlannedCall s.calls
  pub steps : AllByRecursion (AreSteps s.workers) s.steps

-- the grammar: the bytes are the schedule's one text
pub record Spells (bytes : List ℕ) (s : Schedule) : Type 0 where
  pub schedule_fits : IsSchedule s
  pub spelled : bytes ≡ text s
