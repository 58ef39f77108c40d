-- Why the steps of two files aren't all made: the fault of their texts, and what is on standard error.
use Rattle.std.proofs.Common.{◌≡◌, ℕ, Bool, List, ◌⊎◌, inl, inr, refl, sym, subst, arith, Ok, Err}
use Rattle.std.specs.Prelude.{Option, Result, IfErr}
use Rattle.brc_lang.specs.declared.module.Module.{Module}
use Rattle.brc_lang.specs.Grammar as modules
use Rattle.brc_lang.specs.Written.{AppendsBeginning}
use Rattle.brc_command.specs.declared.endings.Ending.{Ending}
use Rattle.brc_command.specs.declared.endings.Ending.TheVariants.{Whole, Wrong, Beyond}
use Rattle.brc_command.specs.declared.step_fault.StepFault.{StepFault}
use Rattle.brc_command.specs.declared.step_fault.StepFault.TheVariants.{Text, Plan, Refused, NoFunction, NoMemory}
use Rattle.brc_command.specs.declared.step_fault.StepFault.TheVariants.{Output}
use Rattle.brc_command.specs.declared.stop.Stop.{Stop}
use Rattle.brc_command.specs.declared.stop.Stop.TheVariants.{UnreadableFile, NoFunction as Unknown, NoThread, Fault}
use Rattle.brc_command.specs.Endings.{ending_status, ending_text}
use Rattle.brc_command.specs.Lines.{fault_text, stop_status, stop_text}
use Rattle.brc_command.specs.Loading.{ReadsAsModule, ReadsAsSchedule}
use Rattle.brc_command.specs.Texts.{IsCallFault, IsListFault, IsPlanFault, IsTextFault}
use Rattle.brc_command.specs.WholeRuns.{FilesReported, HaveFault, IsReplayFault, IsReplayReason, SaysWhy}
use Rattle.brc_command.specs.WrongRuns.{FilesEnd, GoesWrong}
use Rattle.brc_schedule.specs.declared.schedule.Schedule.{Schedule}
use Rattle.brc_schedule.specs.Text as schedules

-- ---- the faults of a schedule's text

pub plan_fault : (m : Module) (plan : List ℕ) (e : StepFault) → IsPlanFault plan e → IsListFault m plan e
plan_fault m plan (Text e) fault = absurd fault
plan_fault m plan (Plan e) fault = fault
plan_fault m plan (Refused r) fault = absurd fault
plan_fault m plan (NoFunction name) fault = absurd fault
plan_fault m plan NoMemory fault = tt
plan_fault m plan Output fault = absurd fault

pub call_fault : (m : Module) (plan : List ℕ) (s : Schedule) → schedules.Spells plan s → (e : StepFault)
    → IsCallFault m s e → IsListFault m plan e
call_fault m plan s spelled (Text e) fault = absurd fault
call_fault m plan s spelled (Plan e) fault = absurd fault
call_fault m plan s spelled (Refused r) fault = absurd fault
call_fault m plan s spelled (NoFunction name) fault = (s, spelled, fault)
call_fault m plan s spelled NoMemory fault = tt
call_fault m plan s spelled Output fault = absurd fault

pub memory_fault : (m : Module) (plan : List ℕ) (e : StepFault) → e ≡ NoMemory → IsListFault m plan e
memory_fault m plan e same = subst (IsListFault m plan) (sym same) tt

-- an error of the writer or refused memory, beside the faults of the text
pub spent : {T : Type 0} (m : Module) (plan : List ℕ) (r : Result T StepFault)
    → IfErr r (λ e. (e ≡ Output) ⊎ (e ≡ NoMemory)) → IfErr r (λ e. (e ≡ Output) ⊎ IsListFault m plan e)
spent m plan (Ok x) is = tt
spent m plan (Err e) (inl same) = inl same
spent m plan (Err e) (inr same) = inr (memory_fault m plan e same)

-- ---- the faults of both texts

pub text_fault : (bytes plan : List ℕ) (e : StepFault) → IsTextFault bytes e → IsReplayFault bytes plan e
text_fault bytes plan (Text e) fault = fault
text_fault bytes plan (Plan e) fault = absurd fault
text_fault bytes plan (Refused r) fault = absurd fault
text_fault bytes plan (NoFunction name) fault = absurd fault
text_fault bytes plan NoMemory fault = tt
text_fault bytes plan Output fault = tt

list_fault : (bytes plan : List ℕ) (m : Module) → modules.Spells bytes m → (e : StepFault) → IsListFault m plan e
    → IsReplayFault bytes plan e
list_fault bytes plan m spelled (Text e) fault = absurd fault
list_fault bytes plan m spelled (Plan e) fault = (m, spelled, fault)
list_fault bytes plan m spelled (Refused r) fault = absurd fault
list_fault bytes plan m spelled (NoFunction name) fault =
    (m, fault.0, record { module_read = spelled; schedule_read = fault.1 }, fault.2)
list_fault bytes plan m spelled NoMemory fault = tt
list_fault bytes plan m spelled Output fault = tt

pub replay_fault : {T : Type 0} (bytes plan : List ℕ) (m : Module) → modules.Spells bytes m
    → (r : Result T StepFault) → IfErr r (λ e. (e ≡ Output) ⊎ IsListFault m plan e)
    → IfErr r (IsReplayFault bytes plan)
replay_fault bytes plan m spelled (Ok x) is = tt
replay_fault bytes plan m spelled (Err e) (inl same) = subst (IsReplayFault bytes plan) (sym same) tt
replay_fault bytes plan m spelled (Err e) (inr fault) = list_fault bytes plan m spelled e fault

-- ---- of files

module _ (gives : List ℕ → List ℕ → Type 0) (lacks : List ℕ → Type 0) (file schedule bytes plan : List ℕ)
    (read : ReadsAsModule gives file bytes) (planned : ReadsAsSchedule gives schedule plan) where
  in_texts : (e : StepFault) → IsReplayFault bytes plan e → IsReplayFault read.text planned.text e
  in_texts (Text e) fault = read.faulty e.line e.code fault
  in_texts (Plan e) fault = (fault.0, read.spelled fault.0 fault.1, planned.faulty e.line e.code fault.2)
  in_texts (Refused r) fault = absurd fault
  in_texts (NoFunction name) fault =
      let m = fault.0 in
      let s = fault.1 in
      let both = fault.2 in (
        m,
        s,
        record {
          module_read = read.spelled m both.module_read;
          schedule_read = planned.spelled s both.schedule_read;
        },
        fault.3,
      )
  in_texts NoMemory fault = tt
  in_texts Output fault = tt

  in_files : (e : StepFault) → IsReplayFault bytes plan e → HaveFault gives file schedule e
  in_files e fault = record {
    module_text = read.text;
    schedule_text = planned.text;
    module_given = read.given;
    schedule_given = planned.given;
    fault = in_texts e fault;
  }

  pub replay_reason : (e : StepFault) → IsReplayFault bytes plan e
      → IsReplayReason gives lacks file schedule (Fault e)
  replay_reason (Text e) fault = in_files (Text e) fault
  replay_reason (Plan e) fault = in_files (Plan e) fault
  replay_reason (Refused r) fault = absurd fault
  replay_reason (NoFunction name) fault = in_files (NoFunction name) fault
  replay_reason NoMemory fault = tt
  replay_reason Output fault = tt

-- ---- what the status of an ending says

module _ (gives : List ℕ → List ℕ → Type 0) (lacks : List ℕ → Type 0) (file schedule : List ℕ) (trace : Bool)
    (old new err_old err_new : Option (List ℕ)) where
  pub ended_whole : (ending : Ending) → ending_status ending ≡ 0 → FilesEnd gives file schedule trace old new ending
      → FilesReported gives file schedule trace old new
  ended_whole Whole is ended = ended
  ended_whole (Wrong text) is ended = absurd (omega (arith, is))
  ended_whole (Beyond number) is ended = absurd (omega (arith, is))

  pub ended_wrong : (ending : Ending) → ending_status ending ≡ 1 → FilesEnd gives file schedule trace old new ending
      → GoesWrong gives file schedule
  ended_wrong Whole is ended = absurd (omega (arith, is))
  ended_wrong (Wrong text) is ended = ended
  ended_wrong (Beyond number) is ended = absurd (omega (arith, is))

  pub ended_beyond : (ending : Ending) → ending_status ending ≡ 2 → FilesEnd gives file schedule trace old new ending
      → AppendsBeginning err_old err_new (ending_text ending) → SaysWhy gives lacks file schedule err_old err_new
  ended_beyond Whole is ended line = absurd (omega (arith, is))
  ended_beyond (Wrong text) is ended line = absurd (omega (arith, is))
  ended_beyond (Beyond number) is ended line = inr (record { number = number; stops = ended; line = line })

  -- a stop has status 2, or 3 if memory was refused
  pub stopped_for : (stop : Stop) → IsReplayReason gives lacks file schedule stop → stop_status stop ≡ 2
      → AppendsBeginning err_old err_new (stop_text stop) → SaysWhy gives lacks file schedule err_old err_new
  stopped_for stop reason is line = inl (record { stop = stop; reason = reason; status = is; line = line })

  pub none_refused : (stop : Stop) → IsReplayReason gives lacks file schedule stop → stop_status stop ≡ 1 → ⊥
  none_refused UnreadableFile reason is = omega (arith, is)
  none_refused (Unknown name) reason is = reason
  none_refused NoThread reason is = reason
  none_refused (Fault (Text e)) reason is = omega (arith, is)
  none_refused (Fault (Plan e)) reason is = omega (arith, is)
  none_refused (Fault (Refused r)) reason is = reason.fault
  none_refused (Fault (NoFunction name)) reason is = omega (arith, is)
  none_refused (Fault NoMemory) reason is = omega (arith, is)
  none_refused (Fault Output) reason is = omega (arith, is)

  pub memory_stops : (stop : Stop) → IsReplayReason gives lacks file schedule stop → stop_status stop ≡ 3
      → AppendsBeginning err_old err_new (stop_text stop) → AppendsBeginning err_old err_new (fault_text NoMemory)
  memory_stops UnreadableFile reason is line = absurd (omega (arith, is))
  memory_stops (Unknown name) reason is line = absurd reason
  memory_stops NoThread reason is line = absurd reason
  memory_stops (Fault (Text e)) reason is line = absurd (omega (arith, is))
  memory_stops (Fault (Plan e)) reason is line = absurd (omega (arith, is))
  memory_stops (Fault (Refused r)) reason is line = absurd (omega (arith, is))
  memory_stops (Fault (NoFunction name)) reason is line = absurd (omega (arith, is))
  memory_stops (Fault NoMemory) reason is line = line
  memory_stops (Fault Output) reason is line = absurd (omega (arith, is))

pub whole_only : (ending : Ending) → ending_status ending ≡ 0 → ending ≡ Whole
whole_only Whole is = refl
whole_only (Wrong text) is = absurd (omega (arith, is))
whole_only (Beyond number) is = absurd (omega (arith, is))

pub never_memory : (ending : Ending) → ending_status ending ≡ 3 → ⊥
never_memory Whole is = omega (arith, is)
never_memory (Wrong text) is = omega (arith, is)
never_memory (Beyond number) is = omega (arith, is)
