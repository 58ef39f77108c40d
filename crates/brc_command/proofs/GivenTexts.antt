-- What is proved of the bytes that were read of a file holds of a text that the loader may give.
use Rattle.std.proofs.Common.{◌≡◌, ℕ, List, Option, Some, Ok, Err, IfErr, ◌⊎◌, subst, sym, inl, inr}
use Rattle.std.specs.Prelude.{Result, IsErrAnd}
use Rattle.brc_lang.specs.declared.module.Module.{Module}
use Rattle.brc_schedule.specs.declared.schedule.Schedule.{Schedule}
use Rattle.brc_check.specs.Accepted.{Accepted}
use Rattle.brc_command.specs.declared.step_fault.StepFault.{StepFault}
use Rattle.brc_command.specs.declared.step_fault.StepFault.TheVariants.{Text, Plan, Refused, NoFunction, NoMemory}
use Rattle.brc_command.specs.declared.step_fault.StepFault.TheVariants.{Output}
use Rattle.brc_command.specs.declared.stop.Stop.{Stop}
use Rattle.brc_command.specs.declared.stop.Stop.TheVariants.{UnreadableFile, NoFunction as Unknown, NoThread, Fault}
use Rattle.brc_command.specs.Commands.{IsModuleFault, IsModuleReason, IsExplainReason, IsStepReason, AreAtFault}
use Rattle.brc_command.specs.Explanations.{Subject, Code, UnreadableText, AcceptedModule, RefusedModule}
use Rattle.brc_command.specs.Explanations.{ScheduleText, IsAccepted, IsAbout, IsUnexplained, fault_of}
use Rattle.brc_command.specs.Loading.{ReadsAsModule, ReadsAsSchedule}
use Rattle.brc_command.specs.Texts.{IsReady, IsFaultOfTexts}

-- A fault that `?` hands over stops the call.
pub stopped_by : {T : Type 0} (P : Stop → Type 0) (r : Result T Stop) (e : StepFault)
    → IsErrAnd r (λ s. s ≡ Fault e) → P (Fault e) → IfErr r P
stopped_by P (Ok x) e handed is = tt
stopped_by P (Err s) e handed is = subst P (sym handed) is

-- ---- one module

same_fault : {e f : StepFault} → Some e ≡ Some f → e ≡ f
same_fault same = cc

module _ (gives : List ℕ → List ℕ → Type 0) (lacks : List ℕ → Type 0) (file bytes : List ℕ)
    (read : ReadsAsModule gives file bytes) where
  pub module_accepted : (m : Module) → IsAccepted bytes m → IsAccepted read.text m
  module_accepted m accepted =
      record { spelled = read.spelled m accepted.spelled; accepted = accepted.accepted }

  pub module_reason : (e : StepFault) → IsModuleFault bytes e → IsModuleReason gives lacks file (Fault e)
  module_reason (Text e) fault = (read.text, read.given, read.faulty e.line e.code fault)
  module_reason (Plan e) fault = absurd fault
  module_reason (Refused r) fault = (read.text, read.given, (fault.0, read.spelled fault.0 fault.1, fault.2))
  module_reason (NoFunction name) fault = absurd fault
  module_reason NoMemory fault = tt
  module_reason Output fault = tt

  pub explained_fault : (only : Option (List ℕ)) (subject : Subject) (e : StepFault) → IsAbout bytes only subject
      → Some e ≡ fault_of subject → IsExplainReason gives lacks file only (Fault e)
  explained_fault only (Code topic) e about ends = absurd about
  explained_fault only (UnreadableText text f) e about ends =
      subst (λ (g : StepFault). IsExplainReason gives lacks file only (Fault g)) (sym (same_fault ends))
      (module_reason (Text f) about.1)
  explained_fault only (AcceptedModule m number) e about ends = absurd cc
  explained_fault only (RefusedModule m r number) e about ends =
      subst (λ (g : StepFault). IsExplainReason gives lacks file only (Fault g)) (sym (same_fault ends))
      (module_reason (Refused r) (m, about.0, about.1))
  explained_fault only (ScheduleText text fault) e about ends = absurd about

  pub unexplained : (only : Option (List ℕ)) (stop : Stop) → IsUnexplained bytes only stop
      → IsExplainReason gives lacks file only stop
  unexplained only UnreadableFile reason = absurd reason
  unexplained only (Unknown name) reason =
      (reason.0, read.text, read.given, (reason.1.0, read.spelled reason.1.0 reason.1.1, reason.1.2))
  unexplained only NoThread reason = absurd reason
  unexplained only (Fault NoMemory) reason = tt
  unexplained only (Fault (Text e)) reason = absurd reason
  unexplained only (Fault (Plan e)) reason = absurd reason
  unexplained only (Fault (Refused r)) reason = absurd reason
  unexplained only (Fault (NoFunction name)) reason = absurd reason
  unexplained only (Fault Output) reason = absurd reason

-- ---- a module and a schedule

-- what a loader gives now, it gave before
pub later : (after gives : List ℕ → List ℕ → Type 0) (path plan : List ℕ)
    → ((p bytes : List ℕ) → after p bytes → gives p bytes) → ReadsAsSchedule after path plan
    → ReadsAsSchedule gives path plan
later after gives path plan no_more read = record {
  text = read.text;
  given = no_more path read.text read.given;
  spelled = read.spelled;
  faulty = read.faulty;
}

module _ (gives : List ℕ → List ℕ → Type 0) (file schedule bytes plan : List ℕ)
    (read : ReadsAsModule gives file bytes) (planned : ReadsAsSchedule gives schedule plan) where
  pub texts_ready : (m : Accepted) (s : Schedule) → IsReady bytes plan m s → IsReady read.text planned.text m s
  texts_ready m s ready = record {
    module_read = read.spelled m.module ready.module_read;
    schedule_read = planned.spelled s ready.schedule_read;
    accepted = ready.accepted;
    states_true = ready.states_true;
    known = ready.known;
  }

  pub texts_at_fault : (e : StepFault) → IsFaultOfTexts bytes plan e → IsFaultOfTexts read.text planned.text e
  texts_at_fault (Text e) fault = read.faulty e.line e.code fault
  texts_at_fault (Plan e) fault = (fault.0, read.spelled fault.0 fault.1, planned.faulty e.line e.code fault.2)
  texts_at_fault (Refused r) fault =
      let both = fault.2 in
      let m = fault.0 in
      let s = fault.1 in (
        m,
        s,
        record {
          module_read = read.spelled m both.module_read;
          schedule_read = planned.spelled s both.schedule_read;
        },
        fault.3,
      )
  texts_at_fault (NoFunction name) fault =
      let both = fault.2 in
      let m = fault.0 in
      let s = fault.1 in (
        m,
        s,
        record {
          module_read = read.spelled m both.module_read;
          schedule_read = planned.spelled s both.schedule_read;
        },
        fault.3,
        fault.4,
      )
  texts_at_fault NoMemory fault = tt
  texts_at_fault Output fault = absurd fault

  at_fault : (e : StepFault) → IsFaultOfTexts bytes plan e → AreAtFault gives file schedule e
  at_fault e fault = record {
    module_text = read.text;
    schedule_text = planned.text;
    module_given = read.given;
    schedule_given = planned.given;
    fault = texts_at_fault e fault;
  }

  pub step_reason : (lacks : List ℕ → Type 0) (e : StepFault) → (e ≡ Output) ⊎ IsFaultOfTexts bytes plan e
      → IsStepReason gives lacks file schedule (Fault e)
  step_reason lacks e (inl same) = subst (λ (f : StepFault). IsStepReason gives lacks file schedule (Fault f))
      (sym same) tt
  step_reason lacks NoMemory (inr fault) = tt
  step_reason lacks Output (inr fault) = tt
  step_reason lacks (Text e) (inr fault) = at_fault (Text e) fault
  step_reason lacks (Plan e) (inr fault) = at_fault (Plan e) fault
  step_reason lacks (Refused r) (inr fault) = at_fault (Refused r) fault
  step_reason lacks (NoFunction name) (inr fault) = at_fault (NoFunction name) fault
