-- From the bytes that were read of a file to a text that the loader may give.
use Rattle.std.proofs.Common.{◌≡◌, ◌≢◌, ℕ, ◌≤◌, List, [], ◌++◌, length, append-nil, subst, arith, inl, inr, Result, Ok, Err}
use Rattle.std.specs.Prelude.{IfOk}
use Rattle.brc_lang.specs.declared.fault.FaultCode.{FaultCode}
use Rattle.brc_lang.specs.declared.fault.FaultCode.TheVariants.{CutOff, NoMemory}
use Rattle.brc_lang.specs.declared.fault.ReadFault.{ReadFault}
use Rattle.brc_lang.specs.declared.module.Module.{Module}
use Rattle.brc_lang.specs.Grammar as modules
use Rattle.brc_lang.specs.Fault as module_faults
use Rattle.brc_schedule.specs.declared.schedule.Schedule.{Schedule}
use Rattle.brc_schedule.specs.Text as schedules
use Rattle.brc_schedule.specs.Fault as schedule_faults
use Rattle.brc_command.specs.declared.loading.Wanted.{Wanted}
use Rattle.brc_command.specs.declared.loading.Wanted.TheVariants as wanted_texts
use Rattle.brc_command.specs.Loading.{IsFaultFor, HasLastingFault, IsReadFor, ReadsAsModule, ReadsAsSchedule}

-- ---- a fault that stays

pub lasts : ((bytes more : List ℕ) (line : ℕ) (code : FaultCode) → 9 ≤ length bytes → code ≢ CutOff
    → module_faults.HasFault bytes line code → module_faults.HasFault (bytes ++ more) line code)
    → ((bytes more : List ℕ) (line : ℕ) (code : FaultCode) → 11 ≤ length bytes → code ≢ CutOff
    → schedule_faults.HasFault bytes line code → schedule_faults.HasFault (bytes ++ more) line code)
    → (wanted : Wanted) (bytes : List ℕ) (e : ReadFault) → 11 ≤ length bytes → e.code ≢ CutOff → e.code ≢ NoMemory
    → IsFaultFor wanted bytes e → HasLastingFault wanted bytes
lasts modules_stay schedules_stay wanted bytes e long whole read (inl refused) = absurd (read refused)
lasts modules_stay schedules_stay wanted_texts.Module bytes e long whole read (inr fault) =
    let few : 9 ≤ length bytes = omega arith in
    record { line = e.line; code = e.code; lasting = λ more. modules_stay bytes more e.line e.code few whole fault }
lasts modules_stay schedules_stay wanted_texts.Schedule bytes e long whole read (inr fault) =
    record { line = e.line; code = e.code; lasting = λ more. schedules_stay bytes more e.line e.code long whole fault }

-- ---- a text that reads as the bytes do

pub if_ok : {T E : Type 0} {P Q : T → Type 0} → ((x : T) → P x → Q x) → (r : Result T E) → IfOk r P → IfOk r Q
if_ok f (Ok x) p = f x p
if_ok f (Err e) p = tt

module _ (one_fault : (bytes : List ℕ) (k l : ℕ) (c d : FaultCode) → module_faults.HasFault bytes k c
    → module_faults.HasFault bytes l d → (k ≡ l) × (c ≡ d))
    (apart : (bytes : List ℕ) (m : Module) (line : ℕ) (code : FaultCode) → modules.Spells bytes m
    → module_faults.HasFault bytes line code → ⊥) where
  pub reads_as_module : (gives : List ℕ → List ℕ → Type 0) (path bytes : List ℕ)
      → IsReadFor wanted_texts.Module gives path bytes → ReadsAsModule gives path bytes
  reads_as_module gives path bytes (inl given) =
      record { text = bytes; given = given; spelled = λ m s. s; faulty = λ line code f. f }
  reads_as_module gives path bytes (inr begun) =
      let last = begun.1 in
      let here : module_faults.HasFault bytes last.line last.code =
      subst (λ (b : List ℕ). module_faults.HasFault b last.line last.code) (append-nil bytes) (last.lasting []) in
      record {
        text = bytes ++ begun.0.0;
        given = begun.0.1;
        spelled = λ m s. absurd (apart bytes m last.line last.code s here);
        faulty = λ line code f.
            let same = one_fault bytes line last.line code last.code f here in
            rw (same.0, same.1) (last.lasting begun.0.0);
      }

module _ (one_fault : (bytes : List ℕ) (k l : ℕ) (c d : FaultCode) → schedule_faults.HasFault bytes k c
    → schedule_faults.HasFault bytes l d → (k ≡ l) × (c ≡ d))
    (apart : (bytes : List ℕ) (s : Schedule) (line : ℕ) (code : FaultCode) → schedules.Spells bytes s
    → schedule_faults.HasFault bytes line code → ⊥) where
  pub reads_as_schedule : (gives : List ℕ → List ℕ → Type 0) (path bytes : List ℕ)
      → IsReadFor wanted_texts.Schedule gives path bytes → ReadsAsSchedule gives path bytes
  reads_as_schedule gives path bytes (inl given) =
      record { text = bytes; given = given; spelled = λ s spelled. spelled; faulty = λ line code f. f }
  reads_as_schedule gives path bytes (inr begun) =
      let last = begun.1 in
      let here : schedule_faults.HasFault bytes last.line last.code =
      subst (λ (b : List ℕ). schedule_faults.HasFault b last.line last.code) (append-nil bytes) (last.lasting []) in
      record {
        text = bytes ++ begun.0.0;
        given = begun.0.1;
        spelled = λ s spelled. absurd (apart bytes s last.line last.code spelled here);
        faulty = λ line code f.
            let same = one_fault bytes line last.line code last.code f here in
            rw (same.0, same.1) (last.lasting begun.0.0);
      }
