-- An event counts a fault exactly if it is a host call or a close that faults.
use Rattle.std.proofs.Common.{◌≡◌, ℕ, ◌+◌, ◌≤◌, Bool, true, false, cond, List, [], ◌∷◌, Option, None, Some, refl, ap, arith}
use Rattle.std.specs.Prelude.{slice_get, nat_lt}
use Rattle.std.proofs.lemmas.Bool.{ltb-true}
use Rattle.brc_model.proofs.Basics.Lists.{either}
use Rattle.brc_lang.specs.declared.module.Module.{Module}
use Rattle.brc_model.specs.declared.thread.Choice.{Choice}
use Rattle.brc_model.specs.declared.thread.Choice.TheVariants.{Ok, Fault}
use Rattle.brc_model.specs.declared.state.Exit.{Exit}
use Rattle.brc_model.specs.declared.state.Exit.TheVariants.{Success, Fault as FaultExit}
use Rattle.brc_model.specs.Limits.{most_faults}
use Rattle.brc_model.specs.Actions.{StepActor, Action, Skip, Stuck, Silent, Calls, Does}
use Rattle.brc_model.specs.Dispatch.{exit_of, status_action, action_of}
use Rattle.brc_model.specs.StepMachine.{StepMachine, of_thread, counted, closes, machine_by, next_machine, first_machine, machine_after}
use Rattle.brc_model.specs.Progress.{Always}
use Rattle.brc_model.specs.Faults.{calls_host, closes_resource, acts, count_after, CountsFaults, CountsFit, FaultsAlike}

-- ---- what an event counts

-- The counts after the action, which may have faulted.
record Counts (m new : StepMachine) (exit : Exit) (x : Action) : Type 0 where
  calls : new.host_faults ≡ cond (calls_host x) (counted exit m.host_faults) m.host_faults
  closings : new.close_faults ≡ cond (closes_resource x) (counted exit m.close_faults) m.close_faults

action_counts : (m : StepMachine) (t : ℕ) (a : StepActor) (exit : Exit) (x : Action)
    → Counts m (machine_by m t a exit x) exit x
action_counts m t a exit Skip = record { calls = refl; closings = refl }
action_counts m t a exit Stuck = record { calls = refl; closings = refl }
action_counts m t a exit (Silent moves place) = record { calls = refl; closings = refl }
action_counts m t a exit (Calls row place) = record { calls = refl; closings = refl }
action_counts m t a exit (Does d rest place) = record { calls = refl; closings = refl }

abbrev after : StepMachine → ℕ × Choice → Option StepActor → StepMachine
after m event o =
    of_thread m (λ a. machine_by m event.0 a (exit_of event.1)
    (action_of m.functions m.states m.layout event.0 a event.1)) o

abbrev says : (Action → Bool) → StepMachine → ℕ × Choice → Option StepActor → Bool
says of_action m event o = of_thread false (λ a. of_action (action_of m.functions m.states m.layout event.0 a event.1))
    o

record CountsAt (m : StepMachine) (event : ℕ × Choice) (o : Option StepActor) : Type 0 where
  calls : (after m event o).host_faults
      ≡ cond (says calls_host m event o) (counted (exit_of event.1) m.host_faults) m.host_faults
  closings : (after m event o).close_faults
      ≡ cond (says closes_resource m event o) (counted (exit_of event.1) m.close_faults) m.close_faults

thread_counts : (m : StepMachine) (event : ℕ × Choice) (o : Option StepActor) → CountsAt m event o
thread_counts m event None = record { calls = refl; closings = refl }
thread_counts m event (Some a) =
    let counts = action_counts m event.0 a (exit_of event.1)
    (action_of m.functions m.states m.layout event.0 a event.1) in
    record { calls = counts.calls; closings = counts.closings }

-- An event counts the fault of its host call or of its close.
pub faults_counted : (m : StepMachine) (event : ℕ × Choice) → CountsFaults m event
faults_counted m event =
    let counts = thread_counts m event (slice_get m.actors event.0) in
    record { calls = counts.calls; closings = counts.closings }

-- ---- the greatest count

counted_fits : (exit : Exit) (count : ℕ) → count ≤ most_faults → counted exit count ≤ most_faults
counted_fits Success count fits = fits
counted_fits FaultExit count fits =
    either (λ (n : ℕ). n ≤ most_faults) (nat_lt count most_faults) (count + 1) count
    (λ below. omega (arith, ltb-true count most_faults below)) fits

count_fits : (of_action : Action → Bool) (m : StepMachine) (event : ℕ × Choice) (count : ℕ) → count ≤ most_faults
    → count_after of_action m event count ≤ most_faults
count_fits of_action m event count fits =
    (elim (acts of_action m event) as (λ b. cond b (counted (exit_of event.1) count) count ≤ most_faults) [
      | true ↦ counted_fits (exit_of event.1) count fits
      | false ↦ fits
    ])

event_fits : (m : StepMachine) (event : ℕ × Choice) → CountsFit m → CountsFit (next_machine m event)
event_fits m event fits =
    let counts = faults_counted m event in
    record {
      calls = omega (arith, counts.calls, count_fits calls_host m event m.host_faults fits.calls);
      closings = omega (arith, counts.closings, count_fits closes_resource m event m.close_faults fits.closings);
    }

counts_fit_after : (m : StepMachine) (events : List (ℕ × Choice)) → CountsFit m → CountsFit (machine_after m events)
counts_fit_after m [] fits = fits
counts_fit_after m (event ∷ events) fits =
    counts_fit_after (next_machine m event) events (event_fits m event fits)

-- In every machine of a module the counts fit.
pub counts_fit : (p : Module) → Always CountsFit p
counts_fit p states rows calls events states_true some most fit =
    counts_fit_after (first_machine p states rows calls) events (record { calls = omega arith; closings = omega arith })

-- ---- a fault elsewhere

-- The exit decides nothing where the thread neither calls the host nor closes a resource.
action_alike : (m : StepMachine) (t : ℕ) (a : StepActor) (x : Action) → calls_host x ≡ false
    → closes_resource x ≡ false → machine_by m t a FaultExit x ≡ machine_by m t a Success x
action_alike m t a (Does d rest place) quiet unclosed =
    let new = machine_by m t a Success (Does d rest place) in
    let counts : cond (closes d) (counted FaultExit m.close_faults) m.close_faults ≡ m.close_faults =
    ap (λ (b : Bool). cond b (counted FaultExit m.close_faults) m.close_faults) unclosed in
    let before : cond (closes d) m.close_faults m.close_faults ≡ m.close_faults =
    ap (λ (b : Bool). cond b m.close_faults m.close_faults) unclosed in
    let same : cond (closes d) (counted FaultExit m.close_faults) m.close_faults ≡ new.close_faults =
    omega (arith, counts, before) in
    λ i. record new { close_faults = same i }
action_alike m t a _ quiet unclosed = cc

thread_alike : (m : StepMachine) (t : ℕ) (o : Option StepActor) → says calls_host m (t, Ok) o ≡ false
    → says closes_resource m (t, Ok) o ≡ false → after m (t, Fault) o ≡ after m (t, Ok) o
thread_alike m t None quiet unclosed = refl
thread_alike m t (Some a) quiet unclosed =
    action_alike m t a (status_action m.functions m.layout t a a.actor.status) quiet unclosed

pub faults_alike : (m : StepMachine) (t : ℕ) → FaultsAlike m t
faults_alike m t quiet unclosed = thread_alike m t (slice_get m.actors t) quiet unclosed
