-- Each event keeps the rows and cells of threads' duties in range.
use Rattle.std.proofs.Common.{◌≡◌, ℕ, ◌+◌, List, [], ◌∷◌, length, Option, None, Some, refl, subst}
use Rattle.std.specs.Prelude.{slice_get}
use Rattle.brc_lang.specs.declared.module.Module.{Module}
use Rattle.brc_model.specs.AbstractState.{Move}
use Rattle.brc_model.specs.Machine.{with_actor, with_moves}
use Rattle.brc_model.specs.declared.state.State.{State}
use Rattle.brc_model.specs.declared.thread.Call.{Call}
use Rattle.brc_model.specs.declared.thread.Choice.{Choice}
use Rattle.brc_model.proofs.Basics.Lists.{written_actor}
use Rattle.brc_model.specs.declared.state.Exit.{Exit}
use Rattle.brc_model.specs.Actions.{StepActor, Action, Skip, Stuck, Silent, Calls, Does}
use Rattle.brc_model.specs.Dispatch.{exit_of, action_of}
use Rattle.brc_model.specs.StepMachine.{StepMachine, counting, of_thread, machine_by, next_machine, machine_after, layout_of, first_machine}
use Rattle.brc_model.proofs.Keeping.FirstRanges.{rooted_ranges}
use Rattle.brc_model.proofs.Keeping.FirstMachine.{first_rooted, has_lines, wide_cells, few_cells}
use Rattle.brc_model.proofs.Dispatch.Counting.{its_found, counting_silent, counting_called, counting_done}
use Rattle.brc_model.proofs.Keeping.CodeInvariant.{CodeInvariant}
use Rattle.brc_model.proofs.Dispatch.Actions.{ActionFits, action_fits}
use Rattle.brc_model.proofs.Keeping.CodeEvents.{event_keeps}
use Rattle.brc_model.specs.Ranges.{AreSmall, Ranges}
use Rattle.brc_model.proofs.Limits.Ranges.{head_small, duty_ranges}
use Rattle.brc_lang.specs.Grammar.{IsModule}

-- A step on no word leaves the thread's duties as they are.
quiet_ranges : (p : Module) (n : ℕ) (m : StepMachine) (t : ℕ) (a : StepActor) (moves : List Move)
    → Ranges n (counting m) → slice_get m.actors t ≡ Some a
    → Ranges n (with_moves (with_actor (counting m) t a.actor) moves)
quiet_ranges p n m t a moves ranges found =
    let there = its_found m t a found in
    record {
      kinds = ranges.kinds;
      each =
          written_actor (λ u c. AreSmall m.layout c.agenda) (counting m).actors t a.actor a.actor there
          (ranges.each t a.actor there) ranges.each;
      aside =
          written_actor (λ u c. AreSmall m.layout c.aside) (counting m).actors t a.actor a.actor there
          (ranges.aside t a.actor there) ranges.aside;
    }

action_ranges : (p : Module) (n : ℕ) (m : StepMachine) (t : ℕ) (a : StepActor) (exit : Exit) (x : Action)
    → (whole : CodeInvariant p n m)
    → Ranges n (counting m) → slice_get m.actors t ≡ Some a → ActionFits whole.accounts n m t a x
    → Ranges n (counting (machine_by m t a exit x))
action_ranges p n m t a exit Skip whole ranges found fits = ranges
action_ranges p n m t a exit Stuck whole ranges found fits = ranges
action_ranges p n m t a exit (Silent moves place) whole ranges found fits =
    subst (Ranges n) (counting_silent m t a moves place) (quiet_ranges p n m t a moves ranges found)
action_ranges p n m t a exit (Calls row place) whole ranges found fits =
    subst (Ranges n) (counting_called m t a exit place) (quiet_ranges p n m t a [] ranges found)
action_ranges p n m t a exit (Does d rest place) whole ranges found fits =
    let there = its_found m t a found in
    let core = whole.kept.core in
    subst (Ranges n) (counting_done m t a exit d rest place)
    (duty_ranges t a.actor a.actor d rest core ranges there (head_small t a.actor core there)
    (fits.small ranges.kinds (ranges.each t a.actor there)) (ranges.aside t a.actor there))

thread_ranges : (p : Module) (n : ℕ) (m : StepMachine) (t : ℕ) (choice : Choice) (o : Option StepActor)
    → CodeInvariant p n m
    → Ranges n (counting m) → slice_get m.actors t ≡ o
    → Ranges n (counting (of_thread m
    (λ a. machine_by m t a (exit_of choice) (action_of m.functions m.states m.layout t a choice)) o))
thread_ranges p n m t choice None whole ranges found = ranges
thread_ranges p n m t choice (Some a) whole ranges found =
    action_ranges p n m t a (exit_of choice) (action_of m.functions m.states m.layout t a choice) whole ranges found
    (action_fits p n m t a choice whole found)

-- Both invariants hold: that of accepted code, and the ranges.
pub record Bounded (p : Module) (n : ℕ) (m : StepMachine) : Type 0 where
  pub whole : CodeInvariant p n m
  pub ranges : Ranges n (counting m)

-- Every list of events keeps both invariants.
pub bounded_after : (p : Module) (n : ℕ) (m : StepMachine) (events : List (ℕ × Choice)) → Bounded p n m
    → Bounded p n (machine_after m events)
bounded_after p n m [] bounded = bounded
bounded_after p n m (e ∷ events) bounded = bounded_after p n (next_machine m e) events (record {
  whole = (event_keeps p n m e bounded.whole).1;
  ranges = thread_ranges p n m e.0 e.1 (slice_get m.actors e.0) bounded.whole bounded.ranges refl;
})

-- ---- the first machine

-- The duties and kind words of the first machine are in range.
pub first_ranges : (m : Module) (states : ℕ → ℕ → Option State) (rows : ℕ) (calls : List Call) → IsModule m
    → Ranges (1 + length calls) (counting (first_machine m states rows calls))
first_ranges m states rows calls fits =
    subst (Ranges (1 + length calls)) (first_rooted m states rows calls)
    (rooted_ranges m.statics (layout_of m (length calls) rows) (1 + length calls)
    (has_lines m (length calls) rows fits) (wide_cells m (length calls) rows)
    (few_cells m (length calls) rows))
