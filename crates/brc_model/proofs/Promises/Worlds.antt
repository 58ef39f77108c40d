-- A machine's step is a step of the world that its threads see, and reachability is closed under steps.
use Rattle.std.proofs.Common.{◌≡◌, ℕ, ◌<◌, ◌≤◌, List, [], ◌∷◌, ◌++◌, Option, None, Some, refl, sym, ap, ◌∙◌}
use Rattle.std.specs.Prelude.{slice_get}
use Rattle.std.proofs.lemmas.List.Sums.{fold_push}
use Rattle.brc_lang.specs.declared.module.Module.{Module}
use Rattle.brc_lang.specs.Grammar.{IsModule}
use Rattle.brc_model.specs.declared.state.State.{State}
use Rattle.brc_model.specs.declared.thread.Call.{Call}
use Rattle.brc_model.specs.declared.thread.Choice.{Choice}
use Rattle.brc_model.specs.Paths.{IsAcceptable}
use Rattle.brc_model.specs.Tables.{AreTrueWhereReached}
use Rattle.brc_model.specs.Safety.{AreCalls}
use Rattle.brc_model.specs.declared.state.Exit.{Exit}
use Rattle.brc_model.specs.Actions.{StepActor, Action, Skip}
use Rattle.brc_model.specs.Dispatch.{exit_of, action_of}
use Rattle.brc_model.specs.StepMachine.{StepMachine, of_thread, machine_by, next_machine, first_machine, machine_after}
use Rattle.brc_model.specs.World.{World, world_of, machine_of, first_world, step, IsReachable}
use Rattle.brc_model.specs.Limits.{row_limit}

-- ---- a step depends on the world alone

-- The machine with the same world, an empty abstract state and no born row.
abbrev bared : StepMachine → StepMachine
bared m = machine_of (world_of m)

action_alike : (m : StepMachine) (t : ℕ) (a : StepActor) (exit : Exit) (x : Action)
    → world_of (machine_by m t a exit x) ≡ world_of (machine_by (bared m) t a exit x)
action_alike m t a exit Skip = refl
action_alike m t a exit _ = cc

thread_alike : (m : StepMachine) (t : ℕ) (choice : Choice) (o : Option StepActor)
    → world_of (of_thread m (λ a. machine_by m t a (exit_of choice)
    (action_of m.functions m.states m.layout t a choice)) o)
    ≡ world_of (of_thread (bared m)
    (λ a. machine_by (bared m) t a (exit_of choice) (action_of m.functions m.states m.layout t a choice)) o)
thread_alike m t choice None = refl
thread_alike m t choice (Some a) = action_alike m t a (exit_of choice)
    (action_of m.functions m.states m.layout t a choice)

-- The world of the machine after an event is the world after the step.
pub worlds_follow : (m : StepMachine) (event : ℕ × Choice)
    → world_of (next_machine m event) ≡ step (world_of m) event.0 event.1
worlds_follow m event = thread_alike m event.0 event.1 (slice_get m.actors event.0)

-- ---- reachable worlds

-- The first world is reachable.
pub first_reachable : (p : Module) (states : ℕ → ℕ → Option State) (rows : ℕ) (calls : List Call) → IsModule p
    → IsAcceptable p → AreTrueWhereReached p states → 0 < rows → rows ≤ row_limit → AreCalls p calls
    → IsReachable p (first_world p states rows calls)
first_reachable p states rows calls fits accepted states_true some most calls_fit = record {
  fits = fits;
  accepted = accepted;
  states = states;
  rows = rows;
  calls = calls;
  events = [];
  states_true = states_true;
  some_rows = some;
  most_rows = most;
  calls_fit = calls_fit;
  reached = refl;
}

-- A step of a reachable world leads to a reachable world.
pub step_reachable : (p : Module) (w : World) (t : ℕ) (choice : Choice) → IsReachable p w
    → IsReachable p (step w t choice)
step_reachable p w t choice here =
    let first = first_machine p here.states here.rows here.calls in
    let m = machine_after first here.events in
    record {
      fits = here.fits;
      accepted = here.accepted;
      states = here.states;
      rows = here.rows;
      calls = here.calls;
      events = here.events ++ (t, choice) ∷ [];
      states_true = here.states_true;
      some_rows = here.some_rows;
      most_rows = here.most_rows;
      calls_fit = here.calls_fit;
      reached = ap (λ (v : World). step v t choice) here.reached ∙ sym (worlds_follow m (t, choice))
          ∙ ap world_of (sym (fold_push next_machine first here.events (t, choice)));
    }
