-- A thread does with words what its automaton can do: each of its own events is a step of the automaton, and an event
-- of another thread leaves it unchanged.
use Rattle.std.proofs.Common.{◌≡◌, ◌≢◌, ℕ, Bool, cond, List, [], ◌∷◌, ◌++◌, inl, inr, Option, None, Some, set, refl, sym, ◌∙◌, subst}
use Rattle.std.specs.Prelude.{slice_get}
use Rattle.std.proofs.lemmas.Bool.Decides.{eqb_tells}
use Rattle.std.proofs.lemmas.Option.{slice_get_within}
use Rattle.brc_lang.specs.declared.module.Function.{Function}
use Rattle.brc_model.specs.declared.thread.Choice.{Choice}
use Rattle.brc_model.specs.declared.state.Exit.{Exit}
use Rattle.brc_model.specs.Actions.{StepActor, Action, Skip, Stuck, Silent, Calls, Does}
use Rattle.brc_model.specs.Dispatch.{exit_of, action_of}
use Rattle.brc_model.specs.StepMachine.{StepMachine, counting, of_thread, at_place, step_actor, machine_by, next_machine, machine_after}
use Rattle.brc_model.specs.declared.event.WordEvent.{WordEvent}
use Rattle.brc_model.specs.Trace.{MakesStep, GoesSilently, CallsHost, DoesDuty, CanMake, Nothing, Then, made_by, made_at, events_on}
use Rattle.brc_model.proofs.Basics.Lists.{some_is, slice_get-set_same, slice_get-set_other}
use Rattle.brc_model.proofs.Stepping.FitsAfter.{found_by}
use Rattle.brc_model.specs.declared.layout.Layout.{Layout}
use Rattle.brc_model.specs.declared.state.State.{State}

-- ---- an event of the thread

-- At an event the thread is unchanged, or takes one of its automaton's steps.
data Went (functions : List Function) (states : ℕ → ℕ → Option State) (layout : Layout) (t : ℕ) (a : StepActor)
    (made : List WordEvent)
    (b : StepActor) : Type 0 where
  Stays : b ≡ a → made ≡ [] → Went functions states layout t a made b
  Steps : MakesStep functions states layout t a made b → Went functions states layout t a made b

record MakesWords (m new : StepMachine) (t : ℕ) (a : StepActor) (made : List WordEvent) : Type 0 where
  functions : new.functions ≡ m.functions
  states : new.states ≡ m.states
  layout : new.layout ≡ m.layout
  after : StepActor
  is_there : slice_get new.actors t ≡ Some after
  went : Went m.functions m.states m.layout t a made after

stays_there : (m : StepMachine) (t : ℕ) (a : StepActor) → slice_get m.actors t ≡ Some a → MakesWords m m t a []
stays_there m t a found =
    record { functions = refl; states = refl; layout = refl; after = a; is_there = found; went = Stays refl refl }

set_goes : (m : StepMachine) (t : ℕ) (a b : StepActor) → slice_get m.actors t ≡ Some a
    → slice_get (set m.actors t b) t ≡ Some b
set_goes m t a b found = slice_get-set_same m.actors t b (slice_get_within m.actors t a found)

action_goes : (m : StepMachine) (t : ℕ) (a : StepActor) (choice : Choice) (x : Action) → slice_get m.actors t ≡ Some a
    → action_of m.functions m.states m.layout t a choice ≡ x
    → MakesWords m (machine_by m t a (exit_of choice) x) t a (made_by m t a x)
action_goes m t a choice Skip found is = stays_there m t a found
action_goes m t a choice Stuck found is = stays_there m t a found
action_goes m t a choice (Silent moves place) found is = record {
  functions = refl;
  states = refl;
  layout = refl;
  after = at_place a place;
  is_there = set_goes m t a (at_place a place) found;
  went = Steps (GoesSilently choice moves place is);
}
action_goes m t a choice (Calls row place) found is = record {
  functions = refl;
  states = refl;
  layout = refl;
  after = at_place a (place (exit_of choice));
  is_there = set_goes m t a (at_place a (place (exit_of choice))) found;
  went = Steps (CallsHost choice row place (exit_of choice) is);
}
action_goes m t a choice (Does d rest place) found is =
    let word = found_by (counting m) t a.actor d in
    let after = step_actor m.layout t a d rest (place word) word in
    record {
      functions = refl;
      states = refl;
      layout = refl;
      after = after;
      is_there = set_goes m t a after found;
      went = Steps (DoesDuty choice d rest place word is);
    }

-- ---- an event of another thread

pub record LeavesAt (m new : StepMachine) (t : ℕ) : Type 0 where
  pub functions : new.functions ≡ m.functions
  pub states : new.states ≡ m.states
  pub layout : new.layout ≡ m.layout
  pub actor : slice_get new.actors t ≡ slice_get m.actors t

leaves_all : (m : StepMachine) (t : ℕ) → LeavesAt m m t
leaves_all m t = record { functions = refl; states = refl; layout = refl; actor = refl }

action_leaves : (m : StepMachine) (u t : ℕ) (a : StepActor) (exit : Exit) (x : Action) → t ≢ u
    → LeavesAt m (machine_by m u a exit x) t
action_leaves m u t a exit Skip ne = leaves_all m t
action_leaves m u t a exit Stuck ne = leaves_all m t
action_leaves m u t a exit (Silent moves place) ne =
    record {
      functions = refl;
      states = refl;
      layout = refl;
      actor = slice_get-set_other m.actors u t
          (at_place a place) ne;
    }
action_leaves m u t a exit (Calls row place) ne =
    record {
      functions = refl;
      states = refl;
      layout = refl;
      actor = slice_get-set_other m.actors u t
          (at_place a (place exit)) ne;
    }
action_leaves m u t a exit (Does d rest place) ne =
    let word = found_by (counting m) u a.actor d in
    record {
      functions = refl;
      states = refl;
      layout = refl;
      actor = slice_get-set_other m.actors u t (step_actor m.layout u a d rest (place word) word) ne;
    }

-- The machine after an event of the thread.
abbrev after : StepMachine → ℕ → Choice → Option StepActor → StepMachine
after m t choice o = of_thread m (λ a. machine_by m t a (exit_of choice)
    (action_of m.functions m.states m.layout t a choice)) o

abbrev made : StepMachine → ℕ → Choice → Option StepActor → List WordEvent
made m t choice o = of_thread [] (λ a. made_by m t a (action_of m.functions m.states m.layout t a choice)) o

pub thread_leaves : (m : StepMachine) (u t : ℕ) (choice : Choice) (o : Option StepActor) → t ≢ u
    → LeavesAt m (after m u choice o) t
thread_leaves m u t choice None ne = leaves_all m t
thread_leaves m u t choice (Some a) ne = action_leaves m u t a (exit_of choice)
    (action_of m.functions m.states m.layout u a choice) ne

-- ---- any event

other_goes : (m : StepMachine) (event : ℕ × Choice) (t : ℕ) (a : StepActor) → slice_get m.actors t ≡ Some a
    → t ≢ event.0
    → MakesWords m (next_machine m event) t a []
other_goes m event t a found ne =
    let leaves = thread_leaves m event.0 t event.1 (slice_get m.actors event.0) ne in
    record {
      functions = leaves.functions;
      states = leaves.states;
      layout = leaves.layout;
      after = a;
      is_there = leaves.actor ∙ found;
      went = Stays refl refl;
    }

own_goes : (m : StepMachine) (event : ℕ × Choice) (t : ℕ) (a : StepActor) → slice_get m.actors t ≡ Some a → event.0 ≡ t
    → MakesWords m (next_machine m event) t a (made m t event.1 (slice_get m.actors t))
own_goes m event t a found same =
    let own = action_goes m t a event.1 (action_of m.functions m.states m.layout t a event.1) found refl in
    let at_var : MakesWords m (after m t event.1 (slice_get m.actors t)) t a
    (made m t event.1 (slice_get m.actors t)) =
    subst (λ (o : Option StepActor). MakesWords m (after m t event.1 o) t a (made m t event.1 o)) (sym found) own in
    subst (λ (u : ℕ). MakesWords m (after m u event.1 (slice_get m.actors u)) t a
    (made m t event.1 (slice_get m.actors t))) (sym same) at_var

event_goes : (m : StepMachine) (event : ℕ × Choice) (t : ℕ) (a : StepActor) → slice_get m.actors t ≡ Some a
    → MakesWords m (next_machine m event) t a (made_at t m event)
event_goes m event t a found =
    elim (eqb_tells event.0 t) [
      | inl same ↦
          subst (λ (b : Bool). MakesWords m (next_machine m event) t a
          (cond b (made m t event.1 (slice_get m.actors t)) [])) (sym same.0)
          (own_goes m event t a found same.1)
      | inr apart ↦
          subst (λ (b : Bool). MakesWords m (next_machine m event) t a
          (cond b (made m t event.1 (slice_get m.actors t)) [])) (sym apart.0)
          (other_goes m event t a found (λ e. apart.1 (sym e)))
    ]

-- ---- a list of events

then_make : (functions : List Function) (states : ℕ → ℕ → Option State) (layout : Layout) (t : ℕ) (a b c : StepActor)
    (made rest : List WordEvent)
    → Went functions states layout t a made b → CanMake functions states layout t b rest c
    → CanMake functions states layout t a (made ++ rest) c
then_make functions states layout t a b c made rest (Steps step) can = Then a b c made rest step can
then_make functions states layout t a b c made rest (Stays same none) can =
    subst (λ (l : List WordEvent). CanMake functions states layout t a (l ++ rest) c) (sym none)
    (subst (λ (x : StepActor). CanMake functions states layout t x rest c) same can)

-- What a thread does with words along a list of events is what its automaton can do.
pub traces_made : (m : StepMachine) (events : List (ℕ × Choice)) (t : ℕ) (a b : StepActor)
    → slice_get m.actors t ≡ Some a
    → slice_get (machine_after m events).actors t ≡ Some b → CanMake m.functions m.states m.layout t a
    (events_on t m events) b
traces_made m [] t a b found ends =
    subst (λ (c : StepActor). CanMake m.functions m.states m.layout t a [] c) (some_is a b (sym found ∙ ends))
    (Nothing a)
traces_made m (event ∷ rest) t a b found ends =
    let goes = event_goes m event t a found in
    let behind = traces_made (next_machine m event) rest t goes.after b goes.is_there ends in
    let later = events_on t (next_machine m event) rest in
    let by_functions : CanMake m.functions (next_machine m event).states (next_machine m event).layout t goes.after
    later b =
    subst (λ (f : List Function). CanMake f (next_machine m event).states (next_machine m event).layout t goes.after
    later b) goes.functions behind in
    let by_states : CanMake m.functions m.states (next_machine m event).layout t goes.after later b =
    subst (λ (s : ℕ → ℕ → Option State). CanMake m.functions s (next_machine m event).layout t goes.after later b)
    goes.states by_functions in
    let here : CanMake m.functions m.states m.layout t goes.after later b =
    subst (λ (l : Layout). CanMake m.functions m.states l t goes.after later b) goes.layout by_states in
    then_make m.functions m.states m.layout t a goes.after b (made_at t m event) later goes.went here
