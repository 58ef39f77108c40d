-- The model's view of a thread, and what a step changes in the words and in its thread, by the thread's action.
use Rattle.std.specs.Prelude.{◌≡◌, ℕ, ◌≤◌, ◌<◌, Bool, true, false, ◌==◌, ◌&&◌, not, if◌then◌else◌, List, [], ◌∷◌, length, map, reverse, Option}
use Rattle.brc_word.specs.declared.values.TheConstants.{UNSET}
use Rattle.brc_model.specs.declared.actor.Status.{Status}
use Rattle.brc_model.specs.declared.actor.Status.TheVariants.{Running, Leaving, Gone}
use Rattle.brc_model.specs.declared.address.Address.{Address}
use Rattle.brc_model.specs.declared.duty.Duty.{Duty}
use Rattle.brc_model.specs.declared.duty.Duty.TheVariants.{ClaimMark}
use Rattle.brc_model.specs.declared.actor.Context.{Context}
use Rattle.brc_model.specs.declared.actor.Place.{Place}
use Rattle.brc_model.specs.declared.actor.Place.TheVariants.{Idle, InCall, Inside, Stopping, Exiting}
use Rattle.brc_model.specs.Duties.{address_of, new_word}
use Rattle.brc_model.specs.Within.{IsThere, Suits}
use Rattle.brc_model.specs.Machine as model
use Rattle.brc_model.specs.declared.state.Exit.{Exit}
use Rattle.brc_model.specs.declared.state.State.{State}
use Rattle.brc_lang.specs.declared.module.Function.{Function}
use Rattle.brc_lang.specs.Limits.{depth_limit}
use Rattle.brc_model.specs.Threads.{outer_of}
use Rattle.brc_world.specs.OpenCalls.{rows_of, AreKnown}
use Rattle.brc_model.specs.Actions.{StepActor, Action, Skip, Stuck, Silent, Calls, Does, stop_action}
use Rattle.brc_model.specs.Dispatch.{may_claim, may_stop}
use Rattle.brc_model.specs.StepMachine.{at_place, step_actor, counted, closes}
use Rattle.brc_model.specs.World.{finds_locked}
use Rattle.brc_machine.specs.declared.faults.Faults.{Faults}
use Rattle.brc_machine.specs.Sights.{found_by}
use Rattle.brc_world.specs.declared.did.Did.{Did}
use Rattle.brc_world.specs.declared.did.Did.TheVariants as answers
use Rattle.brc_world.specs.declared.thread.Mode.{Mode}
use Rattle.brc_world.specs.declared.thread.Mode.TheVariants as modes
use Rattle.brc_world.specs.declared.thread.Thread.{Thread}
use Rattle.brc_model.specs.declared.layout.Layout.{Layout}

-- the context of the thread's innermost call, where `left` calls remain after the one from outside
abbrev pub context_in : ℕ → Thread → Context
context_in left t = record { left = left; turns = t.turns; outer = t.outer }

-- The model's place of a thread. Only a call has an instruction, counts of its instructions `again`, and calls open
-- around it; once the thread has stopped, the variables of its calls name what it has still to give up.
abbrev pub place_of : Mode → Context → ℕ → List (Option ℕ) → Place
place_of modes.Idle context at variables = Idle context.left
place_of modes.InCall context at variables = InCall context at variables
place_of (modes.Inside stage) context at variables = Inside context at variables stage
place_of (modes.Stopping lock) context at variables = Stopping lock (variables ∷ map rows_of context.outer)
place_of modes.Exiting context at variables = Exiting

-- the model's thread; the first duty of its agenda is the last one of the code's vector
abbrev pub actor_of : Thread → StepActor
actor_of t = record {
  function = t.function;
  place = place_of t.mode (context_in t.left t) t.at t.variables;
  actor = record {
    status = t.status;
    agenda = reverse t.agenda.items;
    aside = [];
    head = t.head;
    used = t.used;
    locked = t.locked;
    lent = t.lent;
  };
}

abbrev pub with_agenda : StepActor → List Duty → StepActor
with_agenda a agenda =
    record {
      function = a.function;
      place = a.place;
      actor = record {
        status = a.actor.status;
        agenda = agenda;
        aside = a.actor.aside;
        head = a.actor.head;
        used = a.actor.used;
        locked = a.actor.locked;
        lent = a.actor.lent;
      };
    }

-- ---- a step of one thread

-- the words after a duty
abbrev pub words_after : Layout → ℕ → (Address → ℕ) → StepActor → Duty → Address → ℕ
words_after layout t memory a d =
    model.written memory (address_of layout t a.actor.head d)
    (new_word layout t a.actor.head d (found_by layout t memory a d))

-- the thread after a duty that was no longer in its agenda
abbrev pub actor_after : Layout → ℕ → (Address → ℕ) → StepActor → Duty → StepActor
actor_after layout t memory a d = step_actor layout t a d a.actor.agenda a.place (found_by layout t memory a d)

-- Returns the words after the thread's action.
abbrev pub memory_by : Layout → ℕ → (Address → ℕ) → StepActor → Action → Address → ℕ
memory_by layout t memory a Skip = memory
memory_by layout t memory a Stuck = memory
memory_by layout t memory a (Silent moves place) = memory
memory_by layout t memory a (Calls row place) = memory
memory_by layout t memory a (Does d rest place) = words_after layout t memory a d

-- Returns the thread after its action, which ends by the exit.
abbrev pub actor_by : Layout → ℕ → (Address → ℕ) → StepActor → Exit → Action → StepActor
actor_by layout t memory a exit Skip = a
actor_by layout t memory a exit Stuck = a
actor_by layout t memory a exit (Silent moves place) = at_place a place
actor_by layout t memory a exit (Calls row place) = at_place a (place exit)
actor_by layout t memory a exit (Does d rest place) =
    actor_after layout t memory (with_agenda (at_place a (place (found_by layout t memory a d))) rest) d

-- Returns the counts of faults after an action that ends by the exit: a host call or a close may have faulted.
abbrev pub faults_by : Exit → Action → Faults → Faults
faults_by exit (Calls row place) faults = record { calls = counted exit faults.calls; closes = faults.closes }
faults_by exit (Does d rest place) faults =
    record { calls = faults.calls; closes = if closes d then counted exit faults.closes else faults.closes }
faults_by exit _ faults = faults

-- Says whether the thread with this agenda waits for a lock: it begins with an instruction whose object another thread
-- has locked. An agenda never has a lock in it.
abbrev pub waits : (Address → ℕ) → List Duty → Action → Bool
waits memory [] x = finds_locked memory x
waits memory (d ∷ rest) x = false

-- Returns the answer of a step with the action, of a thread with this agenda. A thread that waits changes nothing.
abbrev pub answer_by : (Address → ℕ) → List Duty → Action → Did
answer_by memory agenda Skip = answers.Gone
answer_by memory agenda Stuck = answers.Same
answer_by memory agenda (Silent moves place) = answers.Moved
answer_by memory agenda (Calls row place) = answers.Moved
answer_by memory agenda (Does d rest place) =
    if waits memory agenda (Does d rest place) then answers.Same else answers.Moved

-- the thread can do the duty, in a world of n rows: the duty's word is there, its value suits the duty, and the thread
-- uses no more than n rows afterwards
pub record CanDo (layout : Layout) (t n : ℕ) (memory : Address → ℕ) (a : StepActor) (d : Duty) : Type 0 where
  pub there : IsThere layout (address_of layout t a.actor.head d)
  pub suits : Suits t (model.is_running a.actor.status) n d (found_by layout t memory a d)
  pub uses : model.used_by a.actor.used d ≤ n

-- A silent action leaves fewer calls open around the innermost one than the greatest depth of a function.
abbrev pub OpensFew : Action → Type 0
OpensFew (Silent moves place) = length (outer_of place) < depth_limit
OpensFew _ = Unit {0}

-- the thread can do its action's duty, if the action has one, and has room for the call that the action opens
abbrev pub CanAct : Layout → ℕ → ℕ → (Address → ℕ) → StepActor → Action → Type 0
CanAct layout t n memory a Skip = Unit {0}
CanAct layout t n memory a Stuck = Unit {0}
CanAct layout t n memory a (Silent moves place) = OpensFew (Silent moves place)
CanAct layout t n memory a (Calls row place) = Unit {0}
CanAct layout t n memory a (Does d rest place) = CanDo layout t n memory a d

-- ---- a claim

-- the thread may claim the row, and finds its mark set
abbrev pub finds_mark : Layout → ℕ → (Address → ℕ) → StepActor → ℕ → Bool
finds_mark layout t memory a row = may_claim layout t a row && not (model.mark_of layout memory row == UNSET)

-- the words after the thread claims the row
abbrev pub memory_claimed : Layout → ℕ → (Address → ℕ) → StepActor → ℕ → Address → ℕ
memory_claimed layout t memory a row =
    if finds_mark layout t memory a row then words_after layout t memory a (ClaimMark row) else memory

-- the thread after it claims the row
abbrev pub actor_claimed : Layout → ℕ → (Address → ℕ) → StepActor → ℕ → StepActor
actor_claimed layout t memory a row =
    if finds_mark layout t memory a row then actor_after layout t memory a (ClaimMark row) else a

-- the answer of the claim
abbrev pub did_claim : Layout → ℕ → (Address → ℕ) → StepActor → ℕ → Status → Did
did_claim layout t memory a row Gone = answers.Gone
did_claim layout t memory a row Running = if finds_mark layout t memory a row then answers.Moved else answers.Same
did_claim layout t memory a row Leaving = if finds_mark layout t memory a row then answers.Moved else answers.Same

-- the thread can claim the row, if it may
abbrev pub CanClaim : Layout → ℕ → ℕ → (Address → ℕ) → StepActor → ℕ → Type 0
CanClaim layout t n memory a row = may_claim layout t a row ≡ true → CanDo layout t n memory a (ClaimMark row)

-- ---- a stop

-- the thread's action at a stop
abbrev pub action_stopped : List Function → (ℕ → ℕ → Option State) → StepActor → Action
action_stopped functions states a =
    if may_stop a then stop_action functions states a.function a.place else Skip

-- Says whether the action changes the thread: a stop that acts is silent.
abbrev pub is_silent : Action → Bool
is_silent (Silent moves place) = true
is_silent _ = false

-- These states say in which state each open call of the thread waits, if the thread may stop.
abbrev pub CanStop : List Function → (ℕ → ℕ → Option State) → StepActor → Type 0
CanStop functions states a = may_stop a ≡ true → AreKnown functions states a.function (outer_of a.place)

-- the thread after the stop
abbrev pub silently : StepActor → Action → StepActor
silently a (Silent moves place) = at_place a place
silently a _ = a

-- the answer of the stop
abbrev pub did_stop : List Function → (ℕ → ℕ → Option State) → StepActor → Status → Did
did_stop functions states a Gone = answers.Gone
did_stop functions states a Running =
    if is_silent (action_stopped functions states a) then answers.Moved else answers.Same
did_stop functions states a Leaving =
    if is_silent (action_stopped functions states a) then answers.Moved else answers.Same
