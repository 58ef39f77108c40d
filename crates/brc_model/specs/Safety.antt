-- The safety of an accepted module.
use Rattle.std.specs.Prelude.{◌≡◌, ◌≢◌, ℕ, ◌<◌, ◌≤◌, Bool, true, false, List, [], length, AllPairs, ◌↔◌, Option}
use Rattle.std.specs.List.{All, AllByRecursion, list_all}
use Rattle.brc_lang.specs.declared.module.Module.{Module}
use Rattle.brc_model.specs.declared.thread.Call.{Call}
use Rattle.brc_model.specs.declared.thread.Choice.{Choice}
use Rattle.brc_model.specs.declared.state.State.{State}
use Rattle.brc_model.specs.declared.actor.Status.{Status}
use Rattle.brc_model.specs.declared.actor.Status.TheVariants.{Running, Leaving, Gone}
use Rattle.brc_model.specs.AbstractState.{Reference, AbstractState, ByCell, is_among, references_to}
use Rattle.brc_word.specs.Words.{kind_part}
use Rattle.brc_model.specs.Kinds.{kind_number}
use Rattle.brc_model.specs.declared.address.Address.TheVariants.{KindOf}
use Rattle.brc_model.specs.declared.actor.Actor.{Actor}
use Rattle.brc_model.specs.Machine.{Unborn, Live, Machine}
use Rattle.brc_model.specs.StepMachine.{StepMachine, counting, first_machine, machine_after}
use Rattle.brc_model.specs.Agreement.{AgreesAt, IsFreeOf}
use Rattle.brc_model.specs.Events.{is_bad_event}
use Rattle.brc_model.specs.Limits.{row_limit, worker_limit, times_limit}
use Rattle.brc_model.specs.Layout.{IsCounted}
use Rattle.brc_model.specs.Tables.{AreTrueWhereReached}
use Rattle.brc_model.specs.Threads.{function_at}

-- the calls of one worker: 1 to 1,000,000 calls of one function of the module, which has no parameters
abbrev pub IsCall : Module → Call → Type 0
IsCall m c =
    (c.function < length m.functions) × (0 < c.times) × (c.times ≤ times_limit)
    × ((function_at m.functions c.function).parameters ≡ [])

-- the calls of 1 to 32 workers
pub record AreCalls (m : Module) (calls : List Call) : Type 0 where
  pub some : 0 < length calls
  pub most : length calls ≤ worker_limit
  pub each : AllByRecursion (IsCall m) calls

abbrev pub has_gone : Status → Bool
has_gone Gone = true
has_gone Running = false
has_gone Leaving = false

-- all threads are gone
abbrev pub AllGone : Machine → Type 0
AllGone m = list_all (λ (a : Actor). has_gone a.status) m.actors ≡ true

-- a cell of a list that isn't closed holds the reference
pub record IsHeldByOpenList (p : AbstractState) (r : Reference) : Type 0 where
  pub list : ℕ
  pub cell : ℕ
  pub holder : r.holder ≡ ByCell list cell
  pub not_closed : is_among list p.closed ≡ false

-- what holds at each moment of a safe module's runs
pub record IsSafeNow (m : StepMachine) : Type 0 where
  -- no event that can come next is bad
  pub none_bad : (event : ℕ × Choice) → is_bad_event m event ≡ false
  -- each counted row's counts and state agree with the references that are held and the pending decrements
  pub agrees : (x : ℕ) → IsCounted m.layout x → AgreesAt (counting m) x
  -- the kind word of each born row names its object's kind
  pub kinds : (x : ℕ) → m.life x ≢ Unborn → kind_part (m.memory (KindOf x)) ≡ kind_number (m.abstract.kinds x)
  -- a dying or closed row has no reference and no pending decrement
  pub free : (x : ℕ) → IsCounted m.layout x → m.life x ≢ Live → m.life x ≢ Unborn → IsFreeOf (counting m) x
  -- no row is closed twice
  pub closed_once : AllPairs (λ x y. x ≢ y) m.abstract.closed
  -- once all threads are gone, exactly the born objects to which no reference is left are closed
  pub closed_at_end : AllGone (counting m) → (x : ℕ)
      → (is_among x m.abstract.closed ≡ true)
      ↔ ((is_among x m.abstract.born ≡ true) × (references_to x m.abstract.references ≡ 0))
  -- once all threads are gone, a cell of an open list holds each reference that is left
  pub left_in_lists : AllGone (counting m) → All (IsHeldByOpenList m.abstract) m.abstract.references

-- At each moment of the module's runs, `IsSafeNow` holds, for all states that are true at each point that a path
-- reaches, every number of workers and rows, every list of calls and every list of steps and choices, wherever the list
-- stops: no event is bad, the counts of each row add up to the references that are held and the pending decrements, and
-- nothing is closed twice. Once all threads are gone, a cell of an open list holds each reference that is left, and
-- exactly the objects to which none is left have been closed.
abbrev pub RunsAreSafe : Module → Type 0
RunsAreSafe m =
    (states : ℕ → ℕ → Option State) (rows : ℕ) (calls : List Call) (events : List (ℕ × Choice))
    → AreTrueWhereReached m states → 0 < rows → rows ≤ row_limit → AreCalls m calls
    → IsSafeNow (machine_after (first_machine m states rows calls) events)

-- The module's points have states: some states are true at each point that a path reaches.
abbrev pub HasStates : Module → Type 0
HasStates m = (states : ℕ → ℕ → Option State) × AreTrueWhereReached m states

-- The module is safe: its points have states, and its runs with any such states are safe. A module whose paths come to
-- one point in different states has no such states, so it isn't safe.
pub record Safe (m : Module) : Type 0 where
  pub has_states : HasStates m
  pub runs : RunsAreSafe m
