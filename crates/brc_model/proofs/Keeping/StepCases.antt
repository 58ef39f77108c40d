-- A property of every event follows from four cases: nothing happens, the thread takes up duties before its step, the
-- thread takes a silent step, or the thread does its first duty. All of it is said of the counting machine.
use Rattle.std.proofs.Common.{◌≡◌, ℕ, List, [], ◌∷◌, Option, None, Some, refl, ◌∙◌, subst}
use Rattle.std.specs.Prelude.{slice_get}
use Rattle.brc_lang.specs.declared.module.Module.{Module}
use Rattle.brc_model.specs.AbstractState.{Move}
use Rattle.brc_model.specs.declared.duty.Duty.{Duty}
use Rattle.brc_model.specs.declared.thread.Choice.{Choice}
use Rattle.brc_model.specs.declared.actor.Actor.{Actor}
use Rattle.brc_model.specs.Machine.{Machine, machine_by_duty, with_actor, with_moves}
use Rattle.brc_model.specs.declared.state.Exit.{Exit}
use Rattle.brc_model.specs.Actions.{StepActor, Action, Skip, Stuck, Silent, Calls, Does}
use Rattle.brc_model.specs.Dispatch.{exit_of, action_of}
use Rattle.brc_model.specs.StepMachine.{StepMachine, counting, of_thread, does_by, machine_by, next_machine}
use Rattle.brc_model.proofs.Keeping.SilentMoves.{SilentMoves}
use Rattle.brc_model.proofs.Keeping.Sits.{sitting, taken_up_step}
use Rattle.brc_model.specs.Counting.{with_account}
use Rattle.brc_model.specs.Accounts.{Accounts}
use Rattle.brc_model.specs.Invariant.{AtDuty, Invariant}
use Rattle.brc_model.proofs.Keeping.Kept.{Doing}
use Rattle.brc_model.proofs.Keeping.CodeInvariant.{CodeInvariant}
use Rattle.brc_model.proofs.Dispatch.Counting.{its_found, counting_silent, counting_called, counting_done}
use Rattle.brc_model.proofs.Dispatch.Actions.{ActionFits, action_fits}

-- The four cases, for a property of the thread's number, of the machine before and of the machine after.
pub record ShowsSteps (Q : ℕ → Machine → Machine → Type 0) (n : ℕ) : Type 0 where
  -- Nothing happens.
  pub stays : (p : Accounts) (t : ℕ) (m : Machine) → Invariant p n m → Q t m m
  -- The property doesn't depend on the thread's agenda before its step.
  pub sits : (t : ℕ) (m new : Machine) (a : Actor) (agenda : List Duty) → slice_get m.actors t ≡ Some a
      → Q t (with_actor m t (sitting a agenda)) new → Q t m new
  -- Some of the thread's references move.
  pub moves : (p : Accounts) (t : ℕ) (m : Machine) (a : Actor) (moves : List Move) → Invariant p n m
      → slice_get m.actors t ≡ Some a → SilentMoves m.layout m.abstract.references t moves
      → Q t m (with_moves (with_actor m t a) moves)
  -- The thread does its first duty.
  pub does : (p : Accounts) (t : ℕ) (m : Machine) (a : Actor) (d : Duty) (rest : List Duty) → Doing p n m t a d rest
      → Q t m (machine_by_duty m t a d rest)

module _ {p : Accounts} {n : ℕ} {m : Machine} {t : ℕ} {a : Actor} {d : Duty} {rest : List Duty} where
  -- The premise of the lemmas about one duty.
  pub at_duty : Doing p n m t a d rest → AtDuty p n m t a d rest
  at_duty doing = record { core = doing.kept.core; found = doing.found; agenda = doing.agenda }

action_shows : {Q : ℕ → Machine → Machine → Type 0} {p : Module} {n : ℕ} → ShowsSteps Q n
    → (m : StepMachine) (t : ℕ) (a : StepActor) (exit : Exit) (x : Action) → (whole : CodeInvariant p n m)
    → slice_get m.actors t ≡ Some a
    → ActionFits whole.accounts n m t a x
    → Q t (counting m) (counting (machine_by m t a exit x))
action_shows shows m t a exit Skip whole found fits = shows.stays whole.accounts t (counting m) whole.kept
action_shows shows m t a exit Stuck whole found fits = absurd fits
action_shows {Q = Q} shows m t a exit (Silent moves place) whole found fits =
    subst (Q t (counting m)) (counting_silent m t a moves place)
    (shows.moves whole.accounts t (counting m) a.actor moves whole.kept fits.at.found fits.sits.moves_fit)
action_shows {Q = Q} shows m t a exit (Calls row place) whole found fits =
    let silent = fits.silent exit in
    subst (Q t (counting m)) (counting_called m t a exit place)
    (shows.moves whole.accounts t (counting m) a.actor [] whole.kept silent.at.found silent.sits.moves_fit)
action_shows {Q = Q} shows m t a exit (Does d rest place) whole found fits =
    let now = sitting a.actor (d ∷ rest) in
    let done =
    shows.does (with_account whole.accounts t fits.account) t (with_actor (counting m) t now) now d rest fits.doing in
    shows.sits t (counting m) (counting (does_by m t a exit d rest place)) a.actor (d ∷ rest) (its_found m t a found)
    (subst (Q t (with_actor (counting m) t now))
    (taken_up_step (counting m) t a.actor d rest ∙ counting_done m t a exit d rest place) done)

pub thread_shows : {Q : ℕ → Machine → Machine → Type 0} {p : Module} {n : ℕ} → ShowsSteps Q n
    → (m : StepMachine) (t : ℕ) (choice : Choice) (o : Option StepActor) → CodeInvariant p n m
    → slice_get m.actors t ≡ o
    → Q t (counting m) (counting
    (of_thread m (λ a. machine_by m t a (exit_of choice) (action_of m.functions m.states m.layout t a choice)) o))
thread_shows shows m t choice None whole found = shows.stays whole.accounts t (counting m) whole.kept
thread_shows {p = p} {n = n} shows m t choice (Some a) whole found =
    action_shows shows m t a (exit_of choice) (action_of m.functions m.states m.layout t a choice) whole found
    (action_fits p n m t a choice whole found)

-- The property holds of every event.
pub event_shows : {Q : ℕ → Machine → Machine → Type 0} {p : Module} {n : ℕ} → ShowsSteps Q n
    → (m : StepMachine) (event : ℕ × Choice) → CodeInvariant p n m
    → Q event.0 (counting m) (counting (next_machine m event))
event_shows shows m event whole = thread_shows shows m event.0 event.1 (slice_get m.actors event.0) whole refl
