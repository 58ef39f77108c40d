-- The sight of a step, by the step's start.
use Rattle.std.proofs.Common.{◌≡◌, ◌≢◌, ℕ, List, [], ◌∷◌, Option, None, Some, refl, sym, ap, ◌∙◌, subst}
use Rattle.brc_lang.specs.declared.module.Function.{Function}
use Rattle.brc_model.specs.declared.actor.Status.TheVariants.{Gone}
use Rattle.brc_model.specs.declared.address.Address.{Address}
use Rattle.brc_model.specs.declared.duty.Duty.{Duty}
use Rattle.brc_model.specs.declared.duty.Duty.TheVariants.{LockGate}
use Rattle.brc_model.specs.declared.layout.Layout.{Layout}
use Rattle.brc_model.specs.declared.thread.Choice.{Choice}
use Rattle.brc_model.specs.Actions.{StepActor, Action, Skip, Stuck, Silent, Calls, Does}
use Rattle.brc_model.specs.Dispatch.{exit_of, agenda_action, status_action}
use Rattle.brc_world.specs.declared.dispatch.Start.{Start}
use Rattle.brc_world.specs.declared.dispatch.Start.TheVariants as starts
use Rattle.brc_machine.specs.declared.sight.Event.TheVariants as events
use Rattle.brc_machine.specs.declared.sight.Sight.{Sight}
use Rattle.brc_world.specs.Actors.{CanDo, CanAct}
use Rattle.brc_machine.specs.Sights.{duty_event, kind_born, sight_of, sight_by}
use Rattle.brc_world.specs.Starts.{start_by, first_start, unasking}
use Rattle.brc_world.proofs.Acting.{alive_action}

module _ (layout : Layout) (t : ℕ) (memory : Address → ℕ) (a : StepActor) (choice : Choice) where
  -- the sight of a step that does the duty
  abbrev pub duty_seen : Duty → Option Sight
  duty_seen d = Some (sight_of layout a choice (duty_event layout t memory a d) (kind_born memory d))

  -- the sight of a step with the start
  abbrev pub seen_by : Start → Option Sight
  seen_by starts.Stuck = None
  seen_by starts.Moved = Some (sight_of layout a choice events.Silent None)
  seen_by (starts.Calling call) = Some (sight_of layout a choice (events.Calls (exit_of choice)) None)
  seen_by (starts.Doing d) = duty_seen d
  seen_by (starts.Asking d question) = duty_seen d
  seen_by (starts.Locking row left next) = duty_seen (LockGate row)

  action_seen : (x : Action) → seen_by (start_by x) ≡ sight_by layout t memory a choice x
  action_seen Skip = refl
  action_seen Stuck = refl
  action_seen (Silent moves place) = refl
  action_seen (Calls row place) = refl
  action_seen (Does (LockGate row) rest place) = refl
  action_seen (Does d rest place) = refl

  unasked_seen : (start : Start) → seen_by start ≡ seen_by (unasking start)
  unasked_seen starts.Stuck = refl
  unasked_seen starts.Moved = refl
  unasked_seen (starts.Calling call) = refl
  unasked_seen (starts.Doing d) = refl
  unasked_seen (starts.Asking d question) = refl
  unasked_seen (starts.Locking row left next) = refl

  agenda_seen : (functions : List Function) (agenda : List Duty)
      → seen_by (first_start functions layout t a agenda)
      ≡ sight_by layout t memory a choice (agenda_action functions layout t a agenda)
  agenda_seen functions [] = action_seen (agenda_action functions layout t a [])
  agenda_seen functions (d ∷ rest) = refl

  -- The sight of a step with the thread's start is that of the thread's action.
  pub start_seen : (functions : List Function) (start : Start) → a.actor.status ≢ Gone
      → unasking start ≡ first_start functions layout t a a.actor.agenda
      → seen_by start ≡ sight_by layout t memory a choice (status_action functions layout t a a.actor.status)
  start_seen functions start alive starts =
      unasked_seen start ∙ ap seen_by starts ∙ agenda_seen functions a.actor.agenda
      ∙ ap (sight_by layout t memory a choice) (alive_action functions layout t a a.actor.status alive)

module _ (layout : Layout) (t n : ℕ) (memory : Address → ℕ) (a : StepActor) where
  -- the thread can do the duty of the start, if it has one
  abbrev pub CanStart : Start → Type 0
  CanStart (starts.Doing d) = CanDo layout t n memory a d
  CanStart (starts.Asking d question) = CanDo layout t n memory a d
  CanStart (starts.Locking row left next) = CanDo layout t n memory a (LockGate row)
  CanStart start = Unit {0}

  action_starts : (x : Action) → CanAct layout t n memory a x → CanStart (start_by x)
  action_starts Skip can = tt
  action_starts Stuck can = tt
  action_starts (Silent moves place) can = tt
  action_starts (Calls row place) can = tt
  action_starts (Does (LockGate row) rest place) can = can
  action_starts (Does d rest place) can = can

  asks_too : (start : Start) → CanStart (unasking start) → CanStart start
  asks_too starts.Stuck can = tt
  asks_too starts.Moved can = tt
  asks_too (starts.Calling call) can = tt
  asks_too (starts.Doing d) can = can
  asks_too (starts.Asking d question) can = can
  asks_too (starts.Locking row left next) can = can

  agenda_starts : (functions : List Function) (agenda : List Duty)
      → CanAct layout t n memory a (agenda_action functions layout t a agenda)
      → CanStart (first_start functions layout t a agenda)
  agenda_starts functions [] can = action_starts (agenda_action functions layout t a []) can
  agenda_starts functions (d ∷ rest) can = can

  -- The thread can do the duty of its step's start.
  pub start_can : (functions : List Function) (start : Start) → a.actor.status ≢ Gone
      → unasking start ≡ first_start functions layout t a a.actor.agenda
      → CanAct layout t n memory a (status_action functions layout t a a.actor.status) → CanStart start
  start_can functions start alive starts can =
      asks_too start
      (subst CanStart (sym starts)
      (agenda_starts functions a.actor.agenda
      (subst (CanAct layout t n memory a)
      (sym (alive_action functions layout t a a.actor.status alive)) can)))
