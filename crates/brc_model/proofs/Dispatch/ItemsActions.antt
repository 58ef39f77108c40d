-- Whatever a thread of accepted code does, it knows at the place that its step leads to what it has to know of items.
use Rattle.std.proofs.Common.{◌≡◌, ℕ, zero, suc, List, [], ◌∷◌, Option, Some, refl, sym, subst, arith, None}
use Rattle.std.specs.Prelude.{slice_get, sum_by}
use Rattle.std.proofs.lemmas.List.Sums.{sum_by-cons}
use Rattle.brc_lang.specs.declared.module.Function.{Function}
use Rattle.brc_lang.specs.declared.module.Instr.{Instr}
use Rattle.brc_model.specs.declared.thread.Choice.{Choice}
use Rattle.brc_model.specs.declared.thread.Choice.TheVariants.{Ok, Fault, Claim, Stop}
use Rattle.brc_model.specs.declared.actor.Status.{Status}
use Rattle.brc_model.specs.declared.actor.Status.TheVariants.{Running, Leaving, Gone}
use Rattle.brc_model.specs.declared.actor.Place.{Place}
use Rattle.brc_model.specs.declared.actor.Context.{Context}
use Rattle.brc_model.specs.declared.actor.Place.TheVariants.{Idle, InCall, Inside, Stopping, Exiting}
use Rattle.brc_model.specs.declared.address.Address.{Address}
use Rattle.brc_model.specs.declared.duty.Duty.{Duty}
use Rattle.brc_model.specs.declared.duty.Duty.TheVariants.{ClaimMark}
use Rattle.brc_model.specs.declared.layout.Layout.{Layout}
use Rattle.brc_model.specs.declared.state.State.{State}
use Rattle.brc_model.specs.Threads.{entry_variables}
use Rattle.brc_model.specs.Accounts.{Account}
use Rattle.brc_model.specs.Actions.{StepActor, Action, Skip, Does, always, first_context, dispatch_instruction, dispatch_inside, stop_action}
use Rattle.brc_model.specs.Dispatch.{dispatch, may_claim, agenda_action, status_action, action_of, may_stop}
use Rattle.brc_model.specs.Items.{HaveItems, StageKnows}
use Rattle.brc_model.proofs.Basics.Lists.{either}
use Rattle.brc_model.proofs.Dispatch.Holds.{call_of, activation}
use Rattle.brc_model.proofs.Dispatch.Grounded.{entry_in_call, IsInside, running_accepted, running_instructions}
use Rattle.brc_model.proofs.Dispatch.Guards.{LocksAgree}
use Rattle.brc_model.proofs.Dispatch.Passing.{passes_on}
use Rattle.brc_model.proofs.Dispatch.AtOnce.{at_once, plain_locked, plain_keeps}
use Rattle.brc_model.proofs.Dispatch.Coded.{PlaceSays}
use Rattle.brc_model.proofs.Dispatch.Items.{knows_stay, entry_items, ItemsAt}
use Rattle.brc_model.proofs.Dispatch.ItemsUsed.{LeavesItems, UsesAt}
use Rattle.brc_model.proofs.Dispatch.ItemsLeft.{instruction_uses, inside_uses}
use Rattle.brc_model.proofs.Dispatch.Decided.{stopping_decides, stop_decides, give_up_decides}
use Rattle.brc_model.proofs.Dispatch.Programs.{Program, code_in, IsSound, running, code_at, program_of}
use Rattle.brc_model.specs.SlotStates.{entry_of}
use Rattle.brc_model.specs.declared.actor.OpenCall.{OpenCall}

-- The thread's place before its step, and what it knows of items there.
pub record StandsUsing (program : Program) (memory : Address → ℕ) (locked : Option ℕ) (place : Place) : Type 0 where
  pub sound : IsSound program
  pub account : Account
  pub says : PlaceSays program place locked account
  pub knows : ItemsAt program memory locked place

-- The thread is at the instruction that its point has, in the state in which a path reaches it.
uses_at : (program : Program) (outer : List OpenCall) (memory : Address → ℕ) (locked : Option ℕ) (at : ℕ)
    (variables : List (Option ℕ)) (s : State) → IsSound program → IsInside (activation program outer) at variables s
    → LocksAgree s variables locked → HaveItems memory locked s variables
    → (i : Instr) × (slice_get (running program outer).code at ≡ Some i)
    × UsesAt program outer memory locked at variables s i
uses_at program outer memory locked at variables s sound inside guards items =
    let opened = inside.is_call.open_calls in
    let accepted = running_accepted program outer sound opened in
    let on = passes_on (running program outer) inside.exits at s accepted inside.arrived in (
      on.here,
      on.found,
      record {
        sound = sound;
        accepted = accepted;
        inside = inside;
        found = on.found;
        leads = on.leads;
        operands = (running_instructions program outer sound opened).each at on.here on.found;
        met = on.met;
        guards = guards;
        items = items;
      },
    )

in_call_uses : (program : Program) (memory : Address → ℕ) (locked : Option ℕ) (layout : Layout) (t used : ℕ)
    (before : Place) (context : Context) (at : ℕ) (variables : List (Option ℕ)) (s : State)
    → ItemsAt program memory locked before
    → IsSound program → IsInside (call_of program context) at variables s
    → LocksAgree s variables locked → HaveItems memory locked s variables
    → LeavesItems program memory locked
    (dispatch_instruction layout t used before context at variables (slice_get (code_in program context) at))
in_call_uses program memory locked layout t used before context at variables s knew sound inside guards items =
    let here = uses_at program context.outer memory locked at variables s sound inside guards items in
    subst (λ (o : Option Instr). LeavesItems program memory locked
    (dispatch_instruction layout t used before context at variables o)) (sym here.1)
    (instruction_uses program memory locked context at variables s layout t used before here.0 knew here.2)

dispatch_uses : (program : Program) (memory : Address → ℕ) (locked : Option ℕ) (layout : Layout) (t used : ℕ)
    (place : Place) → StandsUsing program memory locked place
    → LeavesItems program memory locked (dispatch layout t used (code_at program place) place)
dispatch_uses program memory locked layout t used Exiting stands = tt
dispatch_uses program memory locked layout t used (Stopping (Some row) calls) stands = λ new found done.
    stopping_decides (ItemsAt program new None) None calls tt tt
dispatch_uses program memory locked layout t used (Stopping None calls) stands =
    give_up_decides (LeavesItems program memory locked) tt
    (λ row depth v after new found done. stopping_decides (ItemsAt program new locked) None after tt tt) calls
dispatch_uses program memory locked layout t used (Idle zero) stands = λ new found done. tt
dispatch_uses program memory locked layout t used (Idle (suc left)) stands =
    in_call_uses program memory locked layout t used (Idle (suc left)) (first_context left) 0 entry_variables
    (entry_of []) tt stands.sound (entry_in_call program stands.says.2) stands.says.0 (entry_items memory locked)
dispatch_uses program memory locked layout t used (InCall context at variables) stands =
    let says = stands.says in
    in_call_uses program memory locked layout t used (InCall context at variables) context at variables says.0
    stands.knows stands.sound says.1 says.2 (stands.knows says.1.exits says.0 says.1.arrived)
dispatch_uses program memory locked layout t used (Inside context at variables stage) stands =
    let says = stands.says in
    let knows = stands.knows in
    let here = uses_at program context.outer memory locked at variables says.0 stands.sound says.1 says.2
    (knows.items says.1.exits says.0 says.1.arrived) in
    subst (λ (o : Option Instr). LeavesItems program memory locked
    (dispatch_inside layout t used context at variables stage o))
    (sym here.1)
    (inside_uses program memory locked context at variables says.0 layout t used stage here.0
    (subst (StageKnows memory locked variables stage) here.1 knows.cell) here.2)

-- A duty that isn't dispatched at once leaves the thread's lock and its items.
plain_uses : (program : Program) (memory : Address → ℕ) (locked : Option ℕ) (place : Place) (d : Duty)
    (rest : List Duty) → ItemsAt program memory locked place → at_once d ≡ 0
    → LeavesItems program memory locked (Does d rest (always place))
plain_uses program memory locked place d rest knows plain = λ new found done.
    subst (λ (lock : Option ℕ). ItemsAt program new lock place) (sym (plain_locked locked d found plain))
    (knows_stay memory new locked (done.keeps (plain_keeps d plain)) program place knows)

module _ (functions : List Function) (states : ℕ → ℕ → Option State) (memory : Address → ℕ) (layout : Layout) (t : ℕ)
    (a : StepActor) (plain : sum_by at_once a.actor.agenda ≡ 0)
    (stands : StandsUsing (program_of functions states a) memory a.actor.locked a.place) where
  abbrev Uses : Action → Type 0
  Uses = LeavesItems (program_of functions states a) memory a.actor.locked

  agenda_uses : (agenda : List Duty) → sum_by at_once agenda ≡ 0 → Uses (agenda_action functions layout t a agenda)
  agenda_uses [] none =
      dispatch_uses (program_of functions states a) memory a.actor.locked layout t a.actor.used a.place stands
  agenda_uses (d ∷ rest) none =
      plain_uses (program_of functions states a) memory a.actor.locked a.place d rest stands.knows
      (omega (arith, none, sum_by-cons at_once d rest))

  status_uses : (status : Status) → Uses (status_action functions layout t a status)
  status_uses Gone = tt
  status_uses Running = agenda_uses a.actor.agenda plain
  status_uses Leaving = agenda_uses a.actor.agenda plain

  pub action_uses : (choice : Choice) → Uses (action_of functions states layout t a choice)
  action_uses Ok = status_uses a.actor.status
  action_uses Fault = status_uses a.actor.status
  action_uses Stop =
      let program = program_of functions states a in
      let locked = a.actor.locked in
      either Uses (may_stop a) (stop_action functions states a.function a.place) Skip
      (λ may. stop_decides Uses functions states a.function a.place tt tt
      (λ lock calls. stopping_decides (ItemsAt program memory locked) lock calls tt tt) tt) tt
  action_uses (Claim row) =
      either Uses (may_claim layout t a row) _ Skip
      (λ may. plain_uses (program_of functions states a) memory a.actor.locked a.place (ClaimMark row) []
      stands.knows refl) tt
