-- Whatever a thread of accepted code does, at the place that its step leads to its variables have the kinds that the
-- checker says.
use Rattle.std.proofs.Common.{◌≡◌, ℕ, zero, suc, List, [], ◌∷◌, Option, Some, sym, subst, None}
use Rattle.std.specs.Prelude.{slice_get}
use Rattle.brc_lang.specs.declared.module.Function.{Function}
use Rattle.brc_lang.specs.declared.module.Instr.{Instr}
use Rattle.brc_model.specs.declared.thread.Choice.{Choice}
use Rattle.brc_model.specs.declared.thread.Choice.TheVariants.{Ok, Fault, Claim, Stop}
use Rattle.brc_model.specs.declared.actor.Status.{Status}
use Rattle.brc_model.specs.declared.actor.Status.TheVariants.{Running, Leaving, Gone}
use Rattle.brc_model.specs.declared.actor.Place.{Place}
use Rattle.brc_model.specs.declared.actor.Context.{Context}
use Rattle.brc_model.specs.declared.actor.Place.TheVariants.{Idle, InCall, Inside, Stopping, Exiting}
use Rattle.brc_model.specs.declared.duty.Duty.{Duty}
use Rattle.brc_model.specs.declared.state.State.{State}
use Rattle.brc_model.specs.Threads.{entry_variables}
use Rattle.brc_model.specs.declared.layout.Layout.{Layout}
use Rattle.brc_model.specs.Actions.{StepActor, Action, Skip, dispatch_instruction, dispatch_inside, first_context, stop_action}
use Rattle.brc_model.specs.Dispatch.{dispatch, may_claim, agenda_action, status_action, action_of, may_stop}
use Rattle.brc_model.specs.KnownKinds.{HaveTrueKinds}
use Rattle.brc_model.proofs.Basics.Lists.{either}
use Rattle.brc_model.proofs.Dispatch.Holds.{call_of, activation}
use Rattle.brc_model.proofs.Dispatch.Grounded.{entry_in_call, IsInside, running_accepted, running_instructions}
use Rattle.brc_model.proofs.Dispatch.Passing.{passes_on}
use Rattle.brc_model.specs.Accounts.{Account}
use Rattle.brc_model.proofs.Dispatch.Coded.{PlaceSays}
use Rattle.brc_model.proofs.Dispatch.Kinds.{entry_true, KnowsFirst, KnowsAll, OpenKinds, KnowsLists}
use Rattle.brc_model.proofs.Dispatch.KindsLeft.{instruction_leaves, inside_leaves}
use Rattle.brc_model.proofs.Dispatch.Decided.{stopping_decides, stop_decides, give_up_decides}
use Rattle.brc_model.proofs.Dispatch.Programs.{Program, code_in, IsSound, running, code_at, program_of}
use Rattle.brc_model.proofs.Dispatch.KindsKnown.{LeavesKinds, KnowsAt}
use Rattle.brc_model.specs.SlotStates.{entry_of}
use Rattle.brc_model.specs.declared.actor.OpenCall.{OpenCall}
use Rattle.brc_model.proofs.Dispatch.Allowed.{AreAllowedIn, allowed_at}

-- The thread's place before its step, by the words after it.
pub record StandsKnowing (program : Program) (layout : Layout) (words : ℕ → ℕ) (place : Place) : Type 0 where
  pub sound : IsSound program
  pub allowed : AreAllowedIn layout program.functions
  pub lists : KnowsLists layout words
  pub locked : Option ℕ
  pub account : Account
  pub says : PlaceSays program place locked account
  pub named : KnowsFirst words
  pub knows : KnowsAll program words place

-- The thread is at the instruction that its point has, in the state in which a path reaches it.
knows_at : (program : Program) (outer : List OpenCall) (words : ℕ → ℕ) (at : ℕ) (variables : List (Option ℕ))
    (s : State) → IsSound program → IsInside (activation program outer) at variables s → KnowsFirst words
    → HaveTrueKinds words s variables → OpenKinds program words outer
    → (i : Instr) × (slice_get (running program outer).code at ≡ Some i)
    × KnowsAt program outer words at variables s i
knows_at program outer words at variables s sound inside named known open_known =
    let opened = inside.is_call.open_calls in
    let on = passes_on (running program outer) inside.exits at s (running_accepted program outer sound opened)
    inside.arrived in (
      on.here,
      on.found,
      record {
        sound = sound;
        found = on.found;
        inside = inside;
        met = on.met;
        leads = on.leads;
        operands = (running_instructions program outer sound opened).each at on.here on.found;
        named = named;
        known = known;
        open_known = open_known;
      },
    )

in_call_leaves : (program : Program) (words : ℕ → ℕ) (layout : Layout) (t used : ℕ) (before : Place)
    (context : Context) (at : ℕ) (variables : List (Option ℕ)) (s : State) → KnowsAll program words before
    → AreAllowedIn layout program.functions → KnowsLists layout words → IsSound program
    → IsInside (call_of program context) at variables s → KnowsFirst words
    → HaveTrueKinds words s variables → OpenKinds program words context.outer
    → LeavesKinds program words
    (dispatch_instruction layout t used before context at variables (slice_get (code_in program context) at))
in_call_leaves program words layout t used before context at variables s knew allowed lists sound inside
    named known open_known =
    let here = knows_at program context.outer words at variables s sound inside named known open_known in
    subst (λ (o : Option Instr). LeavesKinds program words
    (dispatch_instruction layout t used before context at variables o))
    (sym here.1) (instruction_leaves program words layout t used before context at variables s here.0 knew lists
    (allowed_at layout program context.outer at here.0 allowed inside.is_call.open_calls here.1) here.2)

dispatch_leaves : (program : Program) (words : ℕ → ℕ) (layout : Layout) (t used : ℕ) (place : Place)
    → StandsKnowing program layout words place
    → LeavesKinds program words (dispatch layout t used (code_at program place) place)
dispatch_leaves program words layout t used Exiting stands = tt
dispatch_leaves program words layout t used (Stopping (Some row) calls) stands = λ found stored.
    stopping_decides (KnowsAll program words) None calls (tt, tt) (tt, tt)
dispatch_leaves program words layout t used (Stopping None calls) stands =
    give_up_decides (LeavesKinds program words) tt
    (λ row depth v after found stored. stopping_decides (KnowsAll program words) None after (tt, tt) (tt, tt)) calls
dispatch_leaves program words layout t used (Idle zero) stands = λ found stored. (tt, tt)
dispatch_leaves program words layout t used (Idle (suc left)) stands =
    in_call_leaves program words layout t used (Idle (suc left)) (first_context left) 0 entry_variables (entry_of [])
    (tt, tt) stands.allowed stands.lists stands.sound (entry_in_call program stands.says.2) stands.named
    (entry_true words stands.named.root) tt
dispatch_leaves program words layout t used (InCall context at variables) stands =
    let says = stands.says in
    in_call_leaves program words layout t used (InCall context at variables) context at variables says.0 stands.knows
    stands.allowed stands.lists stands.sound says.1 stands.named
    (stands.knows.0 says.1.exits says.0 says.1.arrived) stands.knows.1
dispatch_leaves program words layout t used (Inside context at variables stage) stands =
    let says = stands.says in
    let here = knows_at program context.outer words at variables says.0 stands.sound says.1 stands.named
    (stands.knows.0 says.1.exits says.0 says.1.arrived) stands.knows.1 in
    subst (λ (o : Option Instr). LeavesKinds program words
    (dispatch_inside layout t used context at variables stage o))
    (sym here.1)
    (inside_leaves program words layout t used context at variables stage says.0 here.0 here.2)

module _ (functions : List Function) (states : ℕ → ℕ → Option State) (words : ℕ → ℕ) (layout : Layout) (t : ℕ)
    (a : StepActor) (stands : StandsKnowing (program_of functions states a) layout words a.place) where
  abbrev Leaves : Action → Type 0
  Leaves = LeavesKinds (program_of functions states a) words

  agenda_leaves : (agenda : List Duty) → Leaves (agenda_action functions layout t a agenda)
  agenda_leaves [] =
      dispatch_leaves (program_of functions states a) words layout t a.actor.used a.place stands
  agenda_leaves (d ∷ rest) = λ found stored. stands.knows

  status_leaves : (status : Status) → Leaves (status_action functions layout t a status)
  status_leaves Gone = tt
  status_leaves Running = agenda_leaves a.actor.agenda
  status_leaves Leaving = agenda_leaves a.actor.agenda

  pub action_leaves : (choice : Choice) → Leaves (action_of functions states layout t a choice)
  action_leaves Ok = status_leaves a.actor.status
  action_leaves Fault = status_leaves a.actor.status
  action_leaves Stop =
      either Leaves (may_stop a) (stop_action functions states a.function a.place) Skip
      (λ may. stop_decides Leaves functions states a.function a.place tt tt
      (λ lock calls. stopping_decides (KnowsAll (program_of functions states a) words) lock calls (tt, tt) (tt, tt))
      (tt, tt)) tt
  action_leaves (Claim row) =
      either Leaves (may_claim layout t a row) _ Skip (λ may found stored. stands.knows) tt
