-- In each call a thread counts the turns of all the instructions that its function can have.
use Rattle.std.proofs.Common.{◌≡◌, ℕ, zero, suc, ◌+◌, ◌≤◌, List, [], ◌∷◌, length, map, inl, inr, Option, None, Some, refl, sym, ◌∙◌, subst, arith}
use Rattle.std.specs.Prelude.{slice_get, slice_set}
use Rattle.std.proofs.lemmas.Bool.Decides.{eqb_tells}
use Rattle.std.proofs.lemmas.List.{length-set, length-replicate}
use Rattle.brc_lang.specs.declared.module.Instr.{Instr}
use Rattle.brc_lang.specs.declared.module.Instr.TheVariants.{Call}
use Rattle.brc_lang.specs.declared.module.Function.{Function}
use Rattle.brc_lang.specs.declared.module.Module.{Module}
use Rattle.brc_lang.specs.Grammar.{IsModule, IsFunction, LeadsForward}
use Rattle.brc_word.specs.Words.{free_word}
use Rattle.brc_model.specs.declared.state.State.{State}
use Rattle.brc_model.specs.declared.thread.Call.{Call as Work}
use Rattle.brc_model.specs.declared.thread.Choice.{Choice}
use Rattle.brc_model.specs.declared.thread.Choice.TheVariants.{Ok, Fault, Claim, Stop}
use Rattle.brc_model.specs.declared.duty.Duty.{Duty}
use Rattle.brc_model.specs.declared.duty.Duty.TheVariants.{LockGate, ClaimMark}
use Rattle.brc_model.specs.declared.actor.Status.{Status}
use Rattle.brc_model.specs.declared.actor.Status.TheVariants.{Running, Leaving, Gone}
use Rattle.brc_model.specs.declared.actor.Context.{Context}
use Rattle.brc_model.specs.declared.actor.Place.{Place}
use Rattle.brc_model.specs.declared.actor.Place.TheVariants.{Idle, InCall, Inside, Stopping, Exiting}
use Rattle.brc_model.specs.declared.layout.Layout.{Layout}
use Rattle.brc_model.specs.Threads.{entry_variables, function_at, function_in, function_of, number_under, number_in}
use Rattle.brc_model.specs.Actions.{StepActor, Action, Skip, Stuck, Silent, Calls, Does, always, first_context, turns_at, stop_action}
use Rattle.brc_model.specs.Dispatch.{may_claim, dispatch, agenda_action, status_action, exit_of, action_of, may_stop}
use Rattle.brc_model.specs.declared.state.Exit.{Exit}
use Rattle.brc_model.specs.StepMachine.{StepMachine, main_actor, worker_actor, of_thread, machine_by, next_machine, first_machine, machine_after, layout_of}
use Rattle.brc_model.proofs.Basics.Lists.{either, some_is, none_some, written_actor, slice_get-map, all_of_found}
use Rattle.brc_model.proofs.Promises.Leading.{Leads, LeadsTo, HoldsAtEnd, HoldsAfter, HoldsBeyond, dispatch_leads}
use Rattle.brc_model.proofs.Dispatch.Decided.{stopping_decides, stop_decides}
use Rattle.brc_model.specs.declared.actor.OpenCall.{OpenCall}
use Rattle.brc_lang.specs.declared.parameter.Argument.{Argument}

-- ---- each place of a thread's action

-- The property holds of each place to which the action leads, or at which it leaves a thread that waits.
abbrev pub EachPlace : (Place → Type 0) → Action → Type 0
EachPlace P Skip = Unit {0}
EachPlace P Stuck = Unit {0}
EachPlace P (Silent moves next) = P next
EachPlace P (Calls row next) = (exit : Exit) → P (next exit)
EachPlace P (Does d rest next) = (found : ℕ) → P (next found)

leads_or_stays : (P : Place → Type 0) (place : Place) (d : Duty) (found : ℕ) (next : Place) → P place
    → Leads P place d found next → P next
leads_or_stays P place (LockGate x) found next here leads =
    elim (eqb_tells found free_word) [
      | inl free ↦ leads.0 free.1
      | inr taken ↦ subst P (sym (leads.1 taken.0)) here
    ]
leads_or_stays P place d found next here leads = leads

pub each_place : (P : Place → Type 0) (place : Place) (x : Action) → P place → LeadsTo P place x → EachPlace P x
each_place P place Skip here leads = tt
each_place P place Stuck here leads = tt
each_place P place (Silent moves next) here leads = leads
each_place P place (Calls row next) here leads = leads
each_place P place (Does d rest next) here leads =
    λ found. leads_or_stays P place d found (next found) here (leads found)

-- ---- the turns that a place counts

-- A call that waits counts the turns of 256 instructions, and is at the `call` of the one that it has made.
pub record IsMade (code : List Instr) (o : OpenCall) : Type 0 where
  pub all : length o.turns ≡ 256
  pub arguments : List Argument
  pub found : slice_get code o.at ≡ Some (Call o.to o.callee arguments o.otherwise)

-- So does each of these open calls of a thread that calls `first` from outside.
abbrev pub AreMade : List Function → ℕ → List OpenCall → Type 0
AreMade functions first [] = Unit {0}
AreMade functions first (o ∷ outer) =
    IsMade (function_at functions (number_under first outer)).code o × AreMade functions first outer

-- In a call the thread counts the turns of 256 instructions, and so do the calls that are open around it.
abbrev pub Counts : List Function → ℕ → Context → Type 0
Counts functions first context = (length context.turns ≡ 256) × AreMade functions first context.outer

abbrev pub CountsTurns : List Function → ℕ → Place → Type 0
CountsTurns functions first (Idle left) = Unit {0}
CountsTurns functions first (InCall context at variables) = Counts functions first context
CountsTurns functions first (Inside context at variables stage) = Counts functions first context
CountsTurns functions first (Stopping lock calls) = Unit {0}
CountsTurns functions first Exiting = Unit {0}

counts_at_end : (functions : List Function) (first left : ℕ) (outer : List OpenCall) → AreMade functions first outer
    → HoldsAtEnd (CountsTurns functions first) left outer
counts_at_end functions first left [] made = tt
counts_at_end functions first left (o ∷ outer) made = (λ row. (made.0.all, made.1), (made.0.all, made.1))

counts_after : (functions : List Function) (first : ℕ) (context : Context) (at : ℕ) (variables : List (Option ℕ))
    → Counts functions first context
    → HoldsAfter (CountsTurns functions first) (function_at functions (number_under first context.outer)).code context
    at variables
counts_after functions first context at variables all = record {
  on = λ next later ahead. all;
  back = λ to i is less. (length-set context.turns at (turns_at context at + 1) ∙ all.0, all.1);
  into = λ stage. all;
  calls = λ to callee arguments otherwise is. (
    length-replicate {A = ℕ} 256 0,
    (record { all = all.0; arguments = arguments; found = is }, all.1),
  );
  ends = counts_at_end functions first context.left context.outer all.1;
}

pub counts_beyond : (functions : List Function) (first : ℕ) (place : Place) → CountsTurns functions first place
    → HoldsBeyond (CountsTurns functions first) (function_in functions first place).code place
counts_beyond functions first Exiting all = tt
counts_beyond functions first (Idle zero) all = tt
counts_beyond functions first (Idle (suc left)) all =
    λ low. counts_after functions first (first_context left) 0 entry_variables (length-replicate {A = ℕ} 256 0, tt)
counts_beyond functions first (InCall context at variables) all =
    λ low. counts_after functions first context at variables all
counts_beyond functions first (Inside context at variables stage) all =
    record { on = λ next later ahead. all; into = λ further apart. all }
counts_beyond functions first (Stopping (Some row) calls) all =
    stopping_decides (CountsTurns functions first) None calls tt tt
counts_beyond functions first (Stopping None calls) all = λ fewer less.
    stopping_decides (CountsTurns functions first) None fewer tt tt

module _ (functions : List Function) (states : ℕ → ℕ → Option State) (layout : Layout) (t : ℕ) (a : StepActor)
    (forward : LeadsForward (function_in functions a.function a.place).code)
    (all : CountsTurns functions a.function a.place) where
  abbrev AllCount : Action → Type 0
  AllCount = EachPlace (CountsTurns functions a.function)

  agenda_counts : (agenda : List Duty) → AllCount (agenda_action functions layout t a agenda)
  agenda_counts [] =
      let code = (function_in functions a.function a.place).code in
      each_place (CountsTurns functions a.function) a.place (dispatch layout t a.actor.used code a.place) all
      (dispatch_leads (CountsTurns functions a.function) layout t a.actor.used code a.place forward
      (counts_beyond functions a.function a.place all))
  agenda_counts (d ∷ rest) = λ found. all

  status_counts : (status : Status) → AllCount (status_action functions layout t a status)
  status_counts Gone = tt
  status_counts Running = agenda_counts a.actor.agenda
  status_counts Leaving = agenda_counts a.actor.agenda

  action_counts : (choice : Choice) → AllCount (action_of functions states layout t a choice)
  action_counts Ok = status_counts a.actor.status
  action_counts Fault = status_counts a.actor.status
  action_counts Stop =
      either AllCount (may_stop a) (stop_action functions states a.function a.place) Skip
      (λ may. stop_decides AllCount functions states a.function a.place tt tt
      (λ lock calls. stopping_decides (CountsTurns functions a.function) lock calls tt tt) tt) tt
  action_counts (Claim row) =
      either AllCount (may_claim layout t a row) (Does (ClaimMark row) [] (always a.place)) Skip (λ may found. all) tt

-- ---- the code of a module

-- The code has targets as the grammar says, and at most 256 instructions.
pub record FitsCode (code : List Instr) : Type 0 where
  pub forward : LeadsForward code
  pub few : length code ≤ 256

fits_found : (p : Module) (n : ℕ) (o : Option Function) → IsModule p → slice_get p.functions n ≡ o
    → FitsCode (function_of o).code
fits_found p n None fits is = record { forward = λ at i target found. absurd (none_some i found); few = omega arith }
fits_found p n (Some f) fits is =
    let form = all_of_found IsFunction p.functions n f fits.functions is in
    record { forward = form.targets.forward; few = form.most }

pub fits_code : (p : Module) (n : ℕ) → IsModule p → FitsCode (function_at p.functions n).code
fits_code p n fits = fits_found p n (slice_get p.functions n) fits refl

-- ---- each event keeps it

-- The machine has the module's functions, and each thread in a call counts all turns.
pub record TurnsHold (p : Module) (m : StepMachine) : Type 0 where
  pub functions : m.functions ≡ p.functions
  pub counts : (t : ℕ) (a : StepActor) → slice_get m.actors t ≡ Some a
      → CountsTurns m.functions a.function a.place

pub code_here : (p : Module) (m : StepMachine) (n : ℕ) → IsModule p → TurnsHold p m
    → FitsCode (function_at m.functions n).code
code_here p m n fits holds =
    subst (λ (fs : List Function). FitsCode (function_at fs n).code) (sym holds.functions) (fits_code p n fits)

-- A thread counts the turns in its calls.
abbrev ItCounts : List Function → StepActor → Type 0
ItCounts functions a = CountsTurns functions a.function a.place

counts_set : (functions : List Function) (actors : List StepActor) (t : ℕ) (a after : StepActor)
    → slice_get actors t ≡ Some a → ItCounts functions after
    → ((u : ℕ) (b : StepActor) → slice_get actors u ≡ Some b → ItCounts functions b)
    → (u : ℕ) (b : StepActor) → slice_get (slice_set actors t after) u ≡ Some b → ItCounts functions b
counts_set functions actors t a after found own each =
    written_actor (λ u b. ItCounts functions b) actors t a after found own each

action_holds : (p : Module) (m : StepMachine) (t : ℕ) (a : StepActor) (exit : Exit) (x : Action) → TurnsHold p m
    → slice_get m.actors t ≡ Some a → EachPlace (CountsTurns m.functions a.function) x → TurnsHold p
    (machine_by m t a exit x)
action_holds p m t a exit Skip holds found each = holds
action_holds p m t a exit Stuck holds found each = holds
action_holds p m t a exit (Silent moves place) holds found each =
    record { functions = holds.functions; counts = counts_set m.functions m.actors t a _ found each holds.counts }
action_holds p m t a exit (Calls row place) holds found each =
    record {
      functions = holds.functions;
      counts = counts_set m.functions m.actors t a _ found (each exit) holds.counts;
    }
action_holds p m t a exit (Does d rest place) holds found each =
    record { functions = holds.functions; counts = counts_set m.functions m.actors t a _ found (each _) holds.counts }

thread_holds : (p : Module) (m : StepMachine) (t : ℕ) (choice : Choice) (o : Option StepActor) → IsModule p
    → TurnsHold p m → slice_get m.actors t ≡ o
    → TurnsHold p (of_thread m (λ a. machine_by m t a (exit_of choice)
    (action_of m.functions m.states m.layout t a choice)) o)
thread_holds p m t choice None fits holds found = holds
thread_holds p m t choice (Some a) fits holds found =
    action_holds p m t a (exit_of choice) (action_of m.functions m.states m.layout t a choice) holds found
    (action_counts m.functions m.states m.layout t a
    (code_here p m (number_in a.function a.place) fits holds).forward (holds.counts t a found) choice)

pub turns_next : (p : Module) (m : StepMachine) (event : ℕ × Choice) → IsModule p → TurnsHold p m
    → TurnsHold p (next_machine m event)
turns_next p m event fits holds = thread_holds p m event.0 event.1 (slice_get m.actors event.0) fits holds refl

pub turns_after : (p : Module) (m : StepMachine) (events : List (ℕ × Choice)) → IsModule p → TurnsHold p m
    → TurnsHold p (machine_after m events)
turns_after p m [] fits holds = holds
turns_after p m (event ∷ rest) fits holds =
    turns_after p (next_machine m event) rest fits (turns_next p m event fits holds)

first_counts : (functions : List Function) (layout : Layout) (calls : List Work) (t : ℕ) (a : StepActor)
    → slice_get (main_actor layout ∷ map worker_actor calls) t ≡ Some a → ItCounts functions a
first_counts functions layout calls zero a is = subst (ItCounts functions) (some_is (main_actor layout) a is) tt
first_counts functions layout calls (suc t) a is =
    let call = slice_get-map worker_actor calls t a is in
    subst (ItCounts functions) call.is_image tt

pub first_turns : (p : Module) (states : ℕ → ℕ → Option State) (rows : ℕ) (calls : List Work)
    → TurnsHold p (first_machine p states rows calls)
first_turns p states rows calls = record {
  functions = refl;
  counts = first_counts p.functions (layout_of p (length calls) rows) calls;
}
