-- A thread with nothing left to do has an empty dying chain, if it isn't between two releases after a stop.
use Rattle.std.proofs.Common.{◌≡◌, ℕ, zero, suc, true, false, cond, List, [], ◌∷◌, ◌++◌, Option, None, Some, refl, sym, ap, ◌∙◌, subst, length}
use Rattle.std.specs.Prelude.{slice_get, slice_set, map}
use Rattle.brc_lang.specs.declared.module.Instr.{Instr}
use Rattle.brc_lang.specs.declared.module.Module.{Module}
use Rattle.brc_model.specs.declared.state.State.{State}
use Rattle.brc_model.specs.declared.thread.Call.{Call}
use Rattle.brc_model.specs.declared.thread.Choice.{Choice}
use Rattle.brc_model.specs.declared.thread.Choice.TheVariants.{Ok, Fault, Claim, Stop}
use Rattle.brc_model.specs.Threads.{entry_variables, function_in, number_in}
use Rattle.brc_model.specs.declared.duty.Duty.{Duty}
use Rattle.brc_model.specs.declared.duty.Duty.TheVariants.{Settle, ClaimMark, ReleaseLoad, UnlockGate}
use Rattle.brc_model.specs.Duties.{address_of}
use Rattle.brc_model.specs.declared.actor.Status.{Status}
use Rattle.brc_model.specs.declared.actor.Status.TheVariants.{Running, Leaving, Gone}
use Rattle.brc_model.specs.declared.actor.Place.{Place}
use Rattle.brc_model.specs.declared.actor.Context.{Context}
use Rattle.brc_model.specs.declared.actor.Place.TheVariants.{Idle, InCall, Inside, Stopping, Exiting}
use Rattle.brc_model.specs.declared.state.Exit.{Exit}
use Rattle.brc_model.specs.Actions.{StepActor, Action, Skip, Stuck, Silent, Calls, Does, always, first_context, holds_some, stopping, give_up, stop_action}
use Rattle.brc_model.specs.Dispatch.{dispatch, may_claim, agenda_action, status_action, exit_of, action_of, may_stop, is_before_instruction}
use Rattle.brc_model.specs.StepMachine.{StepMachine, of_thread, machine_by, next_machine, machine_after, first_machine, main_actor, worker_actor, at_place, step_actor, layout_of}
use Rattle.brc_lang.specs.declared.module.Function.{Function}
use Rattle.brc_model.proofs.Basics.Lists.{written_actor, either, some_is, slice_get-map}
use Rattle.brc_model.proofs.Dispatch.Claims.{claimer, stopper}
use Rattle.brc_model.specs.declared.layout.Layout.{Layout}
use Rattle.brc_model.specs.declared.duty.Holding.TheVariants.{ByVariable}
use Rattle.brc_model.proofs.Dispatch.Decided.{stopping_decides, stop_decides, give_up_decides}
use Rattle.brc_model.proofs.Promises.Leading.{HoldsAtEnd, HoldsAfter, dispatch_leads}
use Rattle.brc_model.proofs.Promises.Turns.{each_place, TurnsHold, code_here, first_turns, turns_next}
use Rattle.brc_lang.specs.Grammar.{IsModule, LeadsForward}
use Rattle.brc_model.proofs.Promises.Emptying.{Empties, behind, IsEmptied, AreEmptied, duty_emptied, ActionSettles, HasNoneBehind, no_chain, from_empty, instruction_empties, inside_empties}
use Rattle.brc_model.specs.declared.actor.OpenCall.{OpenCall}

-- ---- where nothing comes after the agenda

none_at_end : (left : ℕ) (outer : List OpenCall) → HoldsAtEnd HasNoneBehind left outer
none_at_end left [] = refl
none_at_end left (o ∷ outer) = (λ row. refl, refl)

none_after : (code : List Instr) (context : Context) (at : ℕ) (variables : List (Option ℕ))
    → HoldsAfter HasNoneBehind code context at variables
none_after code context at variables = record {
  on = λ next later ahead. refl;
  back = λ to i is less. refl;
  into = λ stage. refl;
  calls = λ to callee arguments otherwise is. refl;
  ends = none_at_end context.left context.outer;
}

-- ---- a thread's action

released_settles : (head row depth v : ℕ) (after : List (List (Option ℕ)))
    → Empties head ((ReleaseLoad row (ByVariable depth v) ∷ cond (holds_some after) [] (Settle ∷ []))
    ++ behind (stopping None after))
released_settles head row depth v after =
    elim (holds_some after) as
    (λ b. Empties head ((ReleaseLoad row (ByVariable depth v) ∷ cond b [] (Settle ∷ []))
    ++ behind (cond b (Stopping None after) (Idle 0)))) [
      | true ↦ refl
      | false ↦ refl
    ]

-- A stopped thread settles after its last release.
give_up_settles : (head : ℕ) (calls : List (List (Option ℕ))) → ActionSettles head [] (give_up calls)
give_up_settles head calls =
    give_up_decides (ActionSettles head []) tt (λ row depth v after found. released_settles head row depth v after)
    calls

-- What a thread with an empty agenda dispatches.
dispatch_settles : (layout : Layout) (t used head : ℕ) (code : List Instr) (place : Place) → LeadsForward code
    → Empties head (behind place) → ActionSettles head [] (dispatch layout t used code place)
dispatch_settles layout t used head code Exiting forward e = tt
dispatch_settles layout t used head code (Idle zero) forward e =
    from_empty head e (dispatch layout t used code (Idle zero)) refl (λ found. refl)
dispatch_settles layout t used head code (Idle (suc left)) forward e =
    let x = dispatch layout t used code (Idle (suc left)) in
    from_empty head e x (instruction_empties layout t used (Idle (suc left)) (first_context left) 0 entry_variables
    (slice_get code 0))
    (each_place HasNoneBehind (Idle (suc left)) x refl
    (dispatch_leads HasNoneBehind layout t used code (Idle (suc left)) forward
    (λ low. none_after code (first_context left) 0 entry_variables)))
dispatch_settles layout t used head code (InCall context at variables) forward e =
    let x = dispatch layout t used code (InCall context at variables) in
    from_empty head e x (instruction_empties layout t used (InCall context at variables) context at variables
    (slice_get code at))
    (each_place HasNoneBehind (InCall context at variables) x refl
    (dispatch_leads HasNoneBehind layout t used code (InCall context at variables) forward
    (λ low. none_after code context at variables)))
dispatch_settles layout t used head code (Inside context at variables stage) forward e =
    let x = dispatch layout t used code (Inside context at variables stage) in
    from_empty head e x (inside_empties layout t used context at variables stage (slice_get code at))
    (each_place HasNoneBehind (Inside context at variables stage) x refl
    (dispatch_leads HasNoneBehind layout t used code (Inside context at variables stage) forward
    (record { on = λ next later ahead. refl; into = λ further apart. refl })))
dispatch_settles layout t used head code (Stopping (Some row) calls) forward e = λ found.
    subst (λ (h : ℕ). Empties h ((UnlockGate row ∷ []) ++ behind (stopping None calls))) (sym (no_chain head e))
    (stopping_decides (λ (place : Place). Empties 0 ((UnlockGate row ∷ []) ++ behind place)) None calls refl refl)
dispatch_settles layout t used head code (Stopping None calls) forward e = give_up_settles head calls

agenda_settles : (functions : List Function) (layout : Layout) (t : ℕ) (a : StepActor) (agenda : List Duty)
    → a.actor.agenda ≡ agenda → LeadsForward (function_in functions a.function a.place).code → IsEmptied a
    → ActionSettles a.actor.head a.actor.agenda (agenda_action functions layout t a agenda)
agenda_settles functions layout t a [] is forward e =
    let x = dispatch layout t a.actor.used (function_in functions a.function a.place).code a.place in
    subst (λ (l : List Duty). ActionSettles a.actor.head l x) (sym is)
    (dispatch_settles layout t a.actor.used a.actor.head (function_in functions a.function a.place).code a.place forward
    (subst (λ (l : List Duty). Empties a.actor.head (l ++ behind a.place)) is e))
agenda_settles functions layout t a (d ∷ rest) is forward e = λ found.
    subst (λ (l : List Duty). Empties a.actor.head (l ++ behind a.place)) is e

status_settles : (functions : List Function) (layout : Layout) (t : ℕ) (a : StepActor) (status : Status)
    → LeadsForward (function_in functions a.function a.place).code → IsEmptied a
    → ActionSettles a.actor.head a.actor.agenda (status_action functions layout t a status)
status_settles functions layout t a Gone forward e = tt
status_settles functions layout t a Running forward e = agenda_settles functions layout t a a.actor.agenda refl forward
    e
status_settles functions layout t a Leaving forward e = agenda_settles functions layout t a a.actor.agenda refl forward
    e

-- Where a thread may stop, nothing comes after its agenda.
stopper_none : (place : Place) → is_before_instruction place ≡ true → behind place ≡ []
stopper_none (Idle left) before = refl
stopper_none _ before = cc

-- A thread that has just stopped has an empty chain.
stopped_behind : (lock : Option ℕ) (calls : List (List (Option ℕ))) → Empties 0 (behind (Stopping lock calls))
stopped_behind None calls = refl
stopped_behind (Some row) calls = refl

stop_settles : (functions : List Function) (states : ℕ → ℕ → Option State) (a : StepActor) → IsEmptied a
    → may_stop a ≡ true → ActionSettles a.actor.head a.actor.agenda (stop_action functions states a.function a.place)
stop_settles functions states a e may =
    let stops = stopper a may in
    let agenda : a.actor.agenda ++ behind a.place ≡ [] =
    ap (λ (l : List Duty). l ++ behind a.place) stops.agenda ∙ stopper_none a.place stops.before in
    let none = no_chain a.actor.head (subst (Empties a.actor.head) agenda e) in
    let x = stop_action functions states a.function a.place in
    subst (λ (l : List Duty). ActionSettles a.actor.head l x) (sym stops.agenda)
    (subst (λ (h : ℕ). ActionSettles h [] x) (sym none)
    (stop_decides (ActionSettles 0 []) functions states a.function a.place tt tt
    (λ lock calls. stopping_decides (λ (place : Place). Empties 0 (behind place)) lock calls
    (stopped_behind lock calls) refl) refl))

choice_settles : (functions : List Function) (states : ℕ → ℕ → Option State) (layout : Layout) (t : ℕ) (a : StepActor)
    (choice : Choice) → LeadsForward (function_in functions a.function a.place).code → IsEmptied a
    → ActionSettles a.actor.head a.actor.agenda (action_of functions states layout t a choice)
choice_settles functions states layout t a Ok forward e = status_settles functions layout t a a.actor.status forward e
choice_settles functions states layout t a Fault forward e =
    status_settles functions layout t a a.actor.status forward e
choice_settles functions states layout t a (Claim row) forward e =
    either (ActionSettles a.actor.head a.actor.agenda) (may_claim layout t a row)
    (Does (ClaimMark row) [] (always a.place)) Skip
    (λ may found. subst (λ (l : List Duty). Empties a.actor.head (l ++ behind a.place))
    (claimer layout t a row may).agenda e) tt
choice_settles functions states layout t a Stop forward e =
    either (ActionSettles a.actor.head a.actor.agenda) (may_stop a) (stop_action functions states a.function a.place)
    Skip
    (stop_settles functions states a e) tt

set_emptied : (actors : List StepActor) (t : ℕ) (a after : StepActor) → slice_get actors t ≡ Some a → IsEmptied after
    → AreEmptied actors → AreEmptied (slice_set actors t after)
set_emptied actors t a after found own others =
    written_actor (λ u b. IsEmptied b) actors t a after found own others

action_emptied : (m : StepMachine) (t : ℕ) (a : StepActor) (exit : Exit) (x : Action) → AreEmptied m.actors
    → slice_get m.actors t ≡ Some a → ActionSettles a.actor.head a.actor.agenda x
    → AreEmptied (machine_by m t a exit x).actors
action_emptied m t a exit Skip are found e = are
action_emptied m t a exit Stuck are found e = are
action_emptied m t a exit (Silent moves place) are found e =
    set_emptied m.actors t a (at_place a place) found e are
action_emptied m t a exit (Calls row place) are found e =
    set_emptied m.actors t a (at_place a (place exit)) found (e exit) are
action_emptied m t a exit (Does d rest place) are found e =
    let word = m.memory (address_of m.layout t a.actor.head d) in
    set_emptied m.actors t a (step_actor m.layout t a d rest (place word) word) found
    (duty_emptied m.layout t a d rest (place word) word (e word)) are

-- The threads of a module's machine have done all that empties their chains.
record EmptiedHold (p : Module) (m : StepMachine) : Type 0 where
  turns : TurnsHold p m
  emptied : AreEmptied m.actors

thread_emptied : (p : Module) (m : StepMachine) (t : ℕ) (choice : Choice) (o : Option StepActor) → IsModule p
    → EmptiedHold p m → slice_get m.actors t ≡ o
    → AreEmptied
    (of_thread m (λ a. machine_by m t a (exit_of choice) (action_of m.functions m.states m.layout t a choice)) o).actors
thread_emptied p m t choice None fits holds found = holds.emptied
thread_emptied p m t choice (Some a) fits holds found =
    action_emptied m t a (exit_of choice) (action_of m.functions m.states m.layout t a choice) holds.emptied found
    (choice_settles m.functions m.states m.layout t a choice (code_here p m (number_in a.function a.place) fits
    holds.turns).forward
    (holds.emptied t a found))

-- ---- every machine that events lead to

emptied_after : (p : Module) (m : StepMachine) (events : List (ℕ × Choice)) → IsModule p → EmptiedHold p m
    → AreEmptied (machine_after m events).actors
emptied_after p m [] fits holds = holds.emptied
emptied_after p m (e ∷ events) fits holds =
    emptied_after p (next_machine m e) events fits (record {
      turns = turns_next p m e fits holds.turns;
      emptied = thread_emptied p m e.0 e.1 (slice_get m.actors e.0) fits holds refl;
    })

first_emptied : (layout : Layout) (calls : List Call) → AreEmptied (main_actor layout ∷ map worker_actor calls)
first_emptied layout calls zero a is = subst IsEmptied (some_is (main_actor layout) a is) refl
first_emptied layout calls (suc t) a is =
    let call = slice_get-map worker_actor calls t a is in
    subst IsEmptied call.is_image refl

-- A thread with an empty agenda has an empty chain, if it isn't between two releases after a stop.
pub chain_empty : (p : Module) (states : ℕ → ℕ → Option State) (rows : ℕ) (calls : List Call)
    (events : List (ℕ × Choice)) (t left : ℕ) (a : StepActor) → IsModule p
    → slice_get (machine_after (first_machine p states rows calls) events).actors t ≡ Some a → a.actor.agenda ≡ []
    → a.place ≡ Idle left → a.actor.head ≡ 0
chain_empty p states rows calls events t left a fits found none idle =
    let all =
    emptied_after p (first_machine p states rows calls) events fits (record {
      turns = first_turns p states rows calls;
      emptied = first_emptied (layout_of p (length calls) rows) calls;
    }) t a found in
    no_chain a.actor.head
    (subst (λ (place : Place). Empties a.actor.head ([] ++ behind place)) idle
    (subst (λ (l : List Duty). Empties a.actor.head (l ++ behind a.place)) none all))
