-- A thread begins a bounded number of instructions in one call, since each beginning lowers what it can still begin.
use Rattle.std.proofs.Common.{◌≡◌, ◌≢◌, ℕ, zero, suc, ◌+◌, ◌*◌, ◌≤◌, Bool, true, false, cond, List, [], ◌∷◌, length, inl, inr, Option, Some, refl, sym, ap, ◌∙◌, subst, arith}
use Rattle.std.specs.Prelude.{◌==◌, ◌&&◌, not, slice_get}
use Rattle.std.proofs.lemmas.Bool.Decides.{eqb_tells}
use Rattle.std.proofs.lemmas.Option.{slice_get_within}
use Rattle.brc_lang.specs.declared.module.Function.{Function}
use Rattle.brc_lang.specs.declared.module.Module.{Module}
use Rattle.brc_lang.specs.Grammar.{IsModule}
use Rattle.brc_word.specs.Words.{free_word}
use Rattle.brc_model.specs.declared.thread.Choice.{Choice}
use Rattle.brc_model.specs.declared.thread.Choice.TheVariants.{Ok, Fault, Claim, Stop}
use Rattle.brc_model.specs.declared.state.Exit.{Exit}
use Rattle.brc_model.specs.declared.address.Address.TheVariants.{Gate}
use Rattle.brc_model.specs.declared.duty.Duty.{Duty}
use Rattle.brc_model.specs.declared.duty.Duty.TheVariants.{LockGate, ClaimMark}
use Rattle.brc_model.specs.declared.actor.Status.{Status}
use Rattle.brc_model.specs.declared.actor.Status.TheVariants.{Running, Leaving, Gone}
use Rattle.brc_model.specs.declared.actor.Place.{Place}
use Rattle.brc_model.specs.declared.actor.Place.TheVariants.{Idle, InCall, Inside, Stopping, Exiting}
use Rattle.brc_model.specs.Duties.{address_of}
use Rattle.brc_model.specs.References.{one_if}
use Rattle.brc_model.specs.Actions.{StepActor, Action, Skip, Stuck, Silent, Calls, Does, always, stop_action}
use Rattle.brc_model.specs.Dispatch.{may_claim, dispatch, agenda_action, status_action, exit_of, action_of, is_before_instruction, may_stop}
use Rattle.brc_model.specs.StepMachine.{StepMachine, of_thread, at_place, step_actor, machine_by, next_machine, first_machine, machine_after}
use Rattle.brc_model.specs.Progress.{Always}
use Rattle.brc_model.specs.Bounded.{call_limit, takes_step, begins_by, begins_at, begun, calls_after, IsInOrAfter, CallsAreBounded, ThreadsAreBounded}
use Rattle.brc_model.proofs.Basics.Lists.{either, some_is, none_some, slice_get-set_same}
use Rattle.brc_model.proofs.Promises.Leading.{LeadsTo}
use Rattle.brc_model.proofs.Promises.Turns.{CountsTurns, TurnsHold, code_here, first_turns, turns_next, turns_after}
use Rattle.brc_model.proofs.Promises.Trace.{thread_leaves}
use Rattle.brc_model.proofs.Promises.CallsLeft.{instructions_left, context_within, AreBounded, Lowers, dispatch_lowers}
use Rattle.brc_model.proofs.Promises.CallLimits.{LimitsFit, limits_fit}
use Rattle.brc_model.proofs.Dispatch.Decided.{stopping_decides, stop_decides}
use Rattle.brc_model.specs.Threads.{function_in}

-- ---- a thread's action

-- where the thread is after the action, whose host call ends by the exit
abbrev next_place : StepMachine → ℕ → StepActor → Exit → Action → Place
next_place m t a exit Skip = a.place
next_place m t a exit Stuck = a.place
next_place m t a exit (Silent moves place) = place
next_place m t a exit (Calls row place) = place exit
next_place m t a exit (Does d rest place) = place (m.memory (address_of m.layout t a.actor.head d))

-- The action lowers what the thread can begin, by one if it begins an instruction.
abbrev ActionLowers : StepMachine → ℕ → StepActor → Exit → Bool → Action → Type 0
ActionLowers m t a exit begins x =
    one_if begins + instructions_left m.functions a.function (next_place m t a exit x)
    ≤ instructions_left m.functions a.function a.place

one_if-true : (b : Bool) → one_if (b && true) ≡ one_if b
one_if-true true = refl
one_if-true false = refl

one_if-false : (b : Bool) → one_if (b && false) ≡ 0
one_if-false true = refl
one_if-false false = refl

-- What the dispatch does lowers it.
taken_lowers : (m : StepMachine) (t : ℕ) (a : StepActor) (exit : Exit) (x : Action)
    → LeadsTo (Lowers m.functions a.function a.place) a.place x
    → ActionLowers m t a exit (is_before_instruction a.place && takes_step m.memory x) x
taken_lowers m t a exit Skip leads = absurd leads
taken_lowers m t a exit Stuck leads = omega (arith, one_if-false (is_before_instruction a.place))
taken_lowers m t a exit (Silent moves place) leads =
    omega (arith, leads, one_if-true (is_before_instruction a.place))
taken_lowers m t a exit (Calls row place) leads =
    omega (arith, leads exit, one_if-true (is_before_instruction a.place))
taken_lowers m t a exit (Does (LockGate x) rest place) leads =
    let word = m.memory (Gate x) in
    let step : Bool → ℕ = λ free. one_if (is_before_instruction a.place && not (not free)) in
    elim (eqb_tells word free_word) [
      | inl free ↦
          omega (arith, (leads word).0 free.1, ap step free.0, one_if-true (is_before_instruction a.place))
      | inr taken ↦
          let stays : instructions_left m.functions a.function (place word) ≡ instructions_left m.functions a.function
          a.place =
          ap (instructions_left m.functions a.function) ((leads word).1 taken.0) in
          omega (arith, stays, ap step taken.0, one_if-false (is_before_instruction a.place))
    ]
taken_lowers m t a exit (Does d rest place) leads =
    omega (
      arith,
      leads (m.memory (address_of m.layout t a.actor.head d)),
      one_if-true (is_before_instruction a.place),
    )

-- The thread begins an instruction by the action, if no duty comes first.
abbrev begins_with : StepMachine → StepActor → List Duty → Action → Bool
begins_with m a agenda x = (length agenda == 0) && is_before_instruction a.place && takes_step m.memory x

-- A thread with a duty to do first begins nothing.
first_done : (d : Duty) (rest : List Duty) (before steps : Bool)
    → one_if ((length (d ∷ rest) == 0) && before && steps) ≡ 0
first_done d rest before steps =
    elim (eqb_tells (length (d ∷ rest)) 0) [
      | inl none ↦ absurd (let wrong : length (d ∷ rest) ≡ 0 = none.1 in omega (arith, wrong))
      | inr some ↦ ap (λ (empty : Bool). one_if (empty && before && steps)) some.0
    ]

agenda_lowers : (m : StepMachine) (t : ℕ) (a : StepActor) (exit : Exit) (agenda : List Duty)
    → AreBounded m.functions → CountsTurns m.functions a.function a.place
    → ActionLowers m t a exit
    (begins_with m a agenda (agenda_action m.functions m.layout t a agenda))
    (agenda_action m.functions m.layout t a agenda)
agenda_lowers m t a exit [] fits all =
    taken_lowers m t a exit (dispatch m.layout t a.actor.used (function_in m.functions a.function a.place).code a.place)
    (dispatch_lowers m.functions a.function m.layout t a.actor.used a.place fits all)
agenda_lowers m t a exit (d ∷ rest) fits all =
    let before = is_before_instruction a.place in
    let steps = takes_step m.memory (Does d rest (always a.place)) in
    let stays : one_if ((length (d ∷ rest) == 0) && before && steps)
    + instructions_left m.functions a.function a.place ≤ instructions_left m.functions a.function a.place = omega
    (arith, first_done d rest before steps) in
    stays

none_begun : (some before : Bool) → one_if (some && before && false) ≡ 0
none_begun true before = one_if-false before
none_begun false before = refl

status_lowers : (m : StepMachine) (t : ℕ) (a : StepActor) (exit : Exit) (status : Status)
    → AreBounded m.functions → CountsTurns m.functions a.function a.place
    → ActionLowers m t a exit
    (begins_with m a a.actor.agenda (status_action m.functions m.layout t a status))
    (status_action m.functions m.layout t a status)
status_lowers m t a exit Gone fits all =
    omega (arith, none_begun (length a.actor.agenda == 0) (is_before_instruction a.place))
status_lowers m t a exit Running fits all = agenda_lowers m t a exit a.actor.agenda fits all
status_lowers m t a exit Leaving fits all = agenda_lowers m t a exit a.actor.agenda fits all

action_lowers : (m : StepMachine) (t : ℕ) (a : StepActor) (choice : Choice)
    → AreBounded m.functions → CountsTurns m.functions a.function a.place
    → ActionLowers m t a (exit_of choice) (begins_by m t a choice)
    (action_of m.functions m.states m.layout t a choice)
action_lowers m t a Ok fits all = status_lowers m t a (exit_of Ok) a.actor.status fits all
action_lowers m t a Fault fits all = status_lowers m t a (exit_of Fault) a.actor.status fits all
action_lowers m t a Stop fits all =
    let lowers = ActionLowers m t a (exit_of Stop) false in
    either lowers (may_stop a) (stop_action m.functions m.states a.function a.place) Skip
    (λ may. stop_decides lowers m.functions m.states a.function a.place (omega arith) (omega arith)
    (λ lock calls. stopping_decides (λ (place : Place). 0 + instructions_left m.functions a.function place
    ≤ instructions_left m.functions a.function a.place)
    lock calls (omega arith) (omega arith)) (omega arith)) (omega arith)
action_lowers m t a (Claim row) fits all =
    either (ActionLowers m t a (exit_of (Claim row)) false) (may_claim m.layout t a row)
    (Does (ClaimMark row) [] (always a.place)) Skip (λ may. omega arith) (omega arith)

-- ---- an event

-- After the event the thread is there, with its function, and can begin less by what it has begun.
record StaysBounded (m new : StepMachine) (t : ℕ) (a : StepActor) (begins : Bool) : Type 0 where
  functions : new.functions ≡ m.functions
  after : StepActor
  is_there : slice_get new.actors t ≡ Some after
  function : after.function ≡ a.function
  lowers : one_if begins + instructions_left m.functions a.function after.place
      ≤ instructions_left m.functions a.function a.place

action_goes : (m : StepMachine) (t : ℕ) (a : StepActor) (exit : Exit) (begins : Bool) (x : Action)
    → slice_get m.actors t ≡ Some a
    → ActionLowers m t a exit begins x
    → StaysBounded m (machine_by m t a exit x) t a begins
action_goes m t a exit begins Skip found lowers =
    record { functions = refl; after = a; is_there = found; function = refl; lowers = lowers }
action_goes m t a exit begins Stuck found lowers =
    record { functions = refl; after = a; is_there = found; function = refl; lowers = lowers }
action_goes m t a exit begins (Silent moves place) found lowers = record {
  functions = refl;
  after = at_place a place;
  is_there = slice_get-set_same m.actors t (at_place a place) (slice_get_within m.actors t a found);
  function = refl;
  lowers = lowers;
}
action_goes m t a exit begins (Calls row place) found lowers = record {
  functions = refl;
  after = at_place a (place exit);
  is_there = slice_get-set_same m.actors t (at_place a (place exit)) (slice_get_within m.actors t a found);
  function = refl;
  lowers = lowers;
}
action_goes m t a exit begins (Does d rest place) found lowers =
    let word = m.memory (address_of m.layout t a.actor.head d) in
    let after = step_actor m.layout t a d rest (place word) word in
    record {
      functions = refl;
      after = after;
      is_there = slice_get-set_same m.actors t after (slice_get_within m.actors t a found);
      function = refl;
      lowers = lowers;
    }

-- The machine after an event of the thread.
abbrev after : StepMachine → ℕ → Choice → Option StepActor → StepMachine
after m t choice o = of_thread m (λ a. machine_by m t a (exit_of choice)
    (action_of m.functions m.states m.layout t a choice)) o

abbrev begins : StepMachine → ℕ → Choice → Option StepActor → Bool
begins m t choice o = of_thread false (λ a. begins_by m t a choice) o

-- The machine has the module's functions, whose limits are enough.
are_bounded : (p : Module) (m : StepMachine) → IsModule p → TurnsHold p m → AreBounded m.functions
are_bounded p m fits holds = record {
  fits = λ number. code_here p m number fits holds;
  limits = subst LimitsFit (sym holds.functions) (limits_fit p.version p.functions fits.calls);
}

own_goes : (p : Module) (m : StepMachine) (event : ℕ × Choice) (t : ℕ) (a : StepActor) → IsModule p → TurnsHold p m
    → slice_get m.actors t ≡ Some a → event.0 ≡ t
    → StaysBounded m (next_machine m event) t a (begins m t event.1 (slice_get m.actors t))
own_goes p m event t a fits holds found same =
    let own =
    action_goes m t a (exit_of event.1) (begins_by m t a event.1) (action_of m.functions m.states m.layout t a event.1)
    found
    (action_lowers m t a event.1 (are_bounded p m fits holds) (holds.counts t a found)) in
    let at_var : StaysBounded m (after m t event.1 (slice_get m.actors t)) t a
    (begins m t event.1 (slice_get m.actors t)) =
    subst (λ (o : Option StepActor). StaysBounded m (after m t event.1 o) t a (begins m t event.1 o)) (sym found) own in
    subst (λ (u : ℕ). StaysBounded m (after m u event.1 (slice_get m.actors u)) t a
    (begins m t event.1 (slice_get m.actors t))) (sym same) at_var

other_goes : (m : StepMachine) (event : ℕ × Choice) (t : ℕ) (a : StepActor) → slice_get m.actors t ≡ Some a
    → t ≢ event.0 → StaysBounded m (next_machine m event) t a false
other_goes m event t a found ne =
    let leaves = thread_leaves m event.0 t event.1 (slice_get m.actors event.0) ne in
    record {
      functions = leaves.functions;
      after = a;
      is_there = leaves.actor ∙ found;
      function = refl;
      lowers = omega arith;
    }

event_goes : (p : Module) (m : StepMachine) (event : ℕ × Choice) (t : ℕ) (a : StepActor) → IsModule p → TurnsHold p m
    → slice_get m.actors t ≡ Some a → StaysBounded m (next_machine m event) t a (begins_at t m event)
event_goes p m event t a fits holds found =
    let P : Bool → Type 0 = λ own.
    StaysBounded m (next_machine m event) t a (cond own (begins m t event.1 (slice_get m.actors t)) false) in
    elim (eqb_tells event.0 t) [
      | inl same ↦ subst P (sym same.0) (own_goes p m event t a fits holds found same.1)
      | inr apart ↦ subst P (sym apart.0) (other_goes m event t a found (λ e. apart.1 (sym e)))
    ]

-- ---- a list of events

-- After the events the thread is there, and can begin less by what it has begun.
record Reaches (m new : StepMachine) (t : ℕ) (a : StepActor) (some : ℕ) : Type 0 where
  after : StepActor
  is_there : slice_get new.actors t ≡ Some after
  lowers : some + instructions_left m.functions a.function after.place
      ≤ instructions_left m.functions a.function a.place

events_reach : (p : Module) (m : StepMachine) (events : List (ℕ × Choice)) (t : ℕ) (a : StepActor) → IsModule p
    → TurnsHold p m → slice_get m.actors t ≡ Some a → Reaches m (machine_after m events) t a (begun t m events)
events_reach p m [] t a fits holds found = record { after = a; is_there = found; lowers = omega arith }
events_reach p m (event ∷ rest) t a fits holds found =
    let next = next_machine m event in
    let goes = event_goes p m event t a fits holds found in
    let behind = events_reach p next rest t goes.after fits (turns_next p m event fits holds) goes.is_there in
    let lowers =
    subst (λ (fs : List Function). begun t next rest + instructions_left fs a.function behind.after.place
    ≤ instructions_left fs a.function goes.after.place) goes.functions
    (subst (λ (n : ℕ). begun t next rest + instructions_left next.functions n behind.after.place
    ≤ instructions_left next.functions n goes.after.place) goes.function behind.lowers) in
    record {
      after = behind.after;
      is_there = behind.is_there;
      lowers = omega (arith, goes.lowers, lowers);
    }

-- ---- the law

same_calls : (limit n left : ℕ) → Some n ≡ Some left → n * limit ≡ left * limit
same_calls limit n left is = ap (λ (k : ℕ). k * limit) (some_is n left is)

-- In a call a thread can begin what its later calls allow, and the limit once more.
left_in_call : (functions : List Function) (first : ℕ) (place : Place) (left : ℕ) → LimitsFit functions
    → CountsTurns functions first place → calls_after place ≡ Some left
    → instructions_left functions first place ≤ left * call_limit functions first + call_limit functions first
left_in_call functions first (Idle (suc n)) left limits all is =
    omega (arith, same_calls (call_limit functions first) n left is)
left_in_call functions first (InCall context at variables) left limits all is =
    let within = context_within functions first context at limits all.1 in
    omega (arith, same_calls (call_limit functions first) context.left left is, within)
left_in_call functions first (Inside context at variables stage) left limits all is =
    let within = context_within functions first context (at + 1) limits all.1 in
    omega (arith, same_calls (call_limit functions first) context.left left is, within)
left_in_call functions first _ left limits all is = cc

-- As long as it hasn't gone on to the next call, it can still begin what its later calls allow.
left_after_call : (functions : List Function) (first : ℕ) (place : Place) (left : ℕ) → IsInOrAfter left place
    → left * call_limit functions first ≤ instructions_left functions first place
left_after_call functions first place left (inr ended) =
    let same : instructions_left functions first place ≡ left * call_limit functions first =
    ap (instructions_left functions first) ended in
    omega (arith, same)
left_after_call functions first (Idle zero) left (inl is) = absurd (none_some left is)
left_after_call functions first (Idle (suc n)) left (inl is) =
    omega (arith, same_calls (call_limit functions first) n left is)
left_after_call functions first (InCall context at variables) left (inl is) =
    omega (arith, same_calls (call_limit functions first) context.left left is)
left_after_call functions first (Inside context at variables stage) left (inl is) =
    omega (arith, same_calls (call_limit functions first) context.left left is)
left_after_call functions first (Stopping lock calls) left (inl is) = absurd (none_some left is)
left_after_call functions first Exiting left (inl is) = absurd (none_some left is)

call_is_bounded : (p : Module) (m : StepMachine) → IsModule p → TurnsHold p m → CallsAreBounded m
call_is_bounded p m fits holds events t left a b found in_call ends still =
    let reach = events_reach p m events t a fits holds found in
    let there : reach.after ≡ b = some_is reach.after b (sym reach.is_there ∙ ends) in
    let same : instructions_left m.functions a.function reach.after.place
    ≡ instructions_left m.functions a.function b.place =
    ap (λ (c : StepActor). instructions_left m.functions a.function c.place) there in
    omega (
      arith,
      reach.lowers,
      same,
      left_in_call m.functions a.function a.place left (are_bounded p m fits holds).limits (holds.counts t a found)
          in_call,
      left_after_call m.functions a.function b.place left still,
    )

thread_is_bounded : (p : Module) (m : StepMachine) → IsModule p → TurnsHold p m → ThreadsAreBounded m
thread_is_bounded p m fits holds events t left a found idle =
    let reach = events_reach p m events t a fits holds found in
    let whole : instructions_left m.functions a.function a.place ≡ left * call_limit m.functions a.function =
    ap (instructions_left m.functions a.function) idle in
    omega (arith, reach.lowers, whole)

pub calls_bounded : (p : Module) → IsModule p → Always CallsAreBounded p
calls_bounded p fits = λ states rows calls events states_true some most are_calls.
    call_is_bounded p _ fits
    (turns_after p (first_machine p states rows calls) events fits (first_turns p states rows calls))

pub threads_bounded : (p : Module) → IsModule p → Always ThreadsAreBounded p
threads_bounded p fits = λ states rows calls events states_true some most are_calls.
    thread_is_bounded p _ fits
    (turns_after p (first_machine p states rows calls) events fits (first_turns p states rows calls))
