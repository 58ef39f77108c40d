-- The words and the thread after a step of the code are those of the model's world after its step.
use Rattle.std.proofs.Common.{◌≡◌, ◌≢◌, ℕ, ◌<◌, Bool, true, false, cond, List, [], ◌∷◌, length, Option, Some, inl, inr, refl, sym, ap, ◌∙◌, arith, get_or-set_same}
use Rattle.std.specs.Prelude.{◌==◌, not, is_some, slice_get, slice_set}
use Rattle.std.proofs.lemmas.Bool.{cases_Bool, and_parts, eqb-true}
use Rattle.std.proofs.lemmas.Bool.Decides.{eqb_tells}
use Rattle.std.proofs.lemmas.List.{set-get_or, nil_from_length, length-set}
use Rattle.std.proofs.lemmas.Option.{get_or_from_slice_get, slice_get-get_or, slice_get_within}
use Rattle.brc_lang.specs.declared.module.Function.{Function}
use Rattle.brc_lang.specs.declared.module.Module.{Module}
use Rattle.brc_lang.specs.Limits.{depth_limit}
use Rattle.brc_model.specs.AbstractState.{Move}
use Rattle.brc_model.specs.Threads.{outer_of}
use Rattle.brc_model.specs.declared.actor.Context.{Context}
use Rattle.brc_model.specs.declared.actor.OpenCall.{OpenCall}
use Rattle.brc_model.specs.declared.actor.Place.{Place}
use Rattle.brc_model.specs.declared.actor.Place.TheVariants.{Idle, InCall, Inside, Stopping, Exiting}
use Rattle.brc_model.specs.StopLaws.{EachGivesUp, GivesUpOwned}
use Rattle.brc_world.specs.OpenCalls.{AreKnown}
use Rattle.brc_model.specs.declared.address.Address.{Address}
use Rattle.brc_model.specs.declared.duty.Duty.{Duty}
use Rattle.brc_model.specs.declared.duty.Duty.TheVariants.{ClaimMark}
use Rattle.brc_model.specs.declared.thread.Choice.{Choice}
use Rattle.brc_model.specs.declared.thread.Choice.TheVariants.{Ok, Claim, Fault, Stop}
use Rattle.brc_model.specs.World.{IsReachable, World, world_of, machine_of, step}
use Rattle.brc_model.specs.declared.state.Exit.{Exit}
use Rattle.brc_model.specs.declared.state.Exit.TheVariants as exits
use Rattle.brc_model.specs.Actions.{StepActor, Action, Skip, Stuck, Silent, Calls, Does, always, stop_action}
use Rattle.brc_model.specs.Dispatch.{is_before_instruction, may_claim, may_stop, status_action, exit_of, action_of}
use Rattle.brc_model.specs.Machine.{mark_of}
use Rattle.brc_model.specs.StepMachine.{of_thread, at_place, machine_by}
use Rattle.brc_model.specs.Within.{IsWithin, StepsWithin}
use Rattle.brc_machine.specs.declared.faults.Faults.{Faults}
use Rattle.brc_world.specs.Worlds.{choice_of}
use Rattle.brc_world.specs.Actors.{memory_by, actor_by, faults_by, finds_mark, memory_claimed, actor_claimed, CanDo, CanAct, CanClaim, CanStop, action_stopped, silently}
use Rattle.brc_model.specs.declared.layout.Layout.{Layout}
use Rattle.brc_model.specs.Layout.{row_count}
use Rattle.brc_model.specs.declared.state.State.{State}
use Rattle.brc_model.proofs.Basics.Lists.{either}
use Rattle.brc_model.proofs.Dispatch.Decided.{stop_decides}

-- the counts of faults of the world
abbrev pub faults_of : World → Faults
faults_of w = record { calls = w.host_faults; closes = w.close_faults }

-- the world with other words and other counts of faults, and with thread t replaced
abbrev pub with_words : World → ℕ → (Address → ℕ) → StepActor → Faults → World
with_words w t memory a faults = record {
  functions = w.functions;
  states = w.states;
  layout = w.layout;
  memory = memory;
  actors = slice_set w.actors t a;
  host_faults = faults.calls;
  close_faults = faults.closes;
}

-- Storing the thread that is there already changes no thread.
set_same : (actors : List StepActor) (t : ℕ) (a : StepActor) → slice_get actors t ≡ Some a
    → slice_set actors t a ≡ actors
set_same actors t a found =
    ap (slice_set actors t) (sym (get_or_from_slice_get actors t a a found)) ∙ set-get_or actors t a

-- A world with its own words and its own thread is unchanged.
pub unchanged : (w : World) (t : ℕ) (a : StepActor) → slice_get w.actors t ≡ Some a
    → with_words w t w.memory a (faults_of w) ≡ w
unchanged w t a found =
    ap (λ (actors : List StepActor). let v : World = record {
      functions = w.functions;
      states = w.states;
      layout = w.layout;
      memory = w.memory;
      actors = actors;
      host_faults = w.host_faults;
      close_faults = w.close_faults;
    } in v)
    (set_same w.actors t a found)

-- ---- the next step of a thread

-- the action makes no host call and does no duty
abbrev pub IsQuiet : Action → Type 0
IsQuiet Skip = Unit {0}
IsQuiet Stuck = Unit {0}
IsQuiet (Silent moves place) = Unit {0}
IsQuiet (Calls row place) = ⊥
IsQuiet (Does d rest place) = ⊥

-- the world after an event of the thread, which is `o`
abbrev pub after : World → ℕ → Choice → Option StepActor → World
after w t choice o =
    world_of (of_thread (machine_of w)
    (λ a. machine_by (machine_of w) t a (exit_of choice) (action_of w.functions w.states w.layout t a choice)) o)

-- The world after an action has the words, the thread and the counts of faults that `memory_by`, `actor_by` and
-- `faults_by` give.
action_as : (w : World) (t : ℕ) (a : StepActor) (exit : Exit) (x : Action) → slice_get w.actors t ≡ Some a
    → world_of (machine_by (machine_of w) t a exit x)
    ≡ with_words w t (memory_by w.layout t w.memory a x) (actor_by w.layout t w.memory a exit x)
    (faults_by exit x (faults_of w))
action_as w t a exit Skip found = sym (unchanged w t a found)
action_as w t a exit Stuck found = sym (unchanged w t a found)
action_as w t a exit (Silent moves place) found = refl
action_as w t a exit (Calls row place) found = refl
action_as w t a exit (Does d rest place) found = refl

-- the world after the thread's action, which ends by the exit
abbrev pub gone_on : World → ℕ → StepActor → Exit → World
gone_on w t a exit =
    let x = status_action w.functions w.layout t a a.actor.status in
    with_words w t (memory_by w.layout t w.memory a x) (actor_by w.layout t w.memory a exit x)
    (faults_by exit x (faults_of w))

-- The world after the thread's next step has the words, the thread and the counts of faults of the thread's action.
pub going_on : (w : World) (t : ℕ) (a : StepActor) (exit : Exit) → slice_get w.actors t ≡ Some a
    → step w t (choice_of exit) ≡ gone_on w t a exit
going_on w t a exits.Success found =
    ap (after w t Ok) found
    ∙ action_as w t a exits.Success (status_action w.functions w.layout t a a.actor.status) found
going_on w t a exits.Fault found =
    ap (after w t Fault) found
    ∙ action_as w t a exits.Fault (status_action w.functions w.layout t a a.actor.status) found

-- What holds of both exits holds of the exit.
pub at_exit : (P : Choice → Type 0) (exit : Exit) → P Ok × P Fault → P (choice_of exit)
at_exit P exits.Success both = both.0
at_exit P exits.Fault both = both.1

-- ---- claims

-- A claim that finds no mark, or that the thread may not make, leaves the words and the thread as they are.
pub misses_as : (w : World) (t : ℕ) (a : StepActor) (row : ℕ) → slice_get w.actors t ≡ Some a
    → finds_mark w.layout t w.memory a row ≡ false → step w t (Claim row) ≡ w
    → step w t (Claim row) ≡ with_words w t (memory_claimed w.layout t w.memory a row)
    (actor_claimed w.layout t w.memory a row) (faults_of w)
misses_as w t a row found none same = rw none (same ∙ sym (unchanged w t a found))

-- A thread that may claim has an empty agenda.
claims_at_rest : (layout : Layout) (t : ℕ) (a : StepActor) (row : ℕ) → may_claim layout t a row ≡ true
    → a.actor.agenda ≡ []
claims_at_rest layout t a row may =
    let rests = and_parts _ _ (and_parts _ _ (and_parts _ _ may).0).0 in
    nil_from_length a.actor.agenda (eqb-true _ _ rests.1)

-- The world after a claim that finds a mark has the words and the thread that the claim's duty leaves.
pub finds_as : (w : World) (t : ℕ) (a : StepActor) (row : ℕ) → slice_get w.actors t ≡ Some a
    → may_claim w.layout t a row ≡ true → finds_mark w.layout t w.memory a row ≡ true
    → step w t (Claim row) ≡ with_words w t (memory_claimed w.layout t w.memory a row)
    (actor_claimed w.layout t w.memory a row) (faults_of w)
finds_as w t a row found may marked =
    let rests = claims_at_rest w.layout t a row may in
    let set : not (mark_of w.layout w.memory row == 0) ≡ true = (and_parts _ _ marked).1 in
    ap (after w t (Claim row)) found ∙ (rw (may, set, rests) refl)

-- A claim that finds no mark, or that the thread may not make, leaves the world as it is.
pub claim_stays : (w : World) (t : ℕ) (a : StepActor) (row : ℕ) → finds_mark w.layout t w.memory a row ≡ false
    → (may_claim w.layout t a row ≡ true → mark_of w.layout w.memory row ≡ 0 → step w t (Claim row) ≡ w)
    → (may_claim w.layout t a row ≡ false → step w t (Claim row) ≡ w) → step w t (Claim row) ≡ w
claim_stays w t a row missed unmarked unplaced =
    elim (cases_Bool (may_claim w.layout t a row)) [
      | inl may ↦ elim (eqb_tells (mark_of w.layout w.memory row) 0) [
        | inl none ↦ unmarked may none.1
        | inr some ↦ let wrong : true ≡ false = rw (may, some.0) at missed in absurd cc
      ]
      | inr not_so ↦ unplaced not_so
    ]

-- A claim that finds a mark changes the world.
pub claim_moves : (w : World) (t : ℕ) (a : StepActor) (row : ℕ) → finds_mark w.layout t w.memory a row ≡ true
    → (may_claim w.layout t a row ≡ true → mark_of w.layout w.memory row ≢ 0 → step w t (Claim row) ≢ w)
    → step w t (Claim row) ≢ w
claim_moves w t a row marked moves =
    let parts = and_parts (may_claim w.layout t a row) (not (mark_of w.layout w.memory row == 0)) marked in
    elim (eqb_tells (mark_of w.layout w.memory row) 0) [
      | inl none ↦ let wrong : false ≡ true = rw none.0 at parts.1 in absurd cc
      | inr some ↦ moves parts.0 some.1
    ]

-- The world after any claim has the words and the thread that `memory_claimed` and `actor_claimed` give.
pub claim_is : (p : Module) (w : World) (t : ℕ) (a : StepActor) (row : ℕ) → IsReachable p w
    → slice_get w.actors t ≡ Some a
    → (may_claim w.layout t a row ≡ true → mark_of w.layout w.memory row ≡ 0 → step w t (Claim row) ≡ w)
    → (may_claim w.layout t a row ≡ false → step w t (Claim row) ≡ w)
    → step w t (Claim row) ≡ with_words w t (memory_claimed w.layout t w.memory a row)
    (actor_claimed w.layout t w.memory a row) (faults_of w)
claim_is p w t a row reachable found unmarked unplaced =
    elim (cases_Bool (finds_mark w.layout t w.memory a row)) [
      | inl marked ↦
          finds_as w t a row found
          (and_parts (may_claim w.layout t a row) (not (mark_of w.layout w.memory row == 0)) marked).0 marked
      | inr missed ↦ misses_as w t a row found missed (claim_stays w t a row missed unmarked unplaced)
    ]

-- ---- stops

-- A stop's action leaves the words and the counts of faults, and changes the thread alone.
stopped_as : (w : World) (t : ℕ) (a : StepActor) (x : Action) → IsQuiet x
    → with_words w t (memory_by w.layout t w.memory a x) (actor_by w.layout t w.memory a exits.Success x)
    (faults_by exits.Success x (faults_of w))
    ≡ with_words w t w.memory (silently a x) (faults_of w)
stopped_as w t a Skip quiet = refl
stopped_as w t a Stuck quiet = refl
stopped_as w t a (Silent moves place) quiet = refl
stopped_as w t a (Calls row place) quiet = absurd quiet
stopped_as w t a (Does d rest place) quiet = absurd quiet

-- A stop makes no host call and does no duty.
pub stop_quiet : (functions : List Function) (states : ℕ → ℕ → Option State) (a : StepActor)
    → IsQuiet (action_stopped functions states a)
stop_quiet functions states a =
    either IsQuiet (may_stop a) (stop_action functions states a.function a.place) Skip
    (λ may. stop_decides IsQuiet functions states a.function a.place tt tt (λ lock calls. tt) tt) tt

known_by : (functions : List Function) (states : ℕ → ℕ → Option State) (first : ℕ) (outer : List OpenCall)
    → EachGivesUp functions states first outer → AreKnown functions states first outer
known_by functions states first [] gives = tt
known_by functions states first (o ∷ outer) gives =
    (ap (λ (s : Option State). is_some s) gives.0.is_state, known_by functions states first outer gives.1)

known_at : (functions : List Function) (states : ℕ → ℕ → Option State) (first : ℕ) (place : Place)
    → is_before_instruction place ≡ true
    → ((at : ℕ) (context : Context) (variables : List (Option ℕ)) → place ≡ InCall context at variables
    → EachGivesUp functions states first context.outer)
    → AreKnown functions states first (outer_of place)
known_at functions states first (Idle left) before gives = tt
known_at functions states first (InCall context at variables) before gives =
    known_by functions states first context.outer (gives at context variables refl)
known_at functions states first (Inside context at variables stage) before gives = absurd cc
known_at functions states first (Stopping lock calls) before gives = tt
known_at functions states first Exiting before gives = tt

-- A thread that may stop in a call gives up what each open call owns, so the states say in which state each waits.
pub can_stop : (w : World) (t : ℕ) (a : StepActor)
    → ((at : ℕ) (context : Context) (variables : List (Option ℕ)) → may_stop a ≡ true
    → a.place ≡ InCall context at variables → GivesUpOwned w t at a context variables)
    → CanStop w.functions w.states a
can_stop w t a gives may =
    known_at w.functions w.states a.function a.place (and_parts _ _ (and_parts _ _ may).0).0
    (λ at context variables is. (gives at context variables may is).outer)

-- The world after a stop has its words, and the thread that `silently` gives.
pub stop_is : (w : World) (t : ℕ) (a : StepActor) → slice_get w.actors t ≡ Some a
    → step w t Stop ≡ with_words w t w.memory (silently a (action_stopped w.functions w.states a)) (faults_of w)
stop_is w t a found =
    ap (after w t Stop) found ∙ action_as w t a exits.Success (action_stopped w.functions w.states a) found
    ∙ stopped_as w t a (action_stopped w.functions w.states a) (stop_quiet w.functions w.states a)

-- ---- steps within bounds

-- The thread can do a duty that is within all bounds.
pub able : (w : World) (t : ℕ) (a : StepActor) (d : Duty) → IsWithin w t a.actor d
    → CanDo w.layout t (row_count w.layout) w.memory a d
able w t a d within = record { there = within.there; suits = within.suits; uses = within.used }

-- In the world after the thread's step by each choice it has few calls open.
abbrev pub StepsOpenFew : World → ℕ → Type 0
StepsOpenFew w t = (choice : Choice) (b : StepActor) → slice_get (step w t choice).actors t ≡ Some b
    → length (outer_of b.place) < depth_limit

stored_there : (actors : List StepActor) (t : ℕ) (b : StepActor) → t < length actors
    → slice_get (slice_set actors t b) t ≡ Some b
stored_there actors t b within =
    slice_get-get_or (slice_set actors t b) t b (omega (arith, within, length-set actors t b))
    ∙ ap Some (get_or-set_same actors t b b within)

-- So a silent step opens few calls.
few_by : (w : World) (t : ℕ) (a : StepActor) (choice : Choice) (moves : List Move) (place : Place)
    → slice_get w.actors t ≡ Some a → action_of w.functions w.states w.layout t a choice ≡ Silent moves place
    → StepsOpenFew w t → length (outer_of place) < depth_limit
few_by w t a choice moves place found is few =
    few choice (at_place a place)
    (ap (λ (v : World). slice_get v.actors t)
    (ap (after w t choice) found
    ∙ ap (λ (x : Action). world_of (machine_by (machine_of w) t a (exit_of choice) x)) is)
    ∙ stored_there w.actors t (at_place a place) (slice_get_within w.actors t a found))

-- The thread can do its action, if each duty that the action may be is within all bounds, and it opens few calls.
pub can_act : (w : World) (t : ℕ) (a : StepActor) (x : Action)
    → ((d : Duty) (rest : List Duty) (place : ℕ → Place) → x ≡ Does d rest place → IsWithin w t a.actor d)
    → ((moves : List Move) (place : Place) → x ≡ Silent moves place → length (outer_of place) < depth_limit)
    → CanAct w.layout t (row_count w.layout) w.memory a x
can_act w t a Skip within few = tt
can_act w t a Stuck within few = tt
can_act w t a (Silent moves place) within few = few moves place refl
can_act w t a (Calls row place) within few = tt
can_act w t a (Does d rest place) within few = able w t a d (within d rest place refl)

-- The thread can take its step by the choice, if its steps are within all bounds.
pub can_step : (w : World) (t : ℕ) (a : StepActor) (choice : Choice) → slice_get w.actors t ≡ Some a
    → StepsWithin w t a → StepsOpenFew w t
    → CanAct w.layout t (row_count w.layout) w.memory a (action_of w.functions w.states w.layout t a choice)
can_step w t a choice found steps few =
    can_act w t a (action_of w.functions w.states w.layout t a choice) (steps choice)
    (λ moves place is. few_by w t a choice moves place found is few)

-- The thread can claim a row, if its steps are within all bounds.
pub can_claim : (w : World) (t : ℕ) (a : StepActor) (row : ℕ) → StepsWithin w t a
    → CanClaim w.layout t (row_count w.layout) w.memory a row
can_claim w t a row steps may =
    able w t a (ClaimMark row) (steps (Claim row) (ClaimMark row) [] (always a.place)
    (ap (λ (b : Bool). cond b (Does (ClaimMark row) [] (always a.place)) Skip) may))
