-- Which steps change the world: every step of a thread that isn't gone, except for a claim that isn't allowed or finds
-- no mark, and for a lock that another thread holds (`LocksWait`).
use Rattle.std.proofs.Common.{◌≡◌, ◌≢◌, ℕ, ◌+◌, Bool, true, false, cond, List, [], ◌∷◌, ◌++◌, length, inl, inr, Option, Some, refl, sym, ap, ◌∙◌, subst, ◌⊎◌, suc, None}
use Rattle.std.specs.Prelude.{◌==◌, slice_get, slice_set}
use Rattle.std.proofs.Math.Path.{fun_ext}
use Rattle.std.proofs.lemmas.Option.{slice_get_within}
use Rattle.std.proofs.lemmas.Bool.{eqb-true, not-false}
use Rattle.brc_word.specs.declared.values.TheConstants.{UNSET}
use Rattle.brc_lang.specs.declared.module.Module.{Module}
use Rattle.brc_model.specs.declared.thread.Choice.{Choice}
use Rattle.brc_model.specs.declared.thread.Choice.TheVariants.{Ok, Fault, Claim, Stop}
use Rattle.brc_word.specs.Words.{free_word, unmarked_word}
use Rattle.brc_model.specs.Threads.{function_in, number_under, number_in}
use Rattle.brc_model.specs.declared.duty.Reason.TheVariants.{Handed}
use Rattle.brc_model.specs.declared.duty.Duty.{Duty}
use Rattle.brc_model.specs.declared.duty.Duty.TheVariants.{MergeSwap, Settle, TakeFound, ClaimMark, LockGate}
use Rattle.brc_model.specs.declared.address.Address.{Address}
use Rattle.brc_model.specs.declared.address.Address.TheVariants.{Gate}
use Rattle.brc_model.specs.Duties.{mark_place, address_of, new_head, ready}
use Rattle.brc_model.specs.declared.actor.Status.{Status}
use Rattle.brc_model.specs.declared.actor.Status.TheVariants.{Running, Leaving, Gone}
use Rattle.brc_model.specs.declared.actor.Place.{Place}
use Rattle.brc_model.specs.Machine.{Machine, is_running, written, mark_of}
use Rattle.brc_model.specs.declared.state.Exit.{Exit}
use Rattle.brc_model.specs.declared.state.Exit.TheVariants.{Success}
use Rattle.brc_model.specs.Actions.{StepActor, Action, Skip, Stuck, Silent, Calls, Does, always, stop_action, stop_in_call, row_locked, owned_rows, given_up}
use Rattle.brc_model.specs.Dispatch.{may_claim, agenda_action, status_action, exit_of, action_of, is_before_instruction, may_stop}
use Rattle.brc_model.specs.StepMachine.{StepMachine, of_thread, at_place, step_actor, does_by, machine_by, next_machine, first_machine, machine_after}
use Rattle.brc_model.specs.World.{World, world_of, machine_of, step, finds_locked, waits_for_lock, IsReachable}
use Rattle.brc_model.proofs.Basics.Lists.{some_is, slice_get-set_same, set_found}
use Rattle.brc_model.proofs.Basics.Written.{written_load}
use Rattle.brc_model.proofs.Basics.Marks.{none_taken, taken_mark}
use Rattle.brc_model.proofs.Dispatch.Claims.{claimer, gone_claims_none, stopper, gone_stops_not}
use Rattle.brc_model.proofs.Dispatch.Actions.{ActionFits, action_fits}
use Rattle.brc_model.proofs.Keeping.Kept.{Doing}
use Rattle.brc_model.proofs.Frame.Leaves.{head_of}
use Rattle.brc_model.proofs.Stepping.FitsAfter.{agenda_here}
use Rattle.brc_model.proofs.Basics.FoundMarks.{marks_fit}
use Rattle.brc_model.specs.declared.actor.Actor.{Actor}
use Rattle.brc_model.specs.Invariant.{AtDuty}
use Rattle.brc_model.specs.Accounts.{Accounts}
use Rattle.brc_model.proofs.Keeping.CodeInvariant.{CodeInvariant}
use Rattle.brc_model.proofs.Keeping.CodeEvents.{code_invariant_after}
use Rattle.brc_model.proofs.Promises.Safe.{first_code_invariant}
use Rattle.brc_model.proofs.Promises.Worlds.{worlds_follow}
use Rattle.brc_model.proofs.Promises.AgendaMoves.{FindsMarks, agenda_moves}
use Rattle.brc_model.proofs.Promises.Turns.{CountsTurns, FitsCode, TurnsHold, code_here, first_turns, turns_after}
use Rattle.brc_model.proofs.Promises.Elsewhere.{FindsFree, IsElsewhere, leads_free, dispatch_elsewhere}
use Rattle.brc_model.proofs.Promises.Emptied.{chain_empty}
use Rattle.brc_lang.specs.Grammar.{IsModule}
use Rattle.brc_lang.specs.declared.module.Function.{Function}
use Rattle.brc_model.specs.declared.layout.Layout.{Layout}
use Rattle.brc_model.specs.Layout.{mark_bit}
use Rattle.brc_model.proofs.Dispatch.Decided.{stopping_decides, stop_decides}
use Rattle.brc_model.specs.declared.actor.Place.TheVariants.{Idle, InCall}
use Rattle.brc_model.specs.declared.state.State.{State}

-- ---- a thread that isn't gone

-- Worlds in which a thread differs are different.
actor_apart : (v w : World) (t : ℕ) (a b : StepActor) → slice_get w.actors t ≡ Some a
    → v.actors ≡ slice_set w.actors t b
    → b ≢ a → v ≢ w
actor_apart v w t a b found set apart e =
    apart (some_is b a (sym (slice_get-set_same w.actors t b (slice_get_within w.actors t a found))
    ∙ ap (λ (l : List StepActor). slice_get l t) (sym set ∙ ap (λ (u : World). u.actors) e) ∙ found))

-- The action leads the thread to another place, unless it waits for a lock, or is the first duty of its agenda.
abbrev Moves : StepActor → Action → Type 0
Moves a Skip = ⊥
Moves a Stuck = Unit {0}
Moves a (Silent moves place) = place ≢ a.place
Moves a (Calls row place) = (exit : Exit) → place exit ≢ a.place
Moves a (Does d rest place) = IsElsewhere a.place (Does d rest place) ⊎ (a.actor.agenda ≡ d ∷ rest)

elsewhere_moves : (a : StepActor) (x : Action) → IsElsewhere a.place x → Moves a x
elsewhere_moves a Skip elsewhere = elsewhere
elsewhere_moves a Stuck elsewhere = tt
elsewhere_moves a (Silent moves place) elsewhere = elsewhere
elsewhere_moves a (Calls row place) elsewhere = elsewhere
elsewhere_moves a (Does d rest place) elsewhere = inl elsewhere

agenda_moves_on : (functions : List Function) (layout : Layout) (t : ℕ) (a : StepActor) (agenda : List Duty)
    → a.actor.agenda ≡ agenda
    → FitsCode (function_in functions a.function a.place).code → CountsTurns functions a.function a.place
    → Moves a (agenda_action functions layout t a agenda)
agenda_moves_on functions layout t a [] is fits all =
    elsewhere_moves a (agenda_action functions layout t a [])
    (dispatch_elsewhere functions a.function layout t a.actor.used a.place fits all)
agenda_moves_on functions layout t a (d ∷ rest) is fits all = inr is

status_moves_on : (functions : List Function) (layout : Layout) (t : ℕ) (a : StepActor) (status : Status)
    → status ≢ Gone
    → FitsCode (function_in functions a.function a.place).code → CountsTurns functions a.function a.place
    → Moves a (status_action functions layout t a status)
status_moves_on functions layout t a Gone alive fits all = absurd (alive refl)
status_moves_on functions layout t a Running alive fits all =
    agenda_moves_on functions layout t a a.actor.agenda refl fits all
status_moves_on functions layout t a Leaving alive fits all =
    agenda_moves_on functions layout t a a.actor.agenda refl fits all

-- A duty finds that it can go on, unless the thread waits for a lock.
finds_free : (memory : Address → ℕ) (layout : Layout) (t head : ℕ) (d : Duty) (rest : List Duty) (place : ℕ → Place)
    → finds_locked memory (Does d rest place) ≡ false → FindsFree d (memory (address_of layout t head d))
finds_free memory layout t head (LockGate x) rest place free =
    eqb-true (memory (Gate x)) free_word (not-false (memory (Gate x) == free_word) free)
finds_free memory layout t head _ rest place free = tt

-- A thread that takes marks has found some.
finds_marks : {c : Accounts} {n : ℕ} {m : Machine} {t : ℕ} {a : Actor} (d : Duty) (rest : List Duty)
    → Doing c n m t a d rest → FindsMarks d
finds_marks {a = a} (TakeFound w marks) rest doing =
    let here : AtDuty _ _ _ _ a (TakeFound w marks) rest =
    record { core = doing.kept.core; found = doing.found; agenda = doing.agenda } in
    (head_of here, marks_fit marks a.used w (agenda_here here doing.alive).1)
finds_marks _ rest doing = tt

action_moves : (c : Accounts) (n : ℕ) (m : StepMachine) (t : ℕ) (a : StepActor) (exit : Exit)
    (x : Action)
    → slice_get m.actors t ≡ Some a → finds_locked m.memory x ≡ false → ActionFits c n m t a x → Moves a x
    → world_of (machine_by m t a exit x) ≢ world_of m
action_moves c n m t a exit Skip found free fits moves = absurd moves
action_moves c n m t a exit Stuck found free fits moves = absurd fits
action_moves c n m t a exit (Silent refs place) found free fits moves =
    actor_apart (world_of (machine_by m t a exit (Silent refs place))) (world_of m) t a (at_place a place) found refl
    (λ e. moves (ap (λ (c : StepActor). c.place) e))
action_moves c n m t a exit (Calls row place) found free fits moves =
    actor_apart (world_of (machine_by m t a exit (Calls row place))) (world_of m) t a (at_place a (place exit)) found
    refl
    (λ e. moves exit (ap (λ (c : StepActor). c.place) e))
action_moves c n m t a exit (Does d rest place) found free fits moves =
    let word = m.memory (address_of m.layout t a.actor.head d) in
    actor_apart (world_of (machine_by m t a exit (Does d rest place))) (world_of m) t a
    (step_actor m.layout t a d rest (place word) word) found refl (λ e. elim moves [
      | inl elsewhere ↦
          leads_free (λ next. next ≢ a.place) a.place d word (place word)
          (finds_free m.memory m.layout t a.actor.head d rest place free) (elsewhere word)
          (ap (λ (c : StepActor). c.place) e)
      | inr is ↦
          agenda_moves m.layout t (is_running a.actor.status) a.actor.head (new_head a.actor.head d word) d rest word
          (finds_marks d rest fits.doing) (ap (λ (c : StepActor). c.actor.agenda) e ∙ is)
    ])

-- The machine after an event of the thread.
abbrev pub after : StepMachine → ℕ → Choice → Option StepActor → StepMachine
after m t choice o = of_thread m (λ a. machine_by m t a (exit_of choice)
    (action_of m.functions m.states m.layout t a choice)) o

abbrev BothMove : World → ℕ → Type 0
BothMove w t = (step w t Ok ≢ w) × (step w t Fault ≢ w)

machine_moves : (p : Module) (n : ℕ) (m : StepMachine) (t : ℕ) (a : StepActor) → CodeInvariant p n m → IsModule p
    → TurnsHold p m → slice_get m.actors t ≡ Some a
    → (a.actor.status ≡ Gone → ⊥) → waits_for_lock (world_of m) t a ≡ false → BothMove (world_of m) t
machine_moves p n m t a whole is_module turns found alive free =
    let fits = code_here p m (number_in a.function a.place) is_module turns in
    let all = turns.counts t a found in
    let acting : (exit : Exit)
    → world_of (machine_by m t a exit (action_of m.functions m.states m.layout t a Ok)) ≢ world_of m =
    λ exit. action_moves whole.accounts n m t a exit (action_of m.functions m.states m.layout t a Ok) found free
    (action_fits p n m t a Ok whole found) (status_moves_on m.functions m.layout t a a.actor.status alive fits all) in
    let by_ok : world_of (next_machine m (t, Ok)) ≢ world_of m =
    subst (λ (o : Option StepActor). world_of (after m t Ok o) ≢ world_of m) (sym found) (acting (exit_of Ok)) in
    let by_fault : world_of (next_machine m (t, Fault)) ≢ world_of m =
    subst (λ (o : Option StepActor). world_of (after m t Fault o) ≢ world_of m) (sym found) (acting (exit_of Fault)) in
    (λ e. by_ok (worlds_follow m (t, Ok) ∙ e), λ e. by_fault (worlds_follow m (t, Fault) ∙ e))

-- The machine of a reachable world has both layers of the invariant.
pub reached_code : (p : Module) (w : World) → (here : IsReachable p w)
    → CodeInvariant p (1 + length here.calls)
    (machine_after (first_machine p here.states here.rows here.calls) here.events)
reached_code p w here =
    code_invariant_after p (1 + length here.calls) (first_machine p here.states here.rows here.calls) here.events
    (first_code_invariant p here.states here.rows here.calls here.fits here.accepted here.states_true here.calls_fit
    here.some_rows here.most_rows)

reached_turns : (p : Module) (w : World) → (here : IsReachable p w)
    → TurnsHold p (machine_after (first_machine p here.states here.rows here.calls) here.events)
reached_turns p w here =
    turns_after p (first_machine p here.states here.rows here.calls) here.events here.fits
    (first_turns p here.states here.rows here.calls)

pub reached_found : (p : Module) (w : World) (t : ℕ) (a : StepActor) → (here : IsReachable p w)
    → slice_get w.actors t ≡ Some a
    → slice_get (machine_after (first_machine p here.states here.rows here.calls) here.events).actors t ≡ Some a
reached_found p w t a here found = ap (λ (v : World). slice_get v.actors t) (sym here.reached) ∙ found

pub going_on_moves : (p : Module) (w : World) (t : ℕ) (a : StepActor) → IsReachable p w → slice_get w.actors t ≡ Some a
    → a.actor.status ≢ Gone → waits_for_lock w t a ≡ false → (step w t Ok ≢ w) × (step w t Fault ≢ w)
going_on_moves p w t a here found alive free =
    subst (λ (v : World). BothMove v t) (sym here.reached)
    (machine_moves p (1 + length here.calls)
    (machine_after (first_machine p here.states here.rows here.calls) here.events) t a
    (reached_code p w here) here.fits (reached_turns p w here) (reached_found p w t a here found) alive
    (subst (λ (v : World). waits_for_lock v t a ≡ false) here.reached free))

-- ---- claims

-- The action of a claim.
abbrev claimed : ℕ → StepActor → Bool → Action
claimed row a may = cond may (Does (ClaimMark row) [] (always a.place)) Skip

claim_is : (w : World) (t : ℕ) (a : StepActor) (row : ℕ) (may : Bool) → slice_get w.actors t ≡ Some a
    → may_claim w.layout t a row ≡ may
    → step w t (Claim row) ≡ world_of (machine_by (machine_of w) t a Success (claimed row a may))
claim_is w t a row may found is =
    ap (λ (o : Option StepActor). world_of (after (machine_of w) t (Claim row) o)) found
    ∙ ap (λ (b : Bool). world_of (machine_by (machine_of w) t a Success (claimed row a b))) is

pub claim_moves : (w : World) (t : ℕ) (a : StepActor) (row : ℕ) → slice_get w.actors t ≡ Some a
    → may_claim w.layout t a row ≡ true → mark_of w.layout w.memory row ≢ UNSET → step w t (Claim row) ≢ w
claim_moves w t a row found may marked e =
    let done : world_of (does_by (machine_of w) t a Success (ClaimMark row) [] (always a.place)) ≡ w =
    sym (claim_is w t a row true found may) ∙ e in
    marked (sym (ap (λ (v : World). mark_of w.layout v.memory row) done) ∙ taken_mark w.layout w.memory row)

-- Taking a mark that isn't set leaves memory unchanged.
unmarked_stays : (layout : Layout) (memory : Address → ℕ) (row : ℕ) → mark_of layout memory row ≡ UNSET
    → written memory (mark_place layout row)
    (unmarked_word (memory (mark_place layout row)) (mark_bit layout row)) ≡ memory
unmarked_stays layout memory row none =
    fun_ext (λ (b : Address). ap (λ (word : ℕ). written memory (mark_place layout row) word b)
    (none_taken (memory (mark_place layout row)) (mark_bit layout row) none)
    ∙ written_load memory (mark_place layout row) b)

none_claimed : (head row found : ℕ) → head ≡ 0 → found ≡ 0
    → ready head ((cond (found == 1) (MergeSwap row Handed ∷ []) [] ++ Settle ∷ []) ++ []) ≡ []
none_claimed head row found empty none =
    ap (λ (word : ℕ). ready head ((cond (word == 1) (MergeSwap row Handed ∷ []) [] ++ Settle ∷ []) ++ [])) none
    ∙ ap (λ (h : ℕ). ready h (Settle ∷ [])) empty

miss_stays : (w : World) (t : ℕ) (a : StepActor) (row : ℕ) → slice_get w.actors t ≡ Some a → a.actor.agenda ≡ []
    → a.actor.head ≡ 0 → mark_of w.layout w.memory row ≡ UNSET
    → world_of (does_by (machine_of w) t a Success (ClaimMark row) [] (always a.place)) ≡ w
miss_stays w t a row found rest empty none =
    let agenda = none_claimed a.actor.head row (mark_of w.layout w.memory row) empty none ∙ sym rest in
    let word = w.memory (mark_place w.layout row) in
    let same : step_actor w.layout t a (ClaimMark row) [] a.place word ≡ a =
    λ i. record a { actor = record (a.actor) { agenda = agenda i } } in
    let actors : slice_set w.actors t
    (step_actor w.layout t a (ClaimMark row) [] a.place word) ≡ w.actors =
    ap (slice_set w.actors t) same ∙ set_found w.actors t a found in
    let memory = unmarked_stays w.layout w.memory row none in
    λ i. record w { memory = memory i; actors = actors i }

pub claim_misses : (p : Module) (w : World) (t : ℕ) (a : StepActor) (row : ℕ) → IsReachable p w
    → slice_get w.actors t ≡ Some a → may_claim w.layout t a row ≡ true → mark_of w.layout w.memory row ≡ UNSET
    → step w t (Claim row) ≡ w
claim_misses p w t a row here found may none =
    let rest = (claimer w.layout t a row may).agenda in
    let there = reached_found p w t a here found in
    claim_is w t a row true found may
    ∙ miss_stays w t a row found rest (chain_empty p here.states here.rows here.calls here.events t
    (claimer w.layout t a row may).left a here.fits there
    rest (claimer w.layout t a row may).idle) none

pub claim_stays : (w : World) (t : ℕ) (a : StepActor) (row : ℕ) → slice_get w.actors t ≡ Some a
    → may_claim w.layout t a row ≡ false → step w t (Claim row) ≡ w
claim_stays w t a row found may = claim_is w t a row false found may

-- ---- stops

-- The action of a stop.
abbrev stopped : World → StepActor → Bool → Action
stopped w a may = cond may (stop_action w.functions w.states a.function a.place) Skip

stop_is : (w : World) (t : ℕ) (a : StepActor) (may : Bool) → slice_get w.actors t ≡ Some a → may_stop a ≡ may
    → step w t Stop ≡ world_of (machine_by (machine_of w) t a Success (stopped w a may))
stop_is w t a may found is =
    ap (λ (o : Option StepActor). world_of (after (machine_of w) t Stop o)) found
    ∙ ap (λ (b : Bool). world_of (machine_by (machine_of w) t a Success (stopped w a b))) is

-- A stop that acts leads the thread to another place.
stop_elsewhere : (functions : List Function) (states : ℕ → ℕ → Option State) (first : ℕ) (place : Place)
    → is_before_instruction place ≡ true → IsElsewhere place (stop_action functions states first place)
stop_elsewhere functions states first (Idle (suc left)) before = λ e. cc
stop_elsewhere functions states first (InCall context at variables) before =
    let outer = given_up functions states first context.outer in
    elim (states (number_under first context.outer) at) as
    (λ o. IsElsewhere (InCall context at variables) (stop_in_call outer variables o)) [
      | None ↦ tt
      | Some s ↦
          stopping_decides (λ (next : Place). next ≢ InCall context at variables) (row_locked s.locked variables)
          (owned_rows s.slots variables ∷ outer) (λ e. cc) (λ e. cc)
    ]
stop_elsewhere functions states first _ before = cc

-- A thread that stops takes no lock.
stop_free : (memory : Address → ℕ) (functions : List Function) (states : ℕ → ℕ → Option State) (first : ℕ)
    (place : Place) → finds_locked memory (stop_action functions states first place) ≡ false
stop_free memory functions states first place =
    stop_decides (λ (x : Action). finds_locked memory x ≡ false) functions states first place refl refl
    (λ lock calls. refl) refl

pub world_stops : (m : StepMachine) (t : ℕ) (a : StepActor) → slice_get m.actors t ≡ Some a → may_stop a ≡ true
    → step (world_of m) t Stop ≡ world_of (machine_by m t a Success (stop_action m.functions m.states a.function
    a.place))
world_stops m t a found may =
    sym (worlds_follow m (t, Stop)) ∙ ap (λ (o : Option StepActor). world_of (after m t Stop o)) found
    ∙ ap (λ (b : Bool). world_of (machine_by m t a Success (stopped (world_of m) a b))) may

stop_moves_in : (p : Module) (n : ℕ) (m : StepMachine) (t : ℕ) (a : StepActor) → CodeInvariant p n m
    → slice_get m.actors t ≡ Some a → may_stop a ≡ true → step (world_of m) t Stop ≢ world_of m
stop_moves_in p n m t a whole found may e =
    let x = stop_action m.functions m.states a.function a.place in
    let fits = subst (λ (b : Bool). ActionFits whole.accounts n m t a (cond b x Skip)) may
    (action_fits p n m t a Stop whole found) in
    action_moves whole.accounts n m t a Success x found (stop_free m.memory m.functions m.states a.function a.place)
    fits
    (elsewhere_moves a x (stop_elsewhere m.functions m.states a.function a.place (stopper a may).before))
    (sym (world_stops m t a found may) ∙ e)

pub stop_moves : (p : Module) (w : World) (t : ℕ) (a : StepActor) → IsReachable p w → slice_get w.actors t ≡ Some a
    → may_stop a ≡ true → step w t Stop ≢ w
stop_moves p w t a here found may =
    subst (λ (v : World). step v t Stop ≢ v) (sym here.reached)
    (stop_moves_in p (1 + length here.calls)
    (machine_after (first_machine p here.states here.rows here.calls) here.events) t a
    (reached_code p w here) (reached_found p w t a here found) may)

pub stop_stays : (w : World) (t : ℕ) (a : StepActor) → slice_get w.actors t ≡ Some a → may_stop a ≡ false
    → step w t Stop ≡ w
stop_stays w t a found may = stop_is w t a false found may

-- ---- a thread that is gone

pub gone_stays : (w : World) (t : ℕ) (a : StepActor) (row : ℕ) → slice_get w.actors t ≡ Some a → a.actor.status ≡ Gone
    → (step w t Ok ≡ w) × (step w t Fault ≡ w) × (step w t (Claim row) ≡ w) × (step w t Stop ≡ w)
gone_stays w t a row found gone =
    let still : (exit : Exit)
    → world_of (machine_by (machine_of w) t a exit (action_of w.functions w.states w.layout t a Ok)) ≡ w =
    λ exit. ap (λ (s : Status). world_of (machine_by (machine_of w) t a exit
    (status_action w.functions w.layout t a s))) gone in (
      ap (λ (o : Option StepActor). world_of (after (machine_of w) t Ok o)) found ∙ still (exit_of Ok),
      ap (λ (o : Option StepActor). world_of (after (machine_of w) t Fault o)) found ∙ still (exit_of Fault),
      claim_stays w t a row found (gone_claims_none w.layout t a row gone),
      stop_stays w t a found (gone_stops_not a gone),
    )
