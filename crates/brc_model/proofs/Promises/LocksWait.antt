-- A thread that waits for a lock takes a step that changes nothing: it stores the gate's word as it found it, and is
-- still at the instruction.
use Rattle.brc_model.specs.declared.state.Exit.TheVariants.{Success, Fault as FaultExit}
use Rattle.std.proofs.Common.{◌≡◌, ℕ, zero, suc, ◌+◌, Bool, true, false, cond, List, [], ◌∷◌, Option, None, Some, refl, sym, ap, ◌∙◌, arith}
use Rattle.std.specs.Prelude.{◌==◌, is_some, not, slice_get, slice_set, sum_by}
use Rattle.std.specs.List.{list_all}
use Rattle.std.proofs.Math.Path.{fun_ext}
use Rattle.std.proofs.lemmas.List.Sums.{sum_by-cons}
use Rattle.brc_lang.specs.declared.module.Instr.{Instr}
use Rattle.brc_lang.specs.declared.module.Instr.TheVariants.{Num, List as ListObject, NoneObject, Take, Newref, Move as MoveReference, Drop, Lock, Unlock, Borrow, Fetch, Set, Put, Goto, Again, Ret, Fail, As, Open, Connect, Read, Write, Call}
use Rattle.brc_lang.specs.declared.module.Module.{Module}
use Rattle.brc_lang.specs.declared.module.Function.{Function}
use Rattle.brc_word.specs.Words.{free_word, locked_word}
use Rattle.brc_model.specs.declared.thread.Choice.TheVariants.{Ok, Fault}
use Rattle.brc_model.specs.declared.duty.Duty.{Duty}
use Rattle.brc_model.specs.declared.duty.Duty.TheVariants.{LockGate}
use Rattle.brc_model.specs.declared.address.Address.{Address}
use Rattle.brc_model.specs.declared.address.Address.TheVariants.{Gate}
use Rattle.brc_model.specs.declared.actor.Status.{Status}
use Rattle.brc_model.specs.declared.actor.Status.TheVariants.{Running, Leaving, Gone}
use Rattle.brc_model.specs.declared.actor.Place.{Place}
use Rattle.brc_model.specs.declared.actor.Context.{Context}
use Rattle.brc_model.specs.declared.actor.Place.TheVariants.{Idle, InCall, Inside, Stopping, Exiting}
use Rattle.brc_model.specs.declared.actor.Stage.{Stage}
use Rattle.brc_model.specs.declared.actor.Stage.TheVariants.{InRange, OutOfRange, Found, Retained, Loaded, Lent, Called, Granted}
use Rattle.brc_model.specs.declared.layout.Layout.{Layout}
use Rattle.brc_model.specs.Threads.{row_of, entry_variables, function_in}
use Rattle.brc_model.specs.Duties.{ready}
use Rattle.brc_model.specs.Machine.{has_room, written}
use Rattle.brc_model.specs.declared.state.Exit.{Exit}
use Rattle.brc_model.specs.Actions.{StepActor, Action, Does, with_row, dispatch_instruction, dispatch_inside, first_context, ret_action, fail_action, argument_rows}
use Rattle.brc_model.specs.Dispatch.{dispatch, agenda_action, status_action, exit_of, action_of}
use Rattle.brc_model.specs.StepMachine.{step_actor, machine_by}
use Rattle.brc_model.specs.World.{World, world_of, machine_of, step, finds_locked, waits_for_lock, IsReachable}
use Rattle.brc_model.proofs.Basics.Lists.{either, set_found}
use Rattle.brc_model.proofs.Basics.Written.{written_load}
use Rattle.brc_model.proofs.Dispatch.AtOnce.{at_once}
use Rattle.brc_model.proofs.Promises.StepsMove.{after, reached_code, reached_found}
use Rattle.brc_model.proofs.Dispatch.Decided.{give_up_decides}
use Rattle.brc_model.specs.declared.actor.OpenCall.{OpenCall}

-- ---- where a thread waits

-- No duties come after the one that locks, and a thread that finds the gate taken is still at the place.
record IsTried (place : Place) (rest : List Duty) (next : ℕ → Place) : Type 0 where
  alone : rest ≡ []
  stays : (found : ℕ) → (found == free_word) ≡ false → next found ≡ place

-- If the action locks an object, it leaves a thread at the place that has to wait.
abbrev WaitsAt : Place → Action → Type 0
WaitsAt place (Does (LockGate x) rest next) = IsTried place rest next
WaitsAt place _ = Unit {0}

row_waits : (place : Place) (o : Option ℕ) (work : ℕ → Action) → ((row : ℕ) → WaitsAt place (work row))
    → WaitsAt place (with_row o work)
row_waits place None work each = tt
row_waits place (Some row) work each = each row

ret_waits : (place : Place) (t left from row : ℕ) (outer : List OpenCall)
    → WaitsAt place (ret_action t left from row outer)
ret_waits place t left from row [] = tt
ret_waits place t left from row (o ∷ outer) = tt

fail_waits : (place : Place) (left : ℕ) (outer : List OpenCall) → WaitsAt place (fail_action left outer)
fail_waits place left [] = tt
fail_waits place left (o ∷ outer) = tt

instruction_waits : (layout : Layout) (t used : ℕ) (place : Place) (context : Context) (at : ℕ)
    (variables : List (Option ℕ))
    (i : Option Instr) → WaitsAt place (dispatch_instruction layout t used place context at variables i)
instruction_waits layout t used place context at variables None = tt
instruction_waits layout t used place context at variables (Some (Num to value otherwise)) =
    either (WaitsAt place) (has_room layout t used) _ _ (λ room. tt) tt
instruction_waits layout t used place context at variables (Some (ListObject to cells otherwise)) =
    either (WaitsAt place) (has_room layout t used) _ _ (λ room. tt) tt
instruction_waits layout t used place context at variables (Some (NoneObject to)) = tt
instruction_waits layout t used place context at variables (Some (Take to list)) = tt
instruction_waits layout t used place context at variables (Some (Newref to from)) =
    row_waits place (row_of variables from) _ (λ row. tt)
instruction_waits layout t used place context at variables (Some (MoveReference to from)) =
    row_waits place (row_of variables from) _ (λ row. tt)
instruction_waits layout t used place context at variables (Some (Drop from)) =
    row_waits place (row_of variables from) _ (λ row. tt)
instruction_waits layout t used place context at variables (Some (Lock object)) =
    row_waits place (row_of variables object) _
    (λ row. record {
      alone = refl;
      stays = λ found taken. ap (λ (b : Bool). cond b (InCall context (at + 1) variables) place) taken;
    })
instruction_waits layout t used place context at variables (Some (Unlock object)) =
    row_waits place (row_of variables object) _ (λ row. tt)
instruction_waits layout t used place context at variables (Some (Borrow to list index otherwise)) =
    row_waits place (row_of variables list) _ (λ row. tt)
instruction_waits layout t used place context at variables (Some (Fetch to list index otherwise)) =
    row_waits place (row_of variables list) _ (λ row. tt)
instruction_waits layout t used place context at variables (Some (Set list index from otherwise)) =
    row_waits place (row_of variables list) _ (λ row. tt)
instruction_waits layout t used place context at variables (Some (Put list index from otherwise)) =
    row_waits place (row_of variables list) _ (λ row. tt)
instruction_waits layout t used place context at variables (Some (Open to path mode otherwise)) =
    either (WaitsAt place) (has_room layout t used) _ _ (λ room. tt) tt
instruction_waits layout t used place context at variables (Some (Connect to peer otherwise)) =
    either (WaitsAt place) (has_room layout t used) _ _ (λ room. tt) tt
instruction_waits layout t used place context at variables (Some (Read to file most otherwise)) =
    either (WaitsAt place) (has_room layout t used) _ _
    (λ room. row_waits place (row_of variables file) _ (λ row. tt)) tt
instruction_waits layout t used place context at variables (Some (Write file number otherwise)) =
    row_waits place (row_of variables number) _ (λ row. tt)
instruction_waits layout t used place context at variables (Some (As from kind otherwise)) =
    row_waits place (row_of variables from) _ (λ row. tt)
instruction_waits layout t used place context at variables (Some (Goto to)) = tt
instruction_waits layout t used place context at variables (Some (Again to times)) = tt
instruction_waits layout t used place context at variables (Some (Call to callee arguments otherwise)) =
    either (WaitsAt place) (list_all is_some (argument_rows variables arguments)) _ _ (λ named. tt) tt
instruction_waits layout t used place context at variables (Some (Ret from)) =
    row_waits place (row_of variables from) _ (λ row. ret_waits place t context.left from row context.outer)
instruction_waits layout t used place context at variables (Some Fail) =
    fail_waits place context.left context.outer

inside_waits : (place : Place) (layout : Layout) (t used : ℕ) (context : Context) (at : ℕ)
    (variables : List (Option ℕ)) (stage : Stage)
    (i : Option Instr)
    → WaitsAt place (dispatch_inside layout t used context at variables stage i)
inside_waits place layout t used context at variables InRange (Some (Borrow to list index otherwise)) =
    row_waits place (row_of variables list) _ (λ row. tt)
inside_waits place layout t used context at variables InRange (Some (Fetch to list index otherwise)) =
    row_waits place (row_of variables list) _ (λ row. tt)
inside_waits place layout t used context at variables (Found item) (Some (Fetch to list index otherwise)) = tt
inside_waits place layout t used context at variables InRange (Some (Set list index from otherwise)) =
    row_waits place (row_of variables list) _ (λ row. row_waits place (row_of variables from) _ (λ item. tt))
inside_waits place layout t used context at variables OutOfRange (Some (Set list index from otherwise)) =
    row_waits place (row_of variables from) _ (λ item. tt)
inside_waits place layout t used context at variables InRange (Some (Put list index from otherwise)) =
    row_waits place (row_of variables from) _ (λ item. tt)
inside_waits place layout t used context at variables Retained (Some (Put list index from otherwise)) =
    row_waits place (row_of variables list) _ (λ row. row_waits place (row_of variables from) _ (λ item. tt))
inside_waits place layout t used context at variables Granted (Some (Open to path mode otherwise)) = tt
inside_waits place layout t used context at variables Granted (Some (Connect to peer otherwise)) = tt
inside_waits place layout t used context at variables Lent (Some (Read to file most otherwise)) = tt
inside_waits place layout t used context at variables (Called Success) (Some (Read to file most otherwise)) =
    row_waits place (row_of variables file) _ (λ row. tt)
inside_waits place layout t used context at variables (Called FaultExit) (Some (Read to file most otherwise)) =
    row_waits place (row_of variables file) _ (λ row. tt)
inside_waits place layout t used context at variables Granted (Some (Read to file most otherwise)) = tt
inside_waits place layout t used context at variables Loaded (Some (Write file number otherwise)) =
    row_waits place (row_of variables file) _ (λ row. tt)
inside_waits place layout t used context at variables Lent (Some (Write file number otherwise)) = tt
inside_waits place layout t used context at variables (Called Success) (Some (Write file number otherwise)) =
    row_waits place (row_of variables file) _ (λ row. tt)
inside_waits place layout t used context at variables (Called FaultExit) (Some (Write file number otherwise)) =
    row_waits place (row_of variables file) _ (λ row. tt)
inside_waits place layout t used context at variables stage i = tt

dispatch_waits : (layout : Layout) (t used : ℕ) (code : List Instr) (place : Place)
    → WaitsAt place (dispatch layout t used code place)
dispatch_waits layout t used code Exiting = tt
dispatch_waits layout t used code (Stopping (Some row) calls) = tt
dispatch_waits layout t used code (Stopping None calls) =
    give_up_decides (WaitsAt (Stopping None calls)) tt (λ row depth v after. tt) calls
dispatch_waits layout t used code (Idle zero) = tt
dispatch_waits layout t used code (Idle (suc left)) =
    instruction_waits layout t used (Idle (suc left)) (first_context left) 0 entry_variables (slice_get code 0)
dispatch_waits layout t used code (InCall context at variables) =
    instruction_waits layout t used (InCall context at variables) context at variables (slice_get code at)
dispatch_waits layout t used code (Inside context at variables stage) =
    inside_waits (Inside context at variables stage) layout t used context at variables stage (slice_get code at)

-- A thread waits with an empty agenda.
abbrev WaitsIdly : StepActor → Action → Type 0
WaitsIdly a (Does (LockGate x) rest next) = (a.actor.agenda ≡ []) × IsTried a.place rest next
WaitsIdly a _ = Unit {0}

with_none : (a : StepActor) (x : Action) → a.actor.agenda ≡ [] → WaitsAt a.place x → WaitsIdly a x
with_none a (Does (LockGate x) rest next) none waits = (none, waits)
with_none a _ none waits = tt

agenda_waits : (functions : List Function) (layout : Layout) (t : ℕ) (a : StepActor) (agenda : List Duty)
    → a.actor.agenda ≡ agenda → sum_by at_once agenda ≡ 0 → WaitsIdly a (agenda_action functions layout t a agenda)
agenda_waits functions layout t a [] is plain =
    with_none a (agenda_action functions layout t a []) is
    (dispatch_waits layout t a.actor.used (function_in functions a.function a.place).code a.place)
agenda_waits functions layout t a (LockGate x ∷ rest) is plain =
    absurd (omega (arith, plain, sum_by-cons at_once (LockGate x) rest))
agenda_waits functions layout t a (d ∷ rest) is plain = tt

status_waits : (functions : List Function) (layout : Layout) (t : ℕ) (a : StepActor) (status : Status)
    → sum_by at_once a.actor.agenda ≡ 0 → WaitsIdly a (status_action functions layout t a status)
status_waits functions layout t a Gone plain = tt
status_waits functions layout t a Running plain = agenda_waits functions layout t a a.actor.agenda refl plain
status_waits functions layout t a Leaving plain = agenda_waits functions layout t a a.actor.agenda refl plain

-- ---- its step

not_true : (b : Bool) → not b ≡ true → b ≡ false
not_true true e = absurd cc
not_true false e = refl

-- The step of a thread that finds the gate taken changes nothing.
tried_stays : (w : World) (t : ℕ) (a : StepActor) (exit : Exit) (x : Action) → slice_get w.actors t ≡ Some a
    → WaitsIdly a x
    → finds_locked w.memory x ≡ true → world_of (machine_by (machine_of w) t a exit x) ≡ w
tried_stays w t a exit (Does (LockGate y) rest place) found waits locked =
    let word = w.memory (Gate y) in
    let taken : (word == free_word) ≡ false = not_true (word == free_word) locked in
    let agenda : ready a.actor.head rest ≡ a.actor.agenda = ap (ready a.actor.head) waits.1.alone ∙ sym waits.0 in
    let there : place word ≡ a.place = waits.1.stays word taken in
    let lock : cond (word == free_word) (Some y) a.actor.locked ≡ a.actor.locked =
    ap (λ (b : Bool). cond b (Some y) a.actor.locked) taken in
    let same : step_actor w.layout t a (LockGate y) rest (place word) word ≡ a =
    λ i. record a { place = there i; actor = record (a.actor) { agenda = agenda i; locked = lock i } } in
    let actors : slice_set w.actors t (step_actor w.layout t a (LockGate y) rest (place word) word) ≡ w.actors =
    ap (slice_set w.actors t) same ∙ set_found w.actors t a found in
    let memory : written w.memory (Gate y) (cond (word == free_word) (locked_word t) word) ≡ w.memory =
    fun_ext (λ (b : Address). ap (λ (c : Bool). written w.memory (Gate y) (cond c (locked_word t) word) b) taken
    ∙ written_load w.memory (Gate y) b) in
    λ i. record w { memory = memory i; actors = actors i }
tried_stays w t a exit _ found waits locked = absurd cc

pub waiting_stays : (p : Module) (w : World) (t : ℕ) (a : StepActor) → IsReachable p w
    → slice_get w.actors t ≡ Some a → waits_for_lock w t a ≡ true → (step w t Ok ≡ w) × (step w t Fault ≡ w)
waiting_stays p w t a here found locked =
    let plain = ((reached_code p w here).coded t a (reached_found p w t a here found)).plain in
    let still : (exit : Exit)
    → world_of (machine_by (machine_of w) t a exit (action_of w.functions w.states w.layout t a Ok)) ≡ w =
    λ exit. tried_stays w t a exit (action_of w.functions w.states w.layout t a Ok) found
    (status_waits w.functions w.layout t a a.actor.status plain) locked in (
      ap (λ (o : Option StepActor). world_of (after (machine_of w) t Ok o)) found ∙ still (exit_of Ok),
      ap (λ (o : Option StepActor). world_of (after (machine_of w) t Fault o)) found ∙ still (exit_of Fault),
    )
