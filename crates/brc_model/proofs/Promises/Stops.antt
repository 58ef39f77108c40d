-- Where a thread stops in a call, it has to unlock what it has locked, and to give up just what its variables own.
-- Where it stops between two calls, it has nothing to give up.
use Rattle.std.proofs.Common.{◌≡◌, ℕ, suc, true, List, [], ◌∷◌, length, Option, Some, sym, ap, ◌∙◌, subst, ◌+◌}
use Rattle.std.specs.Prelude.{◌↔◌, slice_get}
use Rattle.std.proofs.lemmas.Option.{slice_get_within}
use Rattle.brc_lang.specs.declared.module.Module.{Module}
use Rattle.brc_model.specs.declared.state.State.{State}
use Rattle.brc_model.specs.declared.actor.Context.{Context}
use Rattle.brc_model.specs.declared.actor.Place.{Place}
use Rattle.brc_model.specs.declared.actor.Place.TheVariants.{Idle, InCall}
use Rattle.brc_model.specs.declared.state.Exit.TheVariants.{Success}
use Rattle.brc_model.specs.declared.thread.Choice.TheVariants.{Stop}
use Rattle.brc_model.specs.Threads.{number_under, row_of}
use Rattle.brc_model.specs.Actions.{StepActor, stop_in_call, stop_action, stopping, owned_rows, row_locked, given_up}
use Rattle.brc_model.specs.Dispatch.{may_stop}
use Rattle.brc_model.specs.StepMachine.{StepMachine, at_place, machine_by, machine_after, first_machine}
use Rattle.brc_model.specs.World.{World, world_of, step, IsReachable}
use Rattle.brc_model.specs.StopLaws.{CallGivesUp, EachGivesUp, GivesUpOwned}
use Rattle.brc_model.proofs.Basics.Lists.{slice_get-set_same}
use Rattle.brc_model.proofs.Dispatch.Coded.{PlaceSays}
use Rattle.brc_model.proofs.Dispatch.Stopped.{stop_lock, owned_exactly}
use Rattle.brc_model.proofs.Keeping.CodeInvariant.{CodeInvariant}
use Rattle.brc_model.proofs.Promises.StepsMove.{world_stops, reached_code, reached_found}
use Rattle.brc_model.proofs.Dispatch.Programs.{number_of, program_of, Program}
use Rattle.brc_model.proofs.Dispatch.Grounded.{number_there, IsWaiting, AreOpen, left_by, waiting_is}
use Rattle.brc_model.proofs.Dispatch.Holds.{activation}
use Rattle.brc_model.specs.declared.actor.OpenCall.{OpenCall}
use Rattle.brc_model.specs.SlotStates.{is_owned, var_of}
use Rattle.brc_model.specs.Stops.{owned_by}

stop_leads : (m : StepMachine) (t at : ℕ) (a : StepActor) (context : Context) (variables : List (Option ℕ)) (s : State)
    → slice_get m.actors t ≡ Some a → may_stop a ≡ true → a.place ≡ InCall context at variables
    → m.states (number_under a.function context.outer) at ≡ Some s → a.actor.locked ≡ row_locked s.locked variables
    → slice_get (step (world_of m) t Stop).actors t
    ≡ Some (at_place a (stopping a.actor.locked
    (owned_rows s.slots variables ∷ given_up m.functions m.states a.function context.outer)))
stop_leads m t at a context variables s found may is known lock =
    let outer = given_up m.functions m.states a.function context.outer in
    let calls = owned_rows s.slots variables ∷ outer in
    let there : Place → List StepActor = λ place.
    (machine_by m t a Success (stop_action m.functions m.states a.function place)).actors in
    ap (λ (w : World). slice_get w.actors t) (world_stops m t a found may)
    ∙ ap (λ (place : Place). slice_get (there place) t) is
    ∙ ap (λ (o : Option State). slice_get (machine_by m t a Success (stop_in_call outer variables o)).actors t) known
    ∙ slice_get-set_same m.actors t (at_place a (stopping (row_locked s.locked variables) calls))
    (slice_get_within m.actors t a found)
    ∙ ap (λ (o : Option ℕ). Some (at_place a (stopping o calls))) (sym lock)

-- Each call that is open gives up what it owns.
call_gives_up : (program : Program) (outer : List OpenCall) (o : OpenCall) → IsWaiting (activation program outer) o
    → CallGivesUp program.functions program.states (number_of program outer) o
call_gives_up program outer o waits =
    let state = left_by o waits.arguments waits.state in
    let known = waiting_is (activation program outer) o waits in
    record {
      state = state;
      is_state = known;
      owned = λ v x.
          subst (λ (w : Option State). (row_of (owned_by w o.variables) v ≡ Some x)
          ↔ ((is_owned (var_of state v) ≡ true) × (row_of o.variables v ≡ Some x))) (sym known)
          (owned_exactly state.slots o.variables v x);
    }

each_gives_up : (program : Program) (outer : List OpenCall) → AreOpen program outer
    → EachGivesUp program.functions program.states program.first outer
each_gives_up program [] opened = tt
each_gives_up program (o ∷ outer) opened =
    (call_gives_up program outer o opened.0, each_gives_up program outer opened.1)

gives_up : (p : Module) (n : ℕ) (m : StepMachine) (t at : ℕ) (a : StepActor) (context : Context)
    (variables : List (Option ℕ)) → CodeInvariant p n m → slice_get m.actors t ≡ Some a → may_stop a ≡ true
    → a.place ≡ InCall context at variables → GivesUpOwned (world_of m) t at a context variables
gives_up p n m t at a context variables whole found may is =
    let program = program_of m.functions m.states a in
    let own = whole.coded t a found in
    let says = subst (λ (place : Place). PlaceSays program place a.actor.locked (whole.accounts t)) is own.says in
    let s = says.0 in
    let known =
    whole.sound.states_true (number_of program context.outer) at s
    (number_there program context.outer says.1.is_call.open_calls)
    (record { exits = says.1.exits; reaches = says.1.arrived }) in
    let lock = stop_lock s variables s.locked a.actor.locked says.2 in
    record {
      state = s;
      is_state = known;
      lock = lock;
      owned = owned_exactly s.slots variables;
      outer = each_gives_up program context.outer says.1.is_call.open_calls;
      leads = stop_leads m t at a context variables s found may is known lock;
    }

pub stops_give_up : (p : Module) (w : World) (t at : ℕ) (a : StepActor) (context : Context)
    (variables : List (Option ℕ)) → IsReachable p w → slice_get w.actors t ≡ Some a → may_stop a ≡ true
    → a.place ≡ InCall context at variables → GivesUpOwned w t at a context variables
stops_give_up p w t at a context variables here found may is =
    subst (λ (v : World). GivesUpOwned v t at a context variables) (sym here.reached)
    (gives_up p (1 + length here.calls)
    (machine_after (first_machine p here.states here.rows here.calls) here.events) t at a context variables
    (reached_code p w here) (reached_found p w t a here found) may is)

-- ---- between two calls

idle_leads : (m : StepMachine) (t left : ℕ) (a : StepActor) → slice_get m.actors t ≡ Some a → may_stop a ≡ true
    → a.place ≡ Idle (suc left) → slice_get (step (world_of m) t Stop).actors t ≡ Some (at_place a (Idle 0))
idle_leads m t left a found may is =
    let there : Place → List StepActor = λ place.
    (machine_by m t a Success (stop_action m.functions m.states a.function place)).actors in
    ap (λ (w : World). slice_get w.actors t) (world_stops m t a found may)
    ∙ ap (λ (place : Place). slice_get (there place) t) is
    ∙ slice_get-set_same m.actors t (at_place a (Idle 0)) (slice_get_within m.actors t a found)

pub stops_between_calls : (p : Module) (w : World) (t left : ℕ) (a : StepActor) → IsReachable p w
    → slice_get w.actors t ≡ Some a → may_stop a ≡ true → a.place ≡ Idle (suc left)
    → slice_get (step w t Stop).actors t ≡ Some (at_place a (Idle 0))
stops_between_calls p w t left a here found may is =
    subst (λ (v : World). slice_get (step v t Stop).actors t ≡ Some (at_place a (Idle 0))) (sym here.reached)
    (idle_leads (machine_after (first_machine p here.states here.rows here.calls) here.events) t left a
    (reached_found p w t a here found) may is)
