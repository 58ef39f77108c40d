-- Each thread that awaits a birth has room for it, in the first machine and after each event.
use Rattle.std.proofs.Common.{◌≡◌, ℕ, zero, suc, true, List, [], Option, None, Some, ap, subst}
use Rattle.std.specs.Prelude.{slice_get}
use Rattle.brc_lang.specs.declared.module.Module.{Module}
use Rattle.brc_model.specs.declared.state.State.{State}
use Rattle.brc_model.specs.declared.state.Exit.{Exit}
use Rattle.brc_model.specs.declared.thread.Call.{Call}
use Rattle.brc_model.specs.declared.thread.Choice.{Choice}
use Rattle.brc_model.specs.declared.duty.Duty.{Duty}
use Rattle.brc_model.specs.declared.duty.Duty.TheVariants.{LendField, ReturnField}
use Rattle.brc_model.specs.declared.layout.Layout.{Layout}
use Rattle.brc_model.specs.declared.actor.Actor.{Actor}
use Rattle.brc_model.specs.Machine.{is_lending, has_room, actor_by}
use Rattle.brc_model.specs.Duties.{ready}
use Rattle.brc_model.specs.Actions.{StepActor, Action, Skip, Stuck, Silent, Calls, Does}
use Rattle.brc_model.specs.Dispatch.{exit_of, action_of}
use Rattle.brc_model.specs.StepMachine.{StepMachine, counting, of_thread, at_place, step_actor, machine_by, first_machine, main_actor, worker_actor}
use Rattle.brc_model.proofs.Basics.Lists.{some_is, slice_get-map, written_actor}
use Rattle.brc_model.proofs.Stepping.FitsAfter.{found_by}
use Rattle.brc_model.proofs.Dispatch.Rooms.{HasRoom, RoomFits, RoomsFit, FollowsRoom, action_room}
use Rattle.brc_model.proofs.Dispatch.Actions.{ActionFits, action_fits}
use Rattle.brc_model.proofs.Keeping.CodeInvariant.{CodeInvariant}
use Rattle.brc_model.specs.Accounts.{Accounts}
use Rattle.brc_model.proofs.Dispatch.Programs.{program_of}

-- ---- the first machine

pub first_rooms : (p : Module) (states : ℕ → ℕ → Option State) (rows : ℕ) (calls : List Call)
    → RoomsFit (first_machine p states rows calls)
first_rooms p states rows calls zero a is =
    let m = first_machine p states rows calls in
    subst (RoomFits m 0) (some_is (main_actor m.layout) a is) (λ e. absurd cc)
first_rooms p states rows calls (suc t) a is =
    let call = slice_get-map worker_actor calls t a is in
    subst (RoomFits (first_machine p states rows calls) (suc t)) call.is_image (λ e. absurd cc)

-- ---- each event

-- A duty that lends a resource or returns it leaves the thread its room, and nothing else to do.
lent_room : (layout : Layout) (t : ℕ) (a : Actor) (d : Duty) (rest : List Duty) (found : ℕ) → is_lending d ≡ true
    → rest ≡ [] → has_room layout t a.used ≡ true → HasRoom layout t (actor_by layout t a d rest found)
lent_room layout t a (LendField x) rest found lending none room =
    record { agenda = ap (ready a.head) none; room = room }
lent_room layout t a (ReturnField x) rest found lending none room =
    record { agenda = ap (ready a.head) none; room = room }
lent_room layout t a _ rest found lending none room = absurd cc

-- The thread is at the place that its action leads to, and the others are where they were.
acted : (c : Accounts) (n : ℕ) (m : StepMachine) (t : ℕ) (a : StepActor) (exit : Exit) (x : Action)
    → slice_get m.actors t ≡ Some a → ActionFits c n m t a x → RoomsFit m
    → FollowsRoom (program_of m.functions m.states a) (has_room m.layout t a.actor.used) x
    → RoomsFit (machine_by m t a exit x)
acted c n m t a exit Skip found fits rooms follows = rooms
acted c n m t a exit Stuck found fits rooms follows = rooms
acted c n m t a exit (Silent moves place) found fits rooms follows =
    written_actor (RoomFits m) m.actors t a (at_place a place) found
    (λ awaits. record { agenda = fits.at.agenda; room = follows awaits }) rooms
acted c n m t a exit (Calls row place) found fits rooms follows =
    written_actor (RoomFits m) m.actors t a (at_place a (place exit)) found
    (λ awaits. record { agenda = (fits.silent exit).at.agenda; room = follows exit awaits }) rooms
acted c n m t a exit (Does d rest place) found fits rooms follows =
    let word = found_by (counting m) t a.actor d in
    written_actor (RoomFits m) m.actors t a (step_actor m.layout t a d rest (place word) word) found
    (λ awaits. let so = follows word awaits in lent_room m.layout t a.actor d rest word so.0 so.1 so.2) rooms

-- The rooms are there after each event, whatever thread and choice it has.
pub thread_rooms : (p : Module) (n : ℕ) (m : StepMachine) (t : ℕ) (choice : Choice) (o : Option StepActor)
    → CodeInvariant p n m → slice_get m.actors t ≡ o
    → RoomsFit (of_thread m
    (λ a. machine_by m t a (exit_of choice) (action_of m.functions m.states m.layout t a choice)) o)
thread_rooms p n m t choice None whole found = whole.rooms
thread_rooms p n m t choice (Some a) whole found =
    acted whole.accounts n m t a (exit_of choice) (action_of m.functions m.states m.layout t a choice) found
    (action_fits p n m t a choice whole found) whole.rooms
    (action_room m.functions m.states m.layout t a (whole.rooms t a found) choice)
