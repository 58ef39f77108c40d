-- Each event, by any thread and with any choice, keeps both layers of the invariant and isn't bad.
use Rattle.std.proofs.Common.{◌≡◌, ℕ, false, List, [], ◌∷◌, Option, None, Some, refl, sym, ap, ◌∙◌, subst, not, Bool}
use Rattle.std.specs.Prelude.{◌||◌, slice_get}
use Rattle.brc_lang.specs.declared.module.Module.{Module}
use Rattle.brc_model.specs.declared.duty.Duty.{Duty}
use Rattle.brc_model.specs.declared.actor.Place.{Place}
use Rattle.brc_model.specs.AbstractState.{Move, are_allowed}
use Rattle.brc_model.specs.declared.thread.Choice.{Choice}
use Rattle.brc_model.specs.Machine.{with_actor, with_moves}
use Rattle.brc_model.specs.declared.state.Exit.{Exit}
use Rattle.brc_model.specs.Actions.{StepActor, Action, Skip, Stuck, Silent, Calls, Does}
use Rattle.brc_model.specs.Dispatch.{exit_of, action_of}
use Rattle.brc_model.specs.StepMachine.{StepMachine, counting, of_thread, at_place, step_actor, silent_by, machine_by, next_machine, machine_after}
use Rattle.brc_model.specs.Events.{is_bad_action, chooses_unfit, is_bad_event}
use Rattle.brc_model.proofs.Basics.Lists.{written_actor}
use Rattle.brc_model.proofs.Stepping.FitsAfter.{found_by}
use Rattle.brc_model.proofs.Stepping.UnderWay.{exits_still}
use Rattle.brc_model.proofs.Keeping.Sits.{sitting, taken_up_step}
use Rattle.brc_model.specs.Counting.{with_account}
use Rattle.brc_model.proofs.Keeping.Kept.{duty_kept}
use Rattle.brc_model.specs.Invariant.{AtDuty, Invariant}
use Rattle.brc_model.specs.OpenWork.{IsSettled, exits}
use Rattle.brc_model.proofs.Keeping.CodeInvariant.{CodeInvariant, KeepsOn, coded_set}
use Rattle.brc_model.proofs.Keeping.SilentSteps.{silenced, silent_core, silent_allowed}
use Rattle.brc_model.proofs.Dispatch.Counting.{counting_silent, counting_done, its_found}
use Rattle.brc_model.proofs.Keeping.NotBad.{lent_free}
use Rattle.brc_model.proofs.Dispatch.AtOnce.{plain_after}
use Rattle.brc_model.proofs.Dispatch.Fit.{choice_fit}
use Rattle.brc_model.proofs.Keeping.KindsHold.{thread_holds}
use Rattle.brc_model.proofs.Keeping.ItemsHold.{thread_items}
use Rattle.brc_model.proofs.Keeping.RoomsHold.{thread_rooms}
use Rattle.brc_model.proofs.Dispatch.Rooms.{RoomsFit}
use Rattle.brc_model.proofs.Dispatch.Kinds.{KindsHold}
use Rattle.brc_model.specs.Items.{ItemsAreThere}
use Rattle.brc_model.proofs.Dispatch.Actions.{SilentFits, ActionFits, action_fits}

-- A silent step that fits its thread keeps both layers of the invariant, and its moves are allowed.
silent_keeps : (p : Module) (n : ℕ) (m : StepMachine) (t : ℕ) (a : StepActor) (moves : List Move) (place : Place)
    → (whole : CodeInvariant p n m)
    → slice_get m.actors t ≡ Some a → SilentFits whole.accounts n m t a moves place
    → KindsHold p.statics (silent_by m t a moves place) → ItemsAreThere (silent_by m t a moves place)
    → RoomsFit (silent_by m t a moves place)
    → KeepsOn p n (not (are_allowed m.layout m.abstract moves)) (silent_by m t a moves place)
silent_keeps p n m t a moves place whole found fits kinds items rooms =
    let c = whole.accounts in
    let new = with_account c t fits.account in
    let own = whole.coded t a found in
    let here : Invariant new n (silenced (counting m) t a.actor moves) = record {
      core = silent_core moves fits.account fits.at fits.sits;
      settled =
          λ u b is. written_actor (λ w x. IsSettled x.head x.agenda) (counting m).actors t a.actor
          (sitting a.actor []) fits.at.found tt whole.kept.settled u b is;
    } in
    let same : silenced (counting m) t a.actor moves ≡ counting (silent_by m t a moves place) =
    ap (λ (l : List Duty). with_moves (with_actor (counting m) t (sitting a.actor l)) moves) (sym fits.at.agenda)
    ∙ counting_silent m t a moves place in
    let agenda : exits a.actor.status a.actor.agenda ≡ exits a.actor.status [] =
    ap (exits a.actor.status) fits.at.agenda in (
      ap not (silent_allowed m.layout m.abstract t moves fits.sits.moves_fit),
      record {
        accounts = new;
        kept = subst (Invariant new n) same here;
        functions = whole.functions;
        states_true = whole.states_true;
        sound = whole.sound;
        lines = whole.lines;
        allowed = whole.allowed;
        kinds = kinds;
        items = items;
        rooms = rooms;
        coded =
            coded_set m.functions m.states c m.actors t a (at_place a place) fits.account found (record {
              alone = own.alone;
              plain = own.plain;
              says = fits.says;
              departs = agenda ∙ fits.departs;
              lent = fits.lent;
            }) whole.coded;
      },
    )

-- An action that fits its thread keeps both layers of the invariant and isn't bad.
action_keeps : (p : Module) (n : ℕ) (m : StepMachine) (t : ℕ) (a : StepActor) (exit : Exit) (x : Action)
    → (whole : CodeInvariant p n m)
    → slice_get m.actors t ≡ Some a → ActionFits whole.accounts n m t a x
    → KindsHold p.statics (machine_by m t a exit x)
    → ItemsAreThere (machine_by m t a exit x) → RoomsFit (machine_by m t a exit x)
    → KeepsOn p n (is_bad_action m t a x) (machine_by m t a exit x)
action_keeps p n m t a exit Skip whole found fits kinds items rooms = (refl, whole)
action_keeps p n m t a exit Stuck whole found fits kinds items rooms = absurd fits
action_keeps p n m t a exit (Silent moves place) whole found fits kinds items rooms =
    silent_keeps p n m t a moves place whole found fits kinds items rooms
action_keeps p n m t a exit (Calls row place) whole found fits kinds items rooms =
    let quiet = (silent_keeps p n m t a [] (place exit) whole found (fits.silent exit)
    (record { named = kinds.named; known = kinds.known }) items rooms).1 in (
      lent_free t a.actor row whole.kept.core (its_found m t a found) fits.uses,
      record {
        accounts = quiet.accounts;
        kept = quiet.kept;
        functions = quiet.functions;
        states_true = quiet.states_true;
        sound = quiet.sound;
        lines = quiet.lines;
        allowed = quiet.allowed;
        kinds = kinds;
        items = items;
        rooms = rooms;
        coded = quiet.coded;
      },
    )
action_keeps p n m t a exit (Does d rest place) whole found fits kinds items rooms =
    let c = whole.accounts in
    let new = with_account c t fits.account in
    let now = sitting a.actor (d ∷ rest) in
    let word = found_by (counting m) t a.actor d in
    let own = whole.coded t a found in
    let at : AtDuty new n (with_actor (counting m) t now) t now d rest =
    record { core = fits.doing.kept.core; found = fits.doing.found; agenda = fits.doing.agenda } in
    let done = duty_kept new n (with_actor (counting m) t now) t now d rest fits.doing in (
      done.0,
      record {
        accounts = new;
        kept =
            subst (Invariant new n)
            (taken_up_step (counting m) t a.actor d rest ∙ counting_done m t a exit d rest place) done.1;
        functions = whole.functions;
        states_true = whole.states_true;
        sound = whole.sound;
        lines = whole.lines;
        allowed = whole.allowed;
        kinds = kinds;
        items = items;
        rooms = rooms;
        coded =
            coded_set m.functions m.states c m.actors t a (step_actor m.layout t a d rest (place word) word)
            fits.account found (record {
              alone = own.alone;
              plain = plain_after m.layout t a.actor d rest word fits.plain;
              says = fits.says;
              departs = exits_still word at ∙ fits.departs;
              lent = fits.lent;
            }) whole.coded;
      },
    )

thread_keeps : (p : Module) (n : ℕ) (m : StepMachine) (t : ℕ) (choice : Choice) (o : Option StepActor)
    → CodeInvariant p n m
    → slice_get m.actors t ≡ o
    → KeepsOn p n
    (of_thread false
    (λ a. is_bad_action m t a (action_of m.functions m.states m.layout t a choice) || chooses_unfit m a choice) o)
    (of_thread m (λ a. machine_by m t a (exit_of choice) (action_of m.functions m.states m.layout t a choice)) o)
thread_keeps p n m t choice None whole found = (refl, whole)
thread_keeps p n m t choice (Some a) whole found =
    let kept =
    action_keeps p n m t a (exit_of choice) (action_of m.functions m.states m.layout t a choice) whole found
    (action_fits p n m t a choice whole found) (thread_holds p n m t choice (Some a) whole found)
    (thread_items p n m t choice (Some a) whole found) (thread_rooms p n m t choice (Some a) whole found) in
    (ap (λ (b : Bool). b || chooses_unfit m a choice) kept.0 ∙ choice_fit p n m t a choice whole found, kept.1)

-- No event is bad, and each keeps both layers of the invariant.
pub event_keeps : (p : Module) (n : ℕ) (m : StepMachine) (event : ℕ × Choice) → CodeInvariant p n m
    → KeepsOn p n (is_bad_event m event) (next_machine m event)
event_keeps p n m event whole = thread_keeps p n m event.0 event.1 (slice_get m.actors event.0) whole refl

-- Every list of events keeps both layers of the invariant.
pub code_invariant_after : (p : Module) (n : ℕ) (m : StepMachine) (events : List (ℕ × Choice)) → CodeInvariant p n m
    → CodeInvariant p n (machine_after m events)
code_invariant_after p n m [] whole = whole
code_invariant_after p n m (e ∷ events) whole =
    code_invariant_after p n (next_machine m e) events (event_keeps p n m e whole).1
