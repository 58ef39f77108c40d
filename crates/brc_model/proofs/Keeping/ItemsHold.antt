-- Each borrowed item is in a cell of the list that its thread has locked, in the first machine and after each
-- event: each instruction leaves it so, and no step of another thread changes the locked list.
use Rattle.std.proofs.Common.{◌≡◌, ◌≢◌, ℕ, zero, suc, false, List, ◌∷◌, Option, None, Some, refl, ◌∙◌, subst}
use Rattle.std.specs.Prelude.{slice_get}
use Rattle.brc_lang.specs.declared.module.Module.{Module}
use Rattle.brc_model.specs.declared.thread.Call.{Call}
use Rattle.brc_model.specs.declared.thread.Choice.{Choice}
use Rattle.brc_model.specs.declared.actor.Place.{Place}
use Rattle.brc_model.specs.declared.address.Address.{Address}
use Rattle.brc_model.specs.declared.address.Address.TheVariants.{Cell}
use Rattle.brc_model.specs.declared.duty.Duty.{Duty}
use Rattle.brc_model.specs.declared.duty.Duty.TheVariants.{KindLoad, CellLoad}
use Rattle.brc_model.specs.Accounts.{Accounts}
use Rattle.brc_model.specs.Counting.{with_account}
use Rattle.brc_model.specs.declared.actor.Actor.{Actor}
use Rattle.brc_model.specs.Machine.{Machine, with_actor}
use Rattle.brc_model.specs.declared.state.State.{State}
use Rattle.brc_model.specs.declared.state.Exit.{Exit}
use Rattle.brc_model.specs.Actions.{StepActor, Action, Skip, Stuck, Silent, Calls, Does}
use Rattle.brc_model.specs.Dispatch.{exit_of, action_of}
use Rattle.brc_model.specs.StepMachine.{StepMachine, counting, of_thread, at_place, step_actor, machine_by, first_machine, main_actor, worker_actor}
use Rattle.brc_model.specs.KnownKinds.{kind_words}
use Rattle.brc_model.specs.Items.{ItemsAreThere}
use Rattle.brc_model.proofs.Basics.Lists.{some_is, slice_get-map, slice_get-set_other, written_others}
use Rattle.brc_model.proofs.Stepping.FitsAfter.{found_by}
use Rattle.brc_model.proofs.Frame.Kinds.{StoredStay}
use Rattle.brc_model.proofs.Frame.Items.{drops_items, items_left, own_items_left}
use Rattle.brc_model.proofs.Dispatch.Counting.{its_found}
use Rattle.brc_model.proofs.Dispatch.Items.{ItemsStay, knows_stay, ItemsAt}
use Rattle.brc_model.proofs.Dispatch.ItemsUsed.{FindsWord, IsAfter, LeavesItems}
use Rattle.brc_model.proofs.Dispatch.ItemsActions.{StandsUsing, action_uses}
use Rattle.brc_model.proofs.Dispatch.Actions.{ActionFits, action_fits}
use Rattle.brc_model.proofs.Keeping.Sits.{sitting}
use Rattle.brc_model.proofs.Keeping.CodeInvariant.{CodeInvariant}
use Rattle.brc_model.proofs.Keeping.StepCases.{ShowsSteps, at_duty, thread_shows}
use Rattle.brc_model.proofs.Keeping.KindsHold.{thread_stored}
use Rattle.brc_model.proofs.Dispatch.Programs.{program_of}

-- What a thread of these machines knows of items at its place.
abbrev Knows : StepMachine → (Address → ℕ) → StepActor → Type 0
Knows m memory a = ItemsAt (program_of m.functions m.states a) memory a.actor.locked a.place

-- ---- the first machine

pub first_items : (p : Module) (states : ℕ → ℕ → Option State) (rows : ℕ) (calls : List Call)
    → ItemsAreThere (first_machine p states rows calls)
first_items p states rows calls zero a is =
    let m = first_machine p states rows calls in
    subst (Knows m m.memory) (some_is (main_actor m.layout) a is) tt
first_items p states rows calls (suc t) a is =
    let m = first_machine p states rows calls in
    let call = slice_get-map worker_actor calls t a is in
    subst (Knows m m.memory) call.is_image tt

-- ---- other threads' lists

-- The cells of a list that another thread has locked stay.
abbrev ListsStay : ℕ → Machine → Machine → Type 0
ListsStay t m new =
    (u x i : ℕ) (b : Actor) → u ≢ t → slice_get m.actors u ≡ Some b → b.locked ≡ Some x
    → new.memory (Cell x i) ≡ m.memory (Cell x i)

lists_shown : (n : ℕ) → ShowsSteps ListsStay n
lists_shown n = record {
  stays = λ p t m kept u x i b apart found has. refl;
  sits = λ t m new a agenda found shown u x i b apart there has.
      shown u x i b apart (slice_get-set_other m.actors t u (sitting a agenda) apart ∙ there) has;
  moves = λ p t m a moves kept found silent u x i b apart there has. refl;
  does = λ p t m a d rest doing u x i b apart there has.
      items_left p n m t a d rest (at_duty doing) u x i b apart there has;
}

-- ---- the thread's own list

-- A duty that drops no items leaves the thread's own list, too.
own_stays : (c : Accounts) (n : ℕ) (m : StepMachine) (t : ℕ) (a : StepActor) (exit : Exit) (d : Duty)
    (rest : List Duty) (place : ℕ → Place) → ActionFits c n m t a (Does d rest place)
    → StoredStay (kind_words m) (kind_words (machine_by m t a exit (Does d rest place))) → drops_items d ≡ false
    → ItemsStay m.memory (machine_by m t a exit (Does d rest place)).memory a.actor.locked
own_stays c n m t a exit d rest place fits stored keeps = record {
  kinds = stored;
  cells = λ x i has.
      own_items_left (with_account c t fits.account) n (with_actor (counting m) t (sitting a.actor (d ∷ rest))) t
      (sitting a.actor (d ∷ rest)) d rest (at_duty fits.doing) keeps x i has;
}

-- What the duty of the action loads is the word that it finds.
finds : (m : StepMachine) (t : ℕ) (a : StepActor) (d : Duty)
    → FindsWord m.memory d (found_by (counting m) t a.actor d)
finds m t a (KindLoad y) = refl
finds m t a (CellLoad y i) = refl
finds m t a _ = tt

-- ---- after each event

-- The thread is at the place that its action leads to, and the others are where they were.
acted : (c : Accounts) (n : ℕ) (m : StepMachine) (t : ℕ) (a : StepActor) (exit : Exit)
    (x : Action)
    → slice_get m.actors t ≡ Some a → ActionFits c n m t a x
    → StoredStay (kind_words m) (kind_words (machine_by m t a exit x)) → ItemsAreThere m
    → ((u : ℕ) (b : StepActor) → u ≢ t → slice_get m.actors u ≡ Some b → Knows m (machine_by m t a exit x).memory b)
    → LeavesItems (program_of m.functions m.states a) m.memory a.actor.locked x
    → ItemsAreThere (machine_by m t a exit x)
acted c n m t a exit Skip found fits stored there others own = there
acted c n m t a exit Stuck found fits stored there others own = there
acted c n m t a exit (Silent moves place) found fits stored there others own =
    written_others (λ u b. Knows m m.memory b) m.actors t a (at_place a place) found own others
acted c n m t a exit (Calls row place) found fits stored there others own =
    written_others (λ u b. Knows m m.memory b) m.actors t a (at_place a (place exit)) found (own exit) others
acted c n m t a exit (Does d rest place) found fits stored there others own =
    let word = found_by (counting m) t a.actor d in
    let new = (machine_by m t a exit (Does d rest place)).memory in
    let done : IsAfter m.memory new a.actor.locked d word = record {
      finds = finds m t a d;
      keeps = own_stays c n m t a exit d rest place fits stored;
    } in
    written_others (λ u b. Knows m new b) m.actors t a (step_actor m.layout t a d rest (place word) word) found
    (own new word done) others

-- Borrowed items are there after each event, whatever thread and choice it has.
pub thread_items : (p : Module) (n : ℕ) (m : StepMachine) (t : ℕ) (choice : Choice) (o : Option StepActor)
    → CodeInvariant p n m → slice_get m.actors t ≡ o
    → ItemsAreThere (of_thread m (λ a. machine_by m t a (exit_of choice)
    (action_of m.functions m.states m.layout t a choice)) o)
thread_items p n m t choice None whole found = whole.items
thread_items p n m t choice (Some a) whole found =
    let exit = exit_of choice in
    let x = action_of m.functions m.states m.layout t a choice in
    let stored = thread_stored p n m t choice (Some a) whole found in
    let lists = thread_shows (lists_shown n) m t choice (Some a) whole found in
    let others : (u : ℕ) (b : StepActor) → u ≢ t → slice_get m.actors u ≡ Some b
    → Knows m (machine_by m t a exit x).memory b = λ u b apart is.
    knows_stay m.memory (machine_by m t a exit x).memory b.actor.locked
    (record { kinds = stored; cells = λ y i has. lists u y i b.actor apart (its_found m u b is) has })
    (program_of m.functions m.states b) b.place (whole.items u b is) in
    let coded = whole.coded t a found in
    let stands : StandsUsing (program_of m.functions m.states a) m.memory a.actor.locked a.place = record {
      sound = whole.sound;
      account = whole.accounts t;
      says = coded.says;
      knows = whole.items t a found;
    } in
    acted whole.accounts n m t a exit x found (action_fits p n m t a choice whole found) stored whole.items others
    (action_uses m.functions m.states m.memory m.layout t a coded.plain stands choice)
