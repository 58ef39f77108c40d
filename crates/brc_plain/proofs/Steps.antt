-- The machine after a step, put together from its parts.
use Rattle.std.proofs.Common.{◌≡◌, ℕ, ◌<◌, ◌++◌, Bool, List, [], length, cond, get_or, map, reverse, refl, sym, ap, ◌∙◌, subst}
use Rattle.std.specs.Prelude.{◌||◌, Option, Some, slice_get, slice_set}
use Rattle.std.proofs.lemmas.List.{map-set}
use Rattle.std.proofs.lemmas.Option.{slice_get-get_or}
use Rattle.brc_model.specs.declared.actor.Place.{Place}
use Rattle.brc_model.specs.declared.address.Address.{Address}
use Rattle.brc_model.specs.declared.duty.Duty.{Duty}
use Rattle.brc_model.specs.declared.layout.Layout.{Layout}
use Rattle.brc_model.specs.declared.state.Exit.{Exit}
use Rattle.brc_model.specs.declared.thread.Choice.{Choice}
use Rattle.brc_model.specs.AbstractState.{AbstractState, Move, moved}
use Rattle.brc_model.specs.Action.{StepActor, Action, Silent, Calls}
use Rattle.brc_model.specs.Dispatch.{action_of, exit_of}
use Rattle.brc_model.specs.Duties.{address_of, continuation, new_word, ready}
use Rattle.brc_model.specs.Events.{chooses_unfit, is_bad_action, is_bad_event}
use Rattle.brc_model.specs.Machine.{Life, is_running, life_by, written}
use Rattle.brc_model.specs.Moves.{reference_effects}
use Rattle.brc_model.specs.StepMachine.{StepMachine, at_place, called_by, closes, counted, does_by, machine_by, next_machine, silent_by, step_actor}
use Rattle.brc_effect.specs.Effects.{IsEffect, duties_of, status_after, used_after, locked_after, lent_after}
use Rattle.brc_effect.specs.declared.effect.Effect.{Effect}
use Rattle.brc_machine.specs.declared.faults.Faults.{Faults}
use Rattle.brc_plain.specs.declared.plain.Plain.{Plain}
use Rattle.brc_plain.specs.declared.thread.Thread.{Thread}
use Rattle.brc_plain.specs.Bags.{bag_in}
use Rattle.brc_plain.specs.Lives.{life_at}
use Rattle.brc_plain.specs.Plains.{machine_in}
use Rattle.brc_machine.specs.Storage.{word_in}
use Rattle.brc_plain.specs.Threads.{actor_of}
use Rattle.brc_plain.specs.Begun.{no_states}
use Rattle.brc_plain.proofs.Threads.{actor_in, get_in}

-- ---- the thread that steps

some_is : (a b : StepActor) → Some a ≡ Some b → a ≡ b
some_is a b same = cc

-- The model's thread with the number is the code's.
pub thread_is : (threads : List Thread) (n : ℕ) (thread : Thread) (a : StepActor) → n < length threads
    → thread ≡ get_or threads n thread → slice_get (map actor_of threads) n ≡ Some a → a ≡ actor_of thread
thread_is threads n thread a there is found =
    some_is a (actor_of thread)
    (sym found ∙ get_in threads n
    ∙ ap actor_in (slice_get-get_or threads n thread there ∙ ap (λ (t : Thread). Some t) (sym is)))

-- The thread that the code finds is the model's.
pub found_at : (threads items : List Thread) (n : ℕ) (thread : Thread) → items ≡ threads → n < length items
    → thread ≡ get_or items n thread → slice_get (map actor_of threads) n ≡ Some (actor_of thread)
found_at threads items n thread same there is =
    subst (λ (those : List Thread). slice_get (map actor_of those) n ≡ Some (actor_of thread)) same
    (get_in items n ∙ ap actor_in (slice_get-get_or items n thread there ∙ ap (λ (t : Thread). Some t) (sym is)))

-- The model's threads change where the code's do.
pub threads_set : (threads : List Thread) (n : ℕ) (thread : Thread) (a : StepActor) → actor_of thread ≡ a
    → map actor_of (slice_set threads n thread) ≡ slice_set (map actor_of threads) n a
threads_set threads n thread a is = rw (map-set actor_of threads n thread, is) refl

-- ---- a machine of the same parts

pub made_of : (m : StepMachine) (memory : Address → ℕ) (actors : List StepActor) (abstract : AbstractState)
    (life : ℕ → Life) → memory ≡ m.memory → actors ≡ m.actors → abstract ≡ m.abstract → life ≡ m.life
    → record m { memory = memory; actors = actors; abstract = abstract; life = life } ≡ m
made_of m memory actors abstract life words threads bag lives = rw (words, threads, bag, lives) refl

-- ---- an event

-- The event is bad if its thread's action is, or if what the thread begins lacks what it needs.
pub bad_by : (p : Plain) (n own : ℕ) (choice : Choice) (thread : Thread) (act : Action) (bad unfit : Bool)
    → slice_get (map actor_of p.threads.items) n ≡ Some (actor_of thread) → own ≡ n
    → act ≡ action_of (machine_in p).functions no_states (machine_in p).layout own (actor_of thread) choice
    → bad ≡ is_bad_action (machine_in p) own (actor_of thread) act
    → unfit ≡ chooses_unfit (machine_in p) (actor_of thread) choice
    → (bad || unfit) ≡ is_bad_event (machine_in p) (n, choice)
bad_by p n own choice thread act bad unfit found same is one other = rw (one, other, is, same, found) refl

-- The machine after the event is the one after its thread's action.
pub stepped_by : (p : Plain) (after : StepMachine) (n own : ℕ) (choice : Choice) (exit : Exit) (thread : Thread)
    (act : Action) → slice_get (map actor_of p.threads.items) n ≡ Some (actor_of thread) → own ≡ n
    → act ≡ action_of (machine_in p).functions no_states (machine_in p).layout own (actor_of thread) choice
    → exit ≡ exit_of choice
    → ((a : StepActor) → slice_get (map actor_of p.threads.items) n ≡ Some a
    → after ≡ machine_by (machine_in p) n a exit act)
    → after ≡ next_machine (machine_in p) (n, choice)
stepped_by p after n own choice exit thread act found same is ends all =
    rw found (all (actor_of thread) found ∙ rw (is, ends, same) refl)

-- ---- silent steps and host calls

pub silent : (m : StepMachine) (t : ℕ) (a : StepActor) (moves : List Move) (place : Place) (actors : List StepActor)
    (abstract : AbstractState) → actors ≡ slice_set m.actors t (at_place a place) → abstract ≡ moved m.abstract moves
    → silent_by m t a moves place ≡ record m { actors = actors; abstract = abstract }
silent m t a moves place actors abstract threads bag = rw (threads, bag) refl

pub called : (m : StepMachine) (t : ℕ) (a : StepActor) (exit : Exit) (to : Exit → Place) (actors : List StepActor)
    (host_faults : ℕ) → actors ≡ slice_set m.actors t (at_place a (to exit))
    → host_faults ≡ counted exit m.host_faults
    → called_by m t a exit to ≡ record m { actors = actors; host_faults = host_faults }
called m t a exit to actors host_faults threads faults = rw (threads, faults) refl

-- The machine after the code's silent step is the model's.
pub silent_step : (p : Plain) (t : ℕ) (thread next : Thread) (a : StepActor) (exit : Exit) (act : Action)
    (moves : List Move) (place : Place) (abstract : AbstractState) → thread ≡ get_or p.threads.items t thread
    → t < length p.threads.items → slice_get (map actor_of p.threads.items) t ≡ Some a
    → actor_of next ≡ at_place (actor_of thread) place → abstract ≡ moved (bag_in p.bag) moves
    → act ≡ Silent moves place
    → record (machine_in p) { actors = map actor_of (slice_set p.threads.items t next); abstract = abstract }
    ≡ machine_by (machine_in p) t a exit act
silent_step p t thread next a exit act moves place abstract at there found goes bag does =
    rw (does, thread_is p.threads.items t thread a there at found)
    (sym (silent (machine_in p) t (actor_of thread) moves place (map actor_of (slice_set p.threads.items t next))
    abstract (threads_set p.threads.items t next (at_place (actor_of thread) place) goes) bag))

-- The machine after the code's host call is the model's.
pub call_step : (p : Plain) (t : ℕ) (thread next : Thread) (a : StepActor) (exit : Exit) (act : Action)
    (row : Option ℕ) (to : Exit → Place) (faults : Faults) → thread ≡ get_or p.threads.items t thread
    → t < length p.threads.items → slice_get (map actor_of p.threads.items) t ≡ Some a
    → actor_of next ≡ at_place (actor_of thread) (to exit)
    → faults ≡ record p.faults { calls = counted exit p.faults.calls } → act ≡ Calls row to
    → record (machine_in p) {
      actors = map actor_of (slice_set p.threads.items t next);
      host_faults = faults.calls;
      close_faults = faults.closes;
    } ≡ machine_by (machine_in p) t a exit act
call_step p t thread next a exit act row to faults at there found goes counts does =
    rw (counts, does, thread_is p.threads.items t thread a there at found)
    (sym (called (machine_in p) t (actor_of thread) exit to (map actor_of (slice_set p.threads.items t next))
    (counted exit p.faults.calls) (threads_set p.threads.items t next (at_place (actor_of thread) (to exit)) goes)
    refl))

-- ---- duties

-- The thread goes on after a duty as the model's does.
pub went_on : (layout : Layout) (t rows : ℕ) (thread : Thread) (d : Duty) (found : ℕ) (rest agenda : List Duty)
    (place there : Place) (e : Effect)
    → IsEffect (record {
      blocks = layout;
      number = t;
      status = thread.status;
      head = thread.head;
      used = thread.used;
      rows = rows;
    }) d found e
    → reverse agenda ≡ rest → there ≡ place
    → step_actor layout t (actor_of thread) d rest place found ≡ record {
      function = thread.function;
      place = there;
      actor = record {
        status = status_after thread.status e.change;
        agenda = ready e.head (duties_of e.next ++ reverse agenda);
        aside = [];
        head = e.head;
        used = used_after thread.used e.change;
        locked = locked_after thread.locked e.change;
        lent = lent_after thread.lent e.change;
      };
    }
went_on layout t rows thread d found rest agenda place there e is same here =
    rw (is.next, is.head, is.status, is.used, is.locked thread.locked, is.lent thread.lent, same, here) refl

-- the word that the thread's duty finds
abbrev pub found_by : StepMachine → ℕ → StepActor → Duty → ℕ
found_by m t a d = m.memory (address_of m.layout t a.actor.head d)

pub done : (m : StepMachine) (t : ℕ) (a : StepActor) (exit : Exit) (d : Duty) (rest : List Duty) (place : ℕ → Place)
    (memory : Address → ℕ) (actors : List StepActor) (abstract : AbstractState) (life : ℕ → Life)
    (host_faults close_faults : ℕ)
    → memory ≡ written m.memory (address_of m.layout t a.actor.head d)
    (new_word m.layout t a.actor.head d (found_by m t a d))
    → actors ≡ slice_set m.actors t (step_actor m.layout t a d rest (place (found_by m t a d)) (found_by m t a d))
    → abstract ≡ moved m.abstract (reference_effects m.memory t d (found_by m t a d))
    → life ≡ life_by m.life t d
    (continuation m.layout t (is_running a.actor.status) a.actor.head d (found_by m t a d))
    → host_faults ≡ m.host_faults
    → close_faults ≡ cond (closes d) (counted exit m.close_faults) m.close_faults
    → does_by m t a exit d rest place ≡ record m {
      memory = memory;
      actors = actors;
      abstract = abstract;
      life = life;
      host_faults = host_faults;
      close_faults = close_faults;
    }
done m t a exit d rest place memory actors abstract life host_faults close_faults words threads bag lives calls closed =
    rw (words, threads, bag, lives, calls, closed) refl

-- The machine after the code's duty is the model's.
pub duty_step : (p : Plain) (t own rows : ℕ) (thread next : Thread) (a : StepActor) (exit : Exit) (d : Duty)
    (rest agenda : List Duty) (place : ℕ → Place) (there : Place) (e : Effect) (address : Address) (found word : ℕ)
    (memory : Address → ℕ) (abstract : AbstractState) (life : ℕ → Life) (faults : Faults)
    → own ≡ t → thread ≡ get_or p.threads.items t thread → t < length p.threads.items
    → slice_get (map actor_of p.threads.items) t ≡ Some a
    → address ≡ address_of p.blocks own thread.head d → found ≡ word_in p.memory address
    → word ≡ new_word p.blocks own thread.head d found
    → IsEffect (record {
      blocks = p.blocks;
      number = own;
      status = thread.status;
      head = thread.head;
      used = thread.used;
      rows = rows;
    }) d found e
    → reverse agenda ≡ rest → there ≡ place found
    → actor_of next ≡ record {
      function = thread.function;
      place = there;
      actor = record {
        status = status_after thread.status e.change;
        agenda = ready e.head (duties_of e.next ++ reverse agenda);
        aside = [];
        head = e.head;
        used = used_after thread.used e.change;
        locked = locked_after thread.locked e.change;
        lent = lent_after thread.lent e.change;
      };
    }
    → memory ≡ written (word_in p.memory) address word
    → abstract ≡ moved (bag_in p.bag) (reference_effects (word_in p.memory) own d found)
    → life ≡ life_by (life_at p.lives.items) own d (duties_of e.next)
    → faults ≡ record p.faults { closes = cond (closes d) (counted exit p.faults.closes) p.faults.closes }
    → record (machine_in p) {
      memory = memory;
      actors = map actor_of (slice_set p.threads.items t next);
      abstract = abstract;
      life = life;
      host_faults = faults.calls;
      close_faults = faults.closes;
    } ≡ does_by (machine_in p) t a exit d rest place
duty_step p t own rows thread next a exit d rest agenda place there e address found word memory abstract life faults
    same at inside here is_address is_found is_word is_effect is_rest is_there goes stored bag lives counts =
    let m = machine_in p in
    let b = actor_of thread in
    let finds : found ≡ found_by m own b d = is_found ∙ ap (word_in p.memory) is_address in
    let words : memory ≡ written m.memory (address_of m.layout own thread.head d)
    (new_word m.layout own thread.head d (found_by m own b d)) =
    stored ∙ rw (is_word, finds, is_address) refl in
    let actor : actor_of next ≡ step_actor m.layout own b d rest (place (found_by m own b d)) (found_by m own b d) =
    goes ∙ sym (went_on p.blocks own rows thread d found rest agenda (place found) there e is_effect is_rest is_there)
    ∙ ap (λ (n : ℕ). step_actor m.layout own b d rest (place n) n) finds in
    let state : abstract ≡ moved m.abstract (reference_effects m.memory own d (found_by m own b d)) =
    bag ∙ ap (λ (n : ℕ). moved m.abstract (reference_effects m.memory own d n)) finds in
    let lived : life ≡ life_by m.life own d
    (continuation m.layout own (is_running thread.status) thread.head d (found_by m own b d)) =
    lives ∙ ap (life_by m.life own d)
    (is_effect.next ∙ ap (continuation m.layout own (is_running thread.status) thread.head d) finds) in
    subst (λ (n : ℕ). thread ≡ get_or p.threads.items n thread → n < length p.threads.items
    → slice_get (map actor_of p.threads.items) n ≡ Some a
    → record m {
      memory = memory;
      actors = map actor_of (slice_set p.threads.items n next);
      abstract = abstract;
      life = life;
      host_faults = faults.calls;
      close_faults = faults.closes;
    } ≡ does_by m n a exit d rest place) same
    (λ there_at there_in there_is.
    rw (thread_is p.threads.items own thread a there_in there_at there_is)
    (sym (done m own b exit d rest place memory (map actor_of (slice_set p.threads.items own next)) abstract life
    faults.calls faults.closes words (threads_set p.threads.items own next _ actor) state lived
    (ap (λ (f : Faults). f.calls) counts) (ap (λ (f : Faults). f.closes) counts))))
    at inside here
