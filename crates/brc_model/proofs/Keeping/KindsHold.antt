-- The object that a variable names has the kind that the checker says, in the first machine and after each event: each
-- instruction leaves it so, and no other step changes a kind word that a birth has stored.
use Rattle.std.proofs.Common.{◌≡◌, ℕ, zero, suc, List, inr, Option, None, Some, refl, sym, subst, ◌+◌, ◌≤◌, ap, ◌∙◌, arith}
use Rattle.std.specs.Prelude.{slice_get}
use Rattle.brc_lang.specs.declared.module.Module.{Module}
use Rattle.brc_model.specs.declared.thread.Call.{Call}
use Rattle.brc_model.specs.declared.thread.Choice.{Choice}
use Rattle.brc_model.specs.declared.actor.Place.{Place}
use Rattle.brc_model.specs.declared.address.Address.TheVariants.{KindOf}
use Rattle.brc_model.specs.declared.duty.Duty.{Duty}
use Rattle.brc_model.specs.declared.duty.Duty.TheVariants.{KindLoad, BirthKind}
use Rattle.brc_model.specs.declared.state.State.{State}
use Rattle.brc_model.specs.declared.state.Exit.{Exit}
use Rattle.brc_model.specs.Actions.{StepActor, Action, Skip, Stuck, Silent, Calls, Does}
use Rattle.brc_model.specs.Dispatch.{exit_of, action_of}
use Rattle.brc_model.specs.StepMachine.{StepMachine, counting, of_thread, at_place, step_actor, machine_by, next_machine, first_machine, main_actor, worker_actor}
use Rattle.brc_model.specs.KnownKinds.{AreNamed, kind_words}
use Rattle.brc_model.proofs.Basics.Lists.{some_is, slice_get-map, written_actor}
use Rattle.brc_model.proofs.Keeping.CodeInvariant.{CodeInvariant}
use Rattle.brc_model.proofs.Basics.Written.{written_here, written_load}
use Rattle.brc_model.proofs.Stepping.FitsAfter.{found_by}
use Rattle.brc_model.proofs.Frame.Kinds.{StoredStay, stored_at_duty}
use Rattle.brc_model.proofs.Dispatch.Kinds.{knows_still, named_stay, knows_first, KnowsAll, AllKnown, KindsHold, KnowsLists}
use Rattle.brc_model.proofs.Dispatch.KindsActions.{StandsKnowing, action_leaves}
use Rattle.brc_model.proofs.Keeping.StepCases.{ShowsSteps, at_duty, thread_shows}
use Rattle.brc_model.specs.Machine.{Machine}
use Rattle.brc_model.proofs.Dispatch.Programs.{program_of}
use Rattle.brc_model.proofs.Dispatch.KindsKnown.{SeesKind, LeavesKinds}
use Rattle.brc_model.specs.declared.layout.Layout.{Layout}
use Rattle.brc_model.specs.Limits.{cell_limit}
use Rattle.brc_model.specs.Layout.{first_immortal_list}
use Rattle.brc_model.specs.FirstRows.{HasLines, ImmortalList, kind_word_of_first, first_kind_word}
use Rattle.brc_model.specs.Kinds.{kind_of_word, kind_numbered}
use Rattle.brc_word.specs.Words.{kind_part}
use Rattle.brc_word.specs.declared.values.TheConstants.{LIST}
use Rattle.brc_model.proofs.Keeping.FirstRows.{line_short, list_first}

-- ---- the first machine

first_known : (p : Module) (states : ℕ → ℕ → Option State) (rows : ℕ) (calls : List Call)
    → AllKnown (first_machine p states rows calls)
first_known p states rows calls zero a is =
    let m = first_machine p states rows calls in
    subst (λ (x : StepActor). KnowsAll (program_of m.functions m.states x) (kind_words m) x.place)
    (some_is (main_actor m.layout) a is) (tt, tt)
first_known p states rows calls (suc t) a is =
    let m = first_machine p states rows calls in
    let call = slice_get-map worker_actor calls t a is in
    subst (λ (x : StepActor). KnowsAll (program_of m.functions m.states x) (kind_words m) x.place) call.is_image
    (tt, tt)

pub first_holds : (p : Module) (states : ℕ → ℕ → Option State) (rows : ℕ) (calls : List Call)
    → KindsHold p.statics (first_machine p states rows calls)
first_holds p states rows calls = record {
  named = λ x some. refl;
  known = first_known p states rows calls;
}

-- ---- kind words

-- A kind word changes once, when a birth stores it.
abbrev WordsStay : ℕ → Machine → Machine → Type 0
WordsStay t m new = StoredStay (λ x. m.memory (KindOf x)) (λ x. new.memory (KindOf x))

stays_shown : (n : ℕ) → ShowsSteps WordsStay n
stays_shown n = record {
  stays = λ p t m kept x. inr refl;
  sits = λ t m new a agenda found shown x. shown x;
  moves = λ p t m a moves kept found silent x. inr refl;
  does = λ p t m a d rest doing. stored_at_duty d (at_duty doing);
}

pub thread_stored : (p : Module) (n : ℕ) (m : StepMachine) (t : ℕ) (choice : Choice) (o : Option StepActor)
    → CodeInvariant p n m → slice_get m.actors t ≡ o
    → StoredStay (kind_words m)
    (kind_words (of_thread m (λ a. machine_by m t a (exit_of choice)
    (action_of m.functions m.states m.layout t a choice)) o))
thread_stored p n m t choice o whole found = thread_shows (stays_shown n) m t choice o whole found

pub stored_stay : (p : Module) (n : ℕ) (m : StepMachine) (event : ℕ × Choice) → CodeInvariant p n m
    → StoredStay (kind_words m) (kind_words (next_machine m event))
stored_stay p n m event whole = thread_stored p n m event.0 event.1 (slice_get m.actors event.0) whole refl

-- ---- kinds

-- What the duty of the action stores or finds in kind words is there after it.
sees : (m : StepMachine) (t : ℕ) (a : StepActor) (exit : Exit) (d : Duty) (rest : List Duty) (place : ℕ → Place)
    → SeesKind (kind_words (machine_by m t a exit (Does d rest place))) d (found_by (counting m) t a.actor d)
sees m t a exit (BirthKind y h w) rest place = written_here m.memory (KindOf y) w
sees m t a exit (KindLoad y) rest place = sym (written_load m.memory (KindOf y) (KindOf y))
sees m t a exit _ rest place = tt

-- The thread is at the place that its action leads to, and the others are where they were.
acted : (m : StepMachine) (t : ℕ) (a : StepActor) (exit : Exit) (x : Action) → slice_get m.actors t ≡ Some a
    → ((u : ℕ) (b : StepActor) → slice_get m.actors u ≡ Some b
    → KnowsAll (program_of m.functions m.states b) (kind_words (machine_by m t a exit x)) b.place)
    → LeavesKinds (program_of m.functions m.states a) (kind_words (machine_by m t a exit x)) x
    → AllKnown (machine_by m t a exit x)
acted m t a exit Skip found others own = others
acted m t a exit Stuck found others own = others
acted m t a exit (Silent moves place) found others own =
    written_actor
    (λ u b. KnowsAll (program_of m.functions m.states b) (kind_words m) b.place) m.actors t a
    (at_place a place) found own others
acted m t a exit (Calls row place) found others own =
    written_actor
    (λ u b. KnowsAll (program_of m.functions m.states b) (kind_words m) b.place) m.actors t a
    (at_place a (place exit)) found (own exit) others
acted m t a exit (Does d rest place) found others own =
    let word = found_by (counting m) t a.actor d in
    written_actor
    (λ u b. KnowsAll (program_of m.functions m.states b)
    (kind_words (machine_by m t a exit (Does d rest place))) b.place) m.actors t a
    (step_actor m.layout t a d rest (place word) word) found (own word (sees m t a exit d rest place)) others

-- The immortal lists are known as lists.
lists_known : (lines : List (List ℕ)) (layout : Layout) (words : ℕ → ℕ) → HasLines lines layout
    → layout.cells ≤ cell_limit → AreNamed lines layout words → KnowsLists layout words
lists_known lines layout words has few named s low =
    let x = first_immortal_list layout + s in
    let word : first_kind_word lines layout x ≡ kind_word_of_first lines (ImmortalList s) =
    ap (kind_word_of_first lines) (list_first layout s low) in
    let stored : words x ≡ kind_word_of_first lines (ImmortalList s) = named x (omega (arith, word)) ∙ word in
    let list : kind_part (kind_word_of_first lines (ImmortalList s)) ≡ LIST =
    omega (arith, line_short layout.cells lines s has.each, few) in
    ap kind_of_word stored ∙ ap kind_numbered list

-- No action changes the layout.
named_after : (lines : List (List ℕ)) (m : StepMachine) (t : ℕ) (a : StepActor) (exit : Exit) (x : Action)
    → AreNamed lines m.layout (kind_words (machine_by m t a exit x))
    → AreNamed lines (machine_by m t a exit x).layout (kind_words (machine_by m t a exit x))
named_after lines m t a exit Skip named = named
named_after lines m t a exit Stuck named = named
named_after lines m t a exit (Silent moves place) named = named
named_after lines m t a exit (Calls row place) named = named
named_after lines m t a exit (Does d rest place) named = named

-- The kinds hold after each event, whatever thread and choice it has.
pub thread_holds : (p : Module) (n : ℕ) (m : StepMachine) (t : ℕ) (choice : Choice) (o : Option StepActor)
    → CodeInvariant p n m → slice_get m.actors t ≡ o
    → KindsHold p.statics (of_thread m (λ a. machine_by m t a (exit_of choice)
    (action_of m.functions m.states m.layout t a choice)) o)
thread_holds p n m t choice None whole found = whole.kinds
thread_holds p n m t choice (Some a) whole found =
    let exit = exit_of choice in
    let x = action_of m.functions m.states m.layout t a choice in
    let new = kind_words (machine_by m t a exit x) in
    let stays : StoredStay (kind_words m) new = thread_stored p n m t choice (Some a) whole found in
    let named = named_stay p.statics m.layout (kind_words m) new stays whole.kinds.named in
    let others : (u : ℕ) (b : StepActor) → slice_get m.actors u ≡ Some b
    → KnowsAll (program_of m.functions m.states b) new b.place = λ u b is.
    knows_still (program_of m.functions m.states b) (kind_words m) new stays b.place
    (whole.kinds.known u b is) in
    let coded = whole.coded t a found in
    let stands : StandsKnowing (program_of m.functions m.states a) m.layout new a.place = record {
      sound = whole.sound;
      allowed = whole.allowed;
      lists = lists_known p.statics m.layout new whole.lines whole.kept.core.few_cells named;
      locked = a.actor.locked;
      account = whole.accounts t;
      says = coded.says;
      named = knows_first p.statics m.layout new named;
      knows = others t a found;
    } in
    record {
      named = named_after p.statics m t a exit x named;
      known =
          acted m t a exit x found others (action_leaves m.functions m.states new m.layout t a stands choice);
    }
