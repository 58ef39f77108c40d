-- The world after a step of the code: it is the model's next world or, if memory was refused, the same world.
use Rattle.std.proofs.Common.{◌≡◌, ℕ, ◌+◌, ◌<◌, ◌≤◌, List, ◌∷◌, Some, Result, Ok, Err, OnOk, OnErr, IfOk, IfErr, length, map, refl, sym, ap, ◌∙◌, subst, arith}
use Rattle.std.specs.Prelude.{slice_get, slice_set}
use Rattle.std.specs.List.{slice_index_or}
use Rattle.std.proofs.Math.Seq.{map-set_same}
use Rattle.std.proofs.lemmas.List.{length-map, length-set, map-set}
use Rattle.std.proofs.lemmas.Option.{slice_get-get_or, slice_get-map}
use Rattle.brc_model.specs.declared.address.Address.{Address}
use Rattle.brc_model.specs.declared.thread.Choice.{Choice}
use Rattle.brc_model.specs.declared.thread.Call.{Call}
use Rattle.brc_model.specs.World.{World, first_world, step, IsReachable}
use Rattle.brc_model.specs.Actions.{StepActor}
use Rattle.brc_model.specs.StepMachine.{layout_of, first_memory, main_actor, worker_actor}
use Rattle.brc_check.specs.Accepted.{Accepted}
use Rattle.brc_check.specs.Tables.{states_of}
use Rattle.brc_world.specs.declared.did.Did.{Did}
use Rattle.brc_machine.specs.declared.faults.Faults.{Faults}
use Rattle.brc_machine.specs.declared.no_memory.NoMemory.{NoMemory}
use Rattle.brc_world.specs.declared.thread.Thread.{Thread}
use Rattle.brc_world.specs.Answers.{IsAnswer}
use Rattle.brc_world.specs.Actors.{actor_of}
use Rattle.brc_machine.specs.Storage.{Columns, word_in, AreOf}
use Rattle.brc_world.specs.Worlds.{Contents, model_of, IsWorld}
use Rattle.brc_world.specs.Doing.{Turned}
use Rattle.brc_world.proofs.Stepping.{with_words}
use Rattle.brc_model.specs.declared.layout.Layout.{Layout}
use Rattle.brc_model.specs.Layout.{row_count}
use Rattle.brc_model.specs.Limits.{row_limit}
use Rattle.brc_model.proofs.Keeping.FirstMachine.{has_lines, few_cells}
use Rattle.brc_effect.proofs.FewNumbers.{few_numbers}
use Rattle.brc_lang.specs.declared.module.Module.{Module}

abbrev pub contents : Accepted → Layout → Columns → List Thread → Faults → Contents
contents accepted layout words threads faults =
    record { accepted = accepted; layout = layout; words = words; actors = map actor_of threads; faults = faults }

-- The columns of a world are those of its layout.
pub are_of : (p : Module) (c : Contents) → IsWorld p c → c.layout.rows ≤ row_limit
    → length c.actors ≡ 1 + c.layout.workers → AreOf c.layout c.words
are_of p c world few workers = record {
  rows = world.rows;
  threads = world.threads ∙ workers;
  cells = world.cells;
  few_rows = few;
  few_cells = world.few_cells;
  few_lists = world.few_lists;
  few_numbers = world.few_numbers;
}

-- ---- the model's view

seen_as : (accepted : Accepted) (layout : Layout) (old new : Columns) (threads : List Thread) (t : ℕ)
    (after : Thread) (f g : Faults)
    (memory : Address → ℕ) (next : StepActor) (faults : Faults)
    → word_in new ≡ memory → actor_of after ≡ next → g ≡ faults
    → model_of (contents accepted layout new (slice_set threads t after) g)
    ≡ with_words (model_of (contents accepted layout old threads f)) t memory next faults
seen_as accepted layout old new threads t after f g memory next faults words actor counts =
    rw (map-set actor_of threads t after, words, actor, counts) refl

made : (accepted : Accepted) (layout : Layout) (old new : Columns) (threads : List Thread) (t : ℕ)
    (choice : Choice)
    (a : StepActor) (after : Thread) (f g : Faults) (r : Result Did NoMemory) (memory : Address → ℕ) (next : StepActor)
    (faults : Faults)
    → Turned old new a (actor_of after) f g r memory next faults
    → step (model_of (contents accepted layout old threads f)) t choice
    ≡ with_words (model_of (contents accepted layout old threads f)) t memory next faults
    → OnOk r (model_of (contents accepted layout new (slice_set threads t after) g)
    ≡ step (model_of (contents accepted layout old threads f)) t choice)
made accepted layout old new threads t choice a after f g (Ok did) memory next faults turned is =
    seen_as accepted layout old new threads t after f g memory next faults turned.words turned.actor turned.faults_are
    ∙ sym is
made accepted layout old new threads t choice a after f g (Err e) memory next faults turned is = tt

stays : (accepted : Accepted) (layout : Layout) (old new : Columns) (threads : List Thread) (t : ℕ)
    (before after : Thread) (f g : Faults) (r : Result Did NoMemory) (memory : Address → ℕ) (next : StepActor)
    (faults : Faults)
    → Turned old new (actor_of before) (actor_of after) f g r memory next faults
    → before ≡ slice_index_or threads t before
    → OnErr r (contents accepted layout new (slice_set threads t after) g ≡ contents accepted layout old threads f)
stays accepted layout old new threads t before after f g (Ok did) memory next faults turned at = tt
stays accepted layout old new threads t before after f g (Err e) memory next faults turned at =
    let same : map actor_of (slice_set threads t after) ≡ map actor_of threads =
    map-set_same actor_of threads t after before (turned.same_actor ∙ ap actor_of at) in
    rw (turned.same_words, same, turned.same_faults) refl

-- ---- the world's invariant

sized : (p : Accepted) (layout : Layout) (old new : Columns) (threads : List Thread) (t : ℕ) (after : Thread)
    (f g : Faults)
    → IsWorld p.module (contents p layout old threads f) → length new.local ≡ length old.local
    → length new.thread ≡ length old.thread → new.width ≡ old.width
    → IsReachable p.module (model_of (contents p layout new (slice_set threads t after) g))
    → IsWorld p.module (contents p layout new (slice_set threads t after) g)
sized p layout old new threads t after f g world same_rows same_threads same_cells reachable =
    let many : length (map actor_of (slice_set threads t after)) ≡ length (map actor_of threads) =
    length-map _ actor_of ∙ length-set threads t after ∙ sym (length-map threads actor_of) in
    record {
      reachable = reachable;
      rows = same_rows ∙ world.rows;
      threads = same_threads ∙ world.threads ∙ sym many;
      cells = same_cells ∙ world.cells;
      few_cells = world.few_cells;
      few_lists = world.few_lists;
      few_numbers = world.few_numbers;
    }

goes : (p : Accepted) (layout : Layout) (old new : Columns) (threads : List Thread) (t : ℕ) (choice : Choice)
    (before after : Thread) (f g : Faults) (r : Result Did NoMemory) (memory : Address → ℕ) (next : StepActor)
    (faults : Faults)
    → Turned old new (actor_of before) (actor_of after) f g r memory next faults
    → before ≡ slice_index_or threads t before
    → step (model_of (contents p layout old threads f)) t choice
    ≡ with_words (model_of (contents p layout old threads f)) t memory next faults
    → IsWorld p.module (contents p layout old threads f)
    → IsReachable p.module (step (model_of (contents p layout old threads f)) t choice)
    → IsWorld p.module (contents p layout new (slice_set threads t after) g)
goes p layout old new threads t choice before after f g (Ok did) memory next faults turned at is world leads =
    let now : model_of (contents p layout new (slice_set threads t after) g)
    ≡ step (model_of (contents p layout old threads f)) t choice =
    made p layout old new threads t choice (actor_of before) after f g (Ok did) memory next faults turned is
    in
    sized p layout old new threads t after f g world turned.rows turned.threads turned.cells
    (subst (IsReachable p.module) (sym now) leads)
goes p layout old new threads t choice before after f g (Err e) memory next faults turned at is world leads =
    let same : contents p layout new (slice_set threads t after) g
    ≡ contents p layout old threads f =
    stays p layout old new threads t before after f g (Err e) memory next faults turned at in
    subst (IsWorld p.module) (sym same) world

-- the world after the step: it keeps its invariant, and it is the model's next world, or the same if memory was refused
pub record Outcome (p : Accepted) (layout : Layout) (old new : Columns) (threads : List Thread) (t : ℕ)
    (choice : Choice) (after : Thread) (f g : Faults) (r : Result Did NoMemory) : Type 0 where
  pub world : IsWorld p.module (contents p layout new (slice_set threads t after) g)
  pub made : OnOk r (model_of (contents p layout new (slice_set threads t after) g)
      ≡ step (model_of (contents p layout old threads f)) t choice)
  pub stays : OnErr r (contents p layout new (slice_set threads t after) g
      ≡ contents p layout old threads f)

pub outcome : (p : Accepted) (layout : Layout) (old new : Columns) (threads : List Thread) (t : ℕ) (choice : Choice)
    (before after : Thread) (f g : Faults) (r : Result Did NoMemory) (memory : Address → ℕ) (next : StepActor)
    (faults : Faults)
    → Turned old new (actor_of before) (actor_of after) f g r memory next faults
    → before ≡ slice_index_or threads t before
    → step (model_of (contents p layout old threads f)) t choice
    ≡ with_words (model_of (contents p layout old threads f)) t memory next faults
    → IsWorld p.module (contents p layout old threads f)
    → IsReachable p.module (step (model_of (contents p layout old threads f)) t choice)
    → Outcome p layout old new threads t choice after f g r
outcome p layout old new threads t choice before after f g r memory next faults turned at is world leads = record {
  world = goes p layout old new threads t choice before after f g r memory next faults turned at is world leads;
  made = made p layout old new threads t choice (actor_of before) after f g r memory next faults turned is;
  stays = stays p layout old new threads t before after f g r memory next faults turned at;
}

-- ---- the thread that steps

pub thread_at : (accepted : Accepted) (layout : Layout) (words : Columns) (threads : List Thread) (t : ℕ)
    (faults : Faults) (before : Thread)
    → before ≡ slice_index_or threads t before → t < length (map actor_of threads)
    → slice_get (model_of (contents accepted layout words threads faults)).actors t ≡ Some (actor_of before)
thread_at accepted layout words threads t faults before at lt =
    let within : t < length threads = subst (λ (n : ℕ). t < n) (length-map threads actor_of) lt in
    let found : slice_get threads t ≡ Some before = slice_get-get_or threads t before within ∙ ap Some (sym at) in
    rw (slice_get-map actor_of threads t, found) refl

-- ---- answers

-- The answer that is right for the model's next world is right for the code's.
pub answered : (old new stepped : World) (t : ℕ) (r : Result Did NoMemory) (did : Did) → OnOk r (new ≡ stepped)
    → IfOk r (λ d. d ≡ did) → IsAnswer old t stepped did → IfOk r (IsAnswer old t new)
answered old new stepped t (Ok d) did is same answer = rw (is, same) answer
answered old new stepped t (Err e) did is same answer = tt

-- ---- refusals

-- What holds anyway holds if memory was granted, and if it was refused.
pub on_ok : {P : Type 0} (r : Result Did NoMemory) → P → OnOk r P
on_ok (Ok did) p = p
on_ok (Err e) p = tt

pub on_err : {P : Type 0} (r : Result Did NoMemory) → P → OnErr r P
on_err (Ok did) p = tt
on_err (Err e) p = p

-- What follows from the clause on a refusal holds of the refusal too.
pub refusal : {P Q : Type 0} (r : Result Did NoMemory) → (P → Q) → IfErr r (λ _. P) → IfErr r (λ _. Q)
refusal (Ok did) says given = tt
refusal (Err e) says given = says given

-- ---- the first world

abbrev pub no_faults : Faults
no_faults = record { calls = 0; closes = 0 }

-- the first world of an accepted module, with the states that its table gives
abbrev pub first_of : Accepted → ℕ → List Call → World
first_of p rows calls = first_world p.module (states_of p.module p.table) rows calls

pub first_seen : (p : Accepted) (rows : ℕ) (layout : Layout) (calls : List Call) (words : Columns)
    (threads : List Thread)
    → layout ≡ layout_of p.module (length calls) rows → word_in words ≡ first_memory p.module.statics layout
    → map actor_of threads ≡ main_actor layout ∷ map worker_actor calls
    → model_of (contents p layout words threads no_faults) ≡ first_of p rows calls
first_seen p rows layout calls words threads so word actors =
    rw (word, actors, so) refl

pub first_is : (p : Accepted) (rows : ℕ) (layout : Layout) (calls : List Call) (words : Columns) (threads : List Thread)
    → layout ≡ layout_of p.module (length calls) rows → word_in words ≡ first_memory p.module.statics layout
    → map actor_of threads ≡ main_actor layout ∷ map worker_actor calls
    → length words.local ≡ row_count layout → length words.thread ≡ 1 + layout.workers → words.width ≡ layout.cells
    → IsReachable p.module (first_of p rows calls) → IsWorld p.module (contents p layout words threads no_faults)
first_is p rows layout calls words threads so word actors same_rows same_threads same_cells reachable =
    let now = first_seen p rows layout calls words threads so word actors in
    let workers : layout.workers ≡ length calls = ap (λ (l : Layout). l.workers) so in
    let count : length (map actor_of threads) ≡ 1 + layout.workers =
    ap (λ (l : List StepActor). length l) actors ∙ omega (arith, length-map calls worker_actor, workers) in
    record {
      reachable = subst (IsReachable p.module) (sym now) reachable;
      rows = same_rows;
      threads = same_threads ∙ sym count;
      cells = same_cells;
      few_cells = rw so (few_cells p.module (length calls) rows);
      few_lists = rw so (has_lines p.module (length calls) rows reachable.fits).few;
      few_numbers =
          rw so (few_numbers p.module (length calls) rows (has_lines p.module (length calls) rows reachable.fits));
    }
