-- Each step of a reachable world names words that exist, and finds words that suit its duty.
use Rattle.std.proofs.Common.{◌≡◌, ℕ, ◌+◌, ◌*◌, ◌<◌, ◌≤◌, ◌⊎◌, inl, inr, List, ◌∷◌, length, Option, Some, refl, sym, ap, ◌∙◌, subst, arith}
use Rattle.std.specs.Prelude.{slice_get}
use Rattle.std.proofs.lemmas.List.{length-map}
use Rattle.std.proofs.lemmas.Bool.{eq-eqb, cases_Bool}
use Rattle.std.proofs.lemmas.Option.{slice_get_within}
use Rattle.brc_lang.specs.declared.module.Module.{Module}
use Rattle.brc_model.specs.declared.duty.Duty.{Duty}
use Rattle.brc_model.specs.declared.duty.Duty.TheVariants.{RetainLoad, ReleaseLoad, SetMark, Look, TakeMark, ClaimMark, Settle, SettleCell, Leave, Scan, MarksLoad, TakeFound, Finish, CellLoad, CellSwap}
use Rattle.brc_model.specs.declared.address.Address.TheVariants.{Local, Marks}
use Rattle.brc_word.specs.Words.{owner_part, marks_of_word, lowest_mark}
use Rattle.brc_model.specs.declared.actor.Place.{Place}
use Rattle.brc_model.specs.Duties.{mark_place, found_row, address_of}
use Rattle.brc_model.specs.declared.actor.Actor.{Actor}
use Rattle.brc_model.specs.Machine.{Life, Live, Machine, with_actor, used_by}
use Rattle.brc_model.specs.Tables.{AreTrueWhereReached}
use Rattle.brc_model.specs.World.{World, world_of, IsReachable}
use Rattle.brc_model.specs.Actions.{StepActor}
use Rattle.brc_model.specs.StepMachine.{StepMachine, its_actor, counting, first_machine, machine_after}
use Rattle.brc_model.proofs.Keeping.CodeInvariant.{CodeInvariant}
use Rattle.brc_model.proofs.Dispatch.Counting.{its_found}
use Rattle.brc_model.specs.Within.{IsThere, FindsOwner, IsWithin, StepsWithin}
use Rattle.brc_model.specs.CountingLaws.{DutyWithin}
use Rattle.brc_model.specs.RowInvariant.{Numbers, InOwned, InSwapped, InMerged, IsLive, RowInvariant}
use Rattle.brc_model.proofs.Stepping.Stores.{overwritten}
use Rattle.brc_model.proofs.Frame.Alive.{alive_backed}
use Rattle.brc_model.proofs.Stepping.Releases.{release_alive}
use Rattle.brc_model.proofs.Frame.Leaves.{head_of}
use Rattle.brc_model.proofs.Stepping.FitsAfter.{agenda_here, found_by, NotGone}
use Rattle.brc_model.proofs.Keeping.Sits.{sitting}
use Rattle.brc_model.proofs.Keeping.Kept.{Doing}
use Rattle.brc_model.proofs.Dispatch.Actions.{DutyFits, ActionFits, action_fits}
use Rattle.brc_model.proofs.Promises.Safe.{first_code_invariant}
use Rattle.brc_model.specs.Ranges.{IsSmall}
use Rattle.brc_model.proofs.Limits.Ranges.{head_small}
use Rattle.brc_model.proofs.Limits.RangesEvents.{Bounded, bounded_after, first_ranges}
use Rattle.brc_model.proofs.Limits.Bounds.{IsFew, duty_suits}
use Rattle.brc_model.proofs.Basics.Marks.{word_within}
use Rattle.brc_model.proofs.Basics.FoundMarks.{lowest_used}
use Rattle.brc_model.proofs.Basics.Blocks.{used_low, block_within, size_within, thread_there, rows_low, immortal_block}
use Rattle.brc_model.specs.Accounts.{Accounts, Account}
use Rattle.brc_model.specs.Invariant.{AtDuty, CoreInvariant, numbers_of}
use Rattle.brc_model.proofs.Objects.UsesAfter.{own_uses}
use Rattle.brc_model.specs.Limits.{row_limit, thread_limit, total_limit, depth_limit}
use Rattle.brc_model.specs.Layout.{row_count, block_of, block_size, is_immortal_row}
use Rattle.brc_model.proofs.Dispatch.Programs.{Program, program_of}
use Rattle.brc_model.specs.Threads.{outer_of}
use Rattle.brc_model.proofs.Dispatch.Coded.{PlaceSays}
use Rattle.brc_model.specs.declared.actor.Place.TheVariants.{Idle, InCall, Inside, Stopping, Exiting}

-- ---- the word exists

module _ {p : Accounts} {n : ℕ} {m : Machine} {t : ℕ} {a : Actor} {d : Duty} {rest : List Duty} where
  -- An existing row's mark word exists.
  mark_there : (x : ℕ) → AtDuty p n m t a d rest → x < row_count m.layout → IsThere m.layout (mark_place m.layout x)
  mark_there x here low =
      (omega (arith, block_within m.layout x here.core.some_rows), word_within m.layout x here.core.some_rows low)

  own_thread : AtDuty p n m t a d rest → t < 1 + m.layout.workers
  own_thread here = omega (arith, slice_get_within m.actors t a here.found, here.core.threads, here.core.workers)

  -- A mark word exists if the thread has used a row of it.
  own_word : (w : ℕ) → AtDuty p n m t a d rest → marks_of_word * w < a.used → IsThere m.layout (Marks t w)
  own_word w here low =
      let few = (here.core.uses t a here.found).few in
      (own_thread here, omega (arith, low, few))

module _ {p : Accounts} {n : ℕ} {m : Machine} {t : ℕ} {a : Actor} {rest : List Duty} where
  duty_there : (d : Duty) → AtDuty p n m t a d rest → NotGone a → IsSmall m.layout d
      → IsThere m.layout (address_of m.layout t a.head d)
  duty_there (Look x) here alive small =
      omega (arith, block_within m.layout x here.core.some_rows)
  duty_there (SetMark x) here alive small = mark_there x here (small.row x (eq-eqb x x refl))
  duty_there (TakeMark x) here alive small = mark_there x here (small.row x (eq-eqb x x refl))
  duty_there (ClaimMark x) here alive small = mark_there x here (small.row x (eq-eqb x x refl))
  duty_there Settle here alive small = omega (arith, head_small t a here.core here.found)
  duty_there (SettleCell x i c) here alive small =
      let (pos, dies, more, gate, empty, none) = head_of here in
      (small.row x (eq-eqb x x refl), omega (arith, more, small.cells))
  duty_there (CellLoad x i) here alive small = (small.row x (eq-eqb x x refl), omega (arith, small.cells))
  duty_there (CellSwap x i y h) here alive small = (small.row x (eq-eqb x x refl), omega (arith, small.cells))
  duty_there (Leave x c) here alive small = own_thread here
  duty_there (Scan w k) here alive small =
      let fits = agenda_here here alive in
      own_word w here (omega (arith, fits.1, head_of here))
  duty_there (TakeFound w marks) here alive small =
      let fits = agenda_here here alive in
      let low = lowest_used marks a.used w (head_of here) fits.1 in
      mark_there (found_row m.layout t w marks) here (used_low t a
      (marks_of_word * w + lowest_mark marks) here.core here.found low)
  duty_there (MarksLoad w) here alive small = (own_thread here, head_of here)
  duty_there Finish here alive small = own_thread here
  duty_there _ here alive small = small.row _ (eq-eqb _ _ refl)

-- ---- used rows

module _ {p : Accounts} {n : ℕ} {m : Machine} where
  used_within : (t : ℕ) (a : Actor) (used : ℕ) → CoreInvariant p n m → slice_get m.actors t ≡ Some a
      → used ≤ block_size m.layout t → used ≤ row_count m.layout
  used_within t a used core found few = omega (arith, few, size_within m.layout t (thread_there t a core found))

module _ {p : Accounts} {n : ℕ} {m : Machine} {t : ℕ} {a : Actor} {d : Duty} {rest : List Duty} where
  duty_used : AtDuty p n m t a d rest → used_by a.used d ≤ row_count m.layout
  duty_used here =
      let after = own_uses here in
      used_within t a (used_by a.used d) here.core here.found after.few

-- ---- one duty

-- A counted live row has no owner, or the thread of its block owns it.
row_owner : (owner : ℕ) (k : Numbers) → IsLive owner k
    → (owner_part k.local ≡ 0) ⊎ (owner_part k.local ≡ owner + 1)
row_owner owner k live = elim live.mode [
  | InOwned o ↦ inr o.owned
  | InSwapped s ↦ inl (omega (arith, s.local))
  | InMerged s ↦ inl (omega (arith, s.local))
]

module _ {p : Accounts} {n : ℕ} {m : Machine} where
  -- A live row has no owner, or the thread of its block owns it; immortal rows are main's.
  pub live_owner : (x : ℕ) → CoreInvariant p n m → m.life x ≡ Live
      → (owner_part (m.memory (Local x)) ≡ 0) ⊎ (owner_part (m.memory (Local x)) ≡ block_of m.layout x + 1)
  live_owner x core live = elim (cases_Bool (is_immortal_row m.layout x)) [
    | inl immortal ↦ inr (omega (arith, core.immortal_words x immortal, immortal_block m.layout x immortal))
    | inr counted ↦
        row_owner (block_of m.layout x) (numbers_of m x)
        (subst (λ (l : Life). RowInvariant (block_of m.layout x) l (numbers_of m x)) live (core.rows x counted))
  ]

module _ {p : Accounts} {n : ℕ} {m : Machine} {t : ℕ} {a : Actor} {rest : List Duty} where
  -- The row of a load of a local word is live, so the word names no owner, or the thread of the row's block.
  finds_owner : (d : Duty) → AtDuty p n m t a d rest → FindsOwner m.layout d (m.memory (address_of m.layout t a.head d))
  finds_owner (RetainLoad x h) here =
      live_owner x here.core (elim (cases_Bool (is_immortal_row m.layout x)) [
        | inl immortal ↦ here.core.immortals_live x immortal
        | inr counted ↦ (alive_backed t a x here.core counted (head_of here)).life
      ])
  finds_owner (ReleaseLoad x h) here =
      live_owner x here.core (elim (cases_Bool (is_immortal_row m.layout x)) [
        | inl immortal ↦ here.core.immortals_live x immortal
        | inr counted ↦ (release_alive x h counted here).life
      ])
  finds_owner _ here = tt

module _ {p : Accounts} {n : ℕ} {m : Machine} {t : ℕ} {a : Actor} where
  -- A thread's next duty can rely on what `DutyWithin` says.
  pub duty_within : (d : Duty) (rest : List Duty) → Doing p n m t a d rest → IsSmall m.layout d → IsFew n m
      → DutyWithin m t a d
  duty_within d rest doing small few =
      let core = doing.kept.core in
      let here : AtDuty p n m t a d rest = record { core = core; found = doing.found; agenda = doing.agenda } in
      record {
        there = duty_there d here doing.alive small;
        head = head_small t a core doing.found;
        used = duty_used here;
        suits = duty_suits d here doing.alive few;
        overwrites = overwritten d here;
        owner = finds_owner d here;
      }

-- The world has `n` threads.
threads_in : (p : Module) (n : ℕ) (m : StepMachine) → CodeInvariant p n m → n ≡ length m.actors
threads_in p n m whole = sym whole.kept.core.threads ∙ length-map m.actors its_actor

-- A duty that fits its thread is within the world's bounds, whether the thread has it in its agenda or takes it up now.
does_within : (p : Module) (n : ℕ) (m : StepMachine) (t : ℕ) (a : StepActor) (d : Duty) (rest : List Duty)
    (place : Place)
    → (bounded : Bounded p n m) → n ≤ thread_limit → slice_get m.actors t ≡ Some a
    → DutyFits bounded.whole.accounts n m t a d rest place
    → IsWithin (world_of m) t a.actor d
does_within p n m t a d rest place bounded few found fits =
    let now = sitting a.actor (d ∷ rest) in
    let within : DutyWithin (with_actor (counting m) t now) t now d =
    duty_within d rest
    fits.doing (fits.small bounded.ranges.kinds (bounded.ranges.each t a.actor (its_found m t a found))).0
    (record { threads = few; cells = bounded.ranges.kinds }) in
    record {
      there = within.there;
      head = within.head;
      used = within.used;
      suits = within.suits;
    }

machine_within : (p : Module) (n : ℕ) (m : StepMachine) (t : ℕ) (a : StepActor) → Bounded p n m → n ≤ thread_limit
    → slice_get m.actors t ≡ Some a → StepsWithin (world_of m) t a
machine_within p n m t a bounded few found choice d rest place is =
    does_within p n m t a d rest (place (found_by (counting m) t a.actor d)) bounded few found
    (subst (ActionFits bounded.whole.accounts n m t a) is (action_fits p n m t a choice bounded.whole found))

-- ---- reachable worlds

reached_bounded : (p : Module) (w : World) (r : IsReachable p w)
    → Bounded p (1 + length r.calls) (machine_after (first_machine p r.states r.rows r.calls) r.events)
reached_bounded p w r =
    bounded_after p (1 + length r.calls) (first_machine p r.states r.rows r.calls) r.events (record {
      whole =
          first_code_invariant p r.states r.rows r.calls r.fits r.accepted r.states_true r.calls_fit r.some_rows
          r.most_rows;
      ranges = first_ranges p r.states r.rows r.calls r.fits;
    })

-- Each duty that a thread of a reachable world may do next is within the world's bounds.
pub steps_within : (p : Module) (w : World) (t : ℕ) (a : StepActor) → IsReachable p w → slice_get w.actors t ≡ Some a
    → StepsWithin w t a
steps_within p w t a r found =
    let m = machine_after (first_machine p r.states r.rows r.calls) r.events in
    let there : slice_get m.actors t ≡ Some a = sym (ap (λ (v : World). slice_get v.actors t) r.reached) ∙ found in
    subst (λ (v : World). StepsWithin v t a) (sym r.reached)
    (machine_within p (1 + length r.calls) m t a (reached_bounded p w r) (omega (arith, r.calls_fit.most)) there)

-- ---- the size of a world

pub same_functions : (p : Module) (w : World) → IsReachable p w → w.functions ≡ p.functions
same_functions p w r = ap (λ (v : World). v.functions) r.reached ∙ (reached_bounded p w r).whole.functions

pub true_states : (p : Module) (w : World) → IsReachable p w → AreTrueWhereReached p w.states
true_states p w r =
    subst (λ (v : World). AreTrueWhereReached p v.states) (sym r.reached) (reached_bounded p w r).whole.states_true

threads_are : (p : Module) (w : World) (r : IsReachable p w) → length w.actors ≡ 1 + length r.calls
threads_are p w r =
    let m = machine_after (first_machine p r.states r.rows r.calls) r.events in
    ap (λ (v : World). length v.actors) r.reached
    ∙ sym (threads_in p (1 + length r.calls) m (reached_bounded p w r).whole)

pub some_threads : (p : Module) (w : World) → IsReachable p w → 1 < length w.actors
some_threads p w r = omega (arith, threads_are p w r, r.calls_fit.some)

pub few_threads : (p : Module) (w : World) → IsReachable p w → length w.actors ≤ thread_limit
few_threads p w r = omega (arith, threads_are p w r, r.calls_fit.most)

pub some_rows : (p : Module) (w : World) → IsReachable p w → 0 < w.layout.rows
some_rows p w r =
    let same : w.layout.rows ≡ (machine_after (first_machine p r.states r.rows r.calls) r.events).layout.rows =
    ap (λ (v : World). v.layout.rows) r.reached in
    omega (arith, same, (reached_bounded p w r).whole.kept.core.some_rows)

pub few_rows : (p : Module) (w : World) → IsReachable p w → w.layout.rows ≤ row_limit
few_rows p w r =
    let same : w.layout.rows ≡ (machine_after (first_machine p r.states r.rows r.calls) r.events).layout.rows =
    ap (λ (v : World). v.layout.rows) r.reached in
    omega (arith, same, (reached_bounded p w r).whole.kept.core.few_rows)

pub few_in_all : (p : Module) (w : World) → IsReachable p w → row_count w.layout ≤ total_limit
few_in_all p w r =
    let m = machine_after (first_machine p r.states r.rows r.calls) r.events in
    let same : row_count w.layout ≡ row_count m.layout = ap (λ (v : World). row_count v.layout) r.reached in
    let whole = (reached_bounded p w r).whole in
    omega (arith, same, rows_low whole.kept.core)

pub workers_are : (p : Module) (w : World) → IsReachable p w → length w.actors ≡ 1 + w.layout.workers
workers_are p w r =
    let m = machine_after (first_machine p r.states r.rows r.calls) r.events in
    let same : w.layout.workers ≡ m.layout.workers = ap (λ (v : World). v.layout.workers) r.reached in
    omega (arith, threads_are p w r, same, (reached_bounded p w r).whole.kept.core.workers)

-- ---- open calls

few_outer : (program : Program) (place : Place) (locked : Option ℕ) (account : Account)
    → PlaceSays program place locked account → length (outer_of place) < depth_limit
few_outer program (Idle left) locked account says = omega arith
few_outer program (InCall context at variables) locked account says = says.1.is_call.shallow
few_outer program (Inside context at variables stage) locked account says = says.1.is_call.shallow
few_outer program (Stopping lock calls) locked account says = omega arith
few_outer program Exiting locked account says = omega arith

-- Each thread has few calls open.
pub few_calls : (p : Module) (w : World) (t : ℕ) (a : StepActor) → IsReachable p w → slice_get w.actors t ≡ Some a
    → length (outer_of a.place) < depth_limit
few_calls p w t a r found =
    let m = machine_after (first_machine p r.states r.rows r.calls) r.events in
    let there : slice_get m.actors t ≡ Some a = sym (ap (λ (v : World). slice_get v.actors t) r.reached) ∙ found in
    let whole = (reached_bounded p w r).whole in
    few_outer (program_of m.functions m.states a) a.place a.actor.locked (whole.accounts t) (whole.coded t a there).says
