-- Bounds of the words that a duty finds at a row: a shared count stays near its bias, and the word suits what the duty
-- does with it.
use Rattle.std.proofs.Common.{◌≡◌, ◌≢◌, ℕ, zero, suc, ◌+◌, ◌*◌, ◌<◌, ◌≤◌, Bool, true, List, refl, ap, ◌∙◌, arith, inl, inr}
use Rattle.std.specs.Prelude.{◌==◌, ◌&&◌}
use Rattle.std.proofs.lemmas.Bool.{eq-eqb}
use Rattle.brc_word.specs.Words.{owner_part, local_part, biased_part, phase_part, bias}
use Rattle.brc_model.specs.declared.duty.Holding.{Holding}
use Rattle.brc_model.specs.declared.duty.Duty.{Duty}
use Rattle.brc_model.specs.declared.duty.Duty.TheVariants.{RetainStore, RetainAdd, ReleaseLoad, ReleaseStore, SharedLoad, SharedExchange, MergeLoad, MergeExchange, TakeFound, SettleCell, CellLoad, CellSwap, TakeField, CloseResource, LendField, ReturnField}
use Rattle.brc_model.specs.declared.address.Address.TheVariants.{Local, Shared, Cell}
use Rattle.brc_model.specs.Duties.{address_of, counts_locally}
use Rattle.brc_model.specs.declared.actor.Actor.{Actor}
use Rattle.brc_model.specs.Machine.{Machine, is_running}
use Rattle.brc_model.specs.Within.{Suits}
use Rattle.brc_model.specs.RowInvariant.{carries, weight, Numbers, Phased, IsDefault, IsQueued, InOwned, InSwapped, InMerged, IsLive}
use Rattle.brc_model.specs.Accounts.{Accounts}
use Rattle.brc_model.specs.Invariant.{AtDuty, numbers_of, CoreInvariant}
use Rattle.brc_model.specs.References.{reference_of}
use Rattle.brc_model.proofs.Basics.Bag.{held-le-references_to}
use Rattle.brc_model.proofs.Objects.RowSteps.{shared_range}
use Rattle.brc_model.proofs.Frame.Alive.{Alive, alive_backed}
use Rattle.brc_model.proofs.Objects.ResourcesLent.{lending_finds, returning_finds}
use Rattle.brc_model.proofs.Objects.ResourcesSettled.{taking_finds, closing_finds}
use Rattle.brc_model.proofs.Frame.Cells.{stolen_held}
use Rattle.brc_model.proofs.Frame.Leaves.{head_of, load_alive, exchange_alive, merge_load_alive, merge_alive}
use Rattle.brc_model.proofs.Stepping.Retains.{counts_owner, count_above, weight_here}
use Rattle.brc_model.proofs.Stepping.Releases.{release_alive}
use Rattle.brc_model.proofs.Work.MergesOnce.{carried_at_load, carried_is}
use Rattle.brc_model.proofs.Limits.Ways.{most_each}
use Rattle.brc_model.proofs.Limits.FewHeld.{references_few}
use Rattle.brc_model.proofs.Limits.Ranges.{referenced_small, cell_small}
use Rattle.brc_model.specs.Ranges.{HasFewCells}
use Rattle.brc_model.specs.Limits.{thread_limit, cell_limit, total_limit}
use Rattle.std.proofs.lemmas.Bool.{cases_Bool}
use Rattle.brc_model.specs.Layout.{row_count, block_of, is_immortal_row, IsCounted}
use Rattle.brc_model.proofs.Stepping.FitsAfter.{agenda_here, NotGone}
use Rattle.brc_model.proofs.Basics.Blocks.{size_within, thread_there}
use Rattle.brc_model.proofs.Basics.FoundMarks.{lowest_used}

-- ---- the shared word of a live row

phased_few : (k : Numbers) → Phased k → (k.mark + k.waiting ≤ 1) × (phase_part k.shared ≢ 1)
phased_few k (IsDefault phase none above) = (omega (arith, none), λ e. absurd (omega (arith, phase, e)))
phased_few k (IsQueued phase one) = (omega (arith, one), λ e. absurd (omega (arith, phase, e)))

live_few : (owner : ℕ) (k : Numbers) → IsLive owner k → (k.mark + k.waiting ≤ 1) × (phase_part k.shared ≢ 1)
live_few owner k live =
    elim live.mode [
      | InOwned o ↦ phased_few k o.phased
      | InSwapped s ↦ phased_few k s.phased
      | InMerged g ↦ (g.awaits, λ e. absurd (omega (arith, g.phase, e)))
    ]

-- The machine has few threads, and few cells.
pub record IsFew (n : ℕ) (m : Machine) : Type 0 where
  pub threads : n ≤ thread_limit
  pub cells : HasFewCells m

-- A live row has few references, so its biased shared count is near the bias.
record NearBias (m : Machine) (x : ℕ) : Type 0 where
  high : biased_part (m.memory (Shared x)) + weight (carries x) m.actors
      ≤ bias + thread_limit * most_each + cell_limit * total_limit + 1
  some : 1 ≤ biased_part (m.memory (Shared x))
  state : phase_part (m.memory (Shared x)) ≢ 1

module _ {p : Accounts} {n : ℕ} {m : Machine} where
  -- A live row with counts is counted, since an immortal row's local word is the immortal one.
  alive_counted : (x : ℕ) → CoreInvariant p n m → Alive m x → IsCounted m.layout x
  alive_counted x core alive = elim (cases_Bool (is_immortal_row m.layout x)) [
    | inl immortal ↦
        let word = core.immortal_words x immortal in
        absurd (elim alive.live.mode [
          | InOwned o ↦ omega (arith, o.low, word)
          | InSwapped s ↦ omega (arith, s.local, word)
          | InMerged s ↦ omega (arith, s.local, word)
        ])
    | inr counted ↦ counted
  ]

  near_bias : (x : ℕ) → CoreInvariant p n m → IsFew n m → Alive m x → NearBias m x
  near_bias x core few alive =
      let says = live_few (block_of m.layout x) (numbers_of m x) alive.live in
      record {
        high =
            omega (
              arith,
              alive.live.sum,
              says.0,
              references_few x core few.cells (alive_counted x core alive),
              few.threads,
            );
        some = shared_range (block_of m.layout x) (numbers_of m x) alive.live;
        state = says.1;
      }

-- ---- the word that a duty finds

module _ {p : Accounts} {n : ℕ} {m : Machine} {t : ℕ} {a : Actor} {rest : List Duty} where
  release_suits : (x : ℕ) (h : Holding) → AtDuty p n m t a (ReleaseLoad x h) rest → NotGone a
      → is_running a.status ≡ true → owner_part (m.memory (Local x)) ≡ t + 1 → 1 ≤ local_part (m.memory (Local x))
  release_suits x h here alive runs owner = elim (cases_Bool (is_immortal_row m.layout x)) [
    | inl immortal ↦ omega (arith, here.core.immortal_words x immortal)
    | inr counted ↦
        let living = release_alive x h counted here in
        let counts : counts_locally t (is_running a.status) (m.memory (Local x)) ≡ true =
        ap (λ (b : Bool). b && (owner_part (m.memory (Local x)) == t + 1)) runs
        ∙ eq-eqb (owner_part (m.memory (Local x))) (t + 1) owner in
        count_above t x a here.core here.found (counts_owner m t a x counts living)
        (weight_here x here (eq-eqb x x refl) refl) living
  ]

-- A cell's word is at most the number of all rows.
cell_low : (word rows : ℕ) → ((y : ℕ) → word ≡ suc y → y < rows) → word ≤ rows
cell_low zero rows low = omega arith
cell_low (suc y) rows low = omega (arith, low y refl)

module _ {p : Accounts} {n : ℕ} {m : Machine} {t : ℕ} {a : Actor} {rest : List Duty} where
  pub duty_suits : (d : Duty) → AtDuty p n m t a d rest → NotGone a → IsFew n m
      → Suits t (is_running a.status) (row_count m.layout) d (m.memory (address_of m.layout t a.head d))
  duty_suits (RetainStore x h w) here alive few =
      let (pos, backed, owns, same, some, low) = head_of here in low
  duty_suits (RetainAdd x h) here alive few =
      let fits = head_of here in
      let near = near_bias x here.core few (alive_backed t a x here.core fits.0 fits.1) in
      (record { low = omega (arith, near.high); state = near.state }, omega (arith, near.high))
  duty_suits (ReleaseLoad x h) here alive few = release_suits x h here alive
  duty_suits (ReleaseStore x w) here alive few = (head_of here).3
  duty_suits (SharedLoad x r) here alive few =
      let near = near_bias x here.core few (load_alive x r here) in
      (record { low = omega (arith, near.high); state = near.state }, near.some)
  duty_suits (SharedExchange x r w) here alive few = λ same.
      let near = near_bias x here.core few (exchange_alive x w r here) in
      let word : biased_part (m.memory (Shared x)) ≡ biased_part w = ap biased_part same in (
        record { low = omega (arith, near.high, word); state = λ e. near.state (ap phase_part same ∙ e) },
        omega (arith, near.some, word),
      )
  duty_suits (MergeLoad x c r) here alive few =
      let near = near_bias x here.core few (merge_load_alive x c r here) in (
        (head_of here).1,
        record { low = omega (arith, near.high); state = near.state },
        omega (arith, near.high, carried_at_load x c r here),
      )
  duty_suits (MergeExchange x c w r) here alive few = (
    (head_of here).1,
    λ same.
        let near = near_bias x here.core few (merge_alive x c w r here) in
        let word : biased_part (m.memory (Shared x)) ≡ biased_part w = ap biased_part same in (
          record { low = omega (arith, near.high, word); state = λ e. near.state (ap phase_part same ∙ e) },
          omega (arith, near.high, word, carried_is x c w r here),
        ),
  )
  duty_suits (TakeFound w marks) here alive few =
      let used = lowest_used marks a.used w (head_of here) (agenda_here here alive).1 in
      let block = (here.core.uses t a here.found).few in
      (head_of here, omega (arith, used, block, size_within m.layout t (thread_there t a here.core here.found)))
  duty_suits (SettleCell x i k) here alive few =
      cell_low (m.memory (Cell x i)) (row_count m.layout) (λ y is. cell_small x i y here.core is)
  duty_suits (CellLoad x i) here alive few =
      cell_low (m.memory (Cell x i)) (row_count m.layout) (λ y is. cell_small x i y here.core is)
  duty_suits (CellSwap x i y h) here alive few = (
    referenced_small y here.core (omega (
      arith,
      stolen_held x i y h here,
      held-le-references_to (reference_of t h y) m.abstract.references,
    )),
    cell_low (m.memory (Cell x i)) (row_count m.layout) (λ z is. cell_small x i z here.core is),
  )
  duty_suits (TakeField x) here alive few = taking_finds p n m t a x rest here
  duty_suits (CloseResource x) here alive few = closing_finds p n m t a x rest here
  duty_suits (LendField x) here alive few = lending_finds p n m t a x rest here
  duty_suits (ReturnField x) here alive few = returning_finds p n m t a x rest here
  duty_suits _ here alive few = tt
