-- The invariant of a row implies that the row's counts agree.
use Rattle.std.proofs.Common.{◌≡◌, ◌≢◌, ℕ, ◌+◌, ◌<◌, ◌≤◌, ◌⊎◌, Bool, true, false, inl, inr, refl, ap, arith}
use Rattle.std.specs.Prelude.{◌==◌, ◌||◌}
use Rattle.brc_word.specs.declared.values.TheConstants.{NOBODY, DEFAULT, QUEUED, MERGED}
use Rattle.brc_word.specs.Words.{owner_part, local_part, biased_part, phase_part, bias}
use Rattle.brc_model.specs.declared.duty.Reason.TheVariants.{Own}
use Rattle.brc_model.specs.declared.duty.Duty.{Duty}
use Rattle.brc_model.specs.declared.duty.Duty.TheVariants.{DecideAtZero, MergeSwap, MergeLoad, MergeExchange}
use Rattle.brc_model.specs.Machine.{Life, Unborn, Live, Dying, Closed, Machine}
use Rattle.brc_model.specs.Agreement.{has_swapped, is_merging, decides_or_merges, HasDuty, SomeThreadHas, OwnerHas, IsCountedLocally, IsPhase, AgreesAt, IsFreeOf}
use Rattle.brc_model.specs.References.{one_if}
use Rattle.brc_model.specs.RowInvariant.{decides, merges, weight, Numbers, Phased, IsDefault, IsQueued, Decided, AtZero, AboveZero, Mode, InOwned, InSwapped, InMerged, IsLive, IsDead, RowInvariant}
use Rattle.brc_model.specs.Accounts.{Accounts}
use Rattle.brc_model.specs.Invariant.{numbers_of, CoreInvariant}
use Rattle.brc_model.proofs.Work.HasDuties.{Weighs, some_weighs, is_open}
use Rattle.brc_model.proofs.Work.Deciders.{decider_owns}
use Rattle.brc_model.specs.Layout.{block_of, IsCounted}

or_first : (a b : Bool) → (a || b) ≡ false → a ≡ false
or_first true b e = absurd cc
or_first false b e = refl

-- What the invariant of a row says of its local count until the row is merged.
data LocalSays (owner : ℕ) (n : Numbers) : Type 0 where
  CountsIt : owner_part n.local ≡ owner + 1 → 1 ≤ local_part n.local → LocalSays owner n
  IsDecided : n.deciding ≡ 1 → LocalSays owner n
  IsCarried : n.merging ≡ 1 → LocalSays owner n

-- What it says of a live row.
record LiveSays (owner : ℕ) (n : Numbers) : Type 0 where
  total : local_part n.local + biased_part n.shared + n.carried ≡ n.references + n.mark + n.waiting + bias
  default_none : phase_part n.shared ≡ DEFAULT → n.mark + n.waiting ≡ 0
  default_counts : phase_part n.shared ≡ DEFAULT → bias ≤ biased_part n.shared
  queued_one : phase_part n.shared ≡ QUEUED → n.mark + n.waiting ≡ 1
  merged_free : phase_part n.shared ≡ MERGED → n.local ≡ NOBODY
  merged_counts : phase_part n.shared ≡ MERGED → bias < biased_part n.shared
  phase : IsPhase (phase_part n.shared)
  local : phase_part n.shared ≢ MERGED → LocalSays owner n

phased_says : (owner : ℕ) (n : Numbers) → IsLive owner n → LocalSays owner n → Phased n → LiveSays owner n
phased_says owner n live local (IsDefault p w b) = record {
  total = live.sum;
  default_none = λ e. w;
  default_counts = λ e. b;
  queued_one = λ e. absurd (omega (arith, p, e));
  merged_free = λ e. absurd (omega (arith, p, e));
  merged_counts = λ e. absurd (omega (arith, p, e));
  phase = inl p;
  local = λ ne. local;
}
phased_says owner n live local (IsQueued p w) = record {
  total = live.sum;
  default_none = λ e. absurd (omega (arith, p, e));
  default_counts = λ e. absurd (omega (arith, p, e));
  queued_one = λ e. w;
  merged_free = λ e. absurd (omega (arith, p, e));
  merged_counts = λ e. absurd (omega (arith, p, e));
  phase = inr (inl p);
  local = λ ne. local;
}

decided_says : (owner : ℕ) (n : Numbers) → owner_part n.local ≡ owner + 1 → Decided n → LocalSays owner n
decided_says owner n owned (AtZero z d) = IsDecided d
decided_says owner n owned (AboveZero z d) = CountsIt owned z

mode_says : (owner : ℕ) (n : Numbers) → IsLive owner n → Mode owner n → LiveSays owner n
mode_says owner n live (InOwned o) = phased_says owner n live (decided_says owner n o.owned o.decided) o.phased
mode_says owner n live (InSwapped s) = phased_says owner n live (IsCarried s.merging) s.phased
mode_says owner n live (InMerged g) = record {
  total = live.sum;
  default_none = λ e. absurd (omega (arith, g.phase, e));
  default_counts = λ e. absurd (omega (arith, g.phase, e));
  queued_one = λ e. absurd (omega (arith, g.phase, e));
  merged_free = λ e. g.local;
  merged_counts = λ e. omega (arith, g.counted);
  phase = inr (inr g.phase);
  local = λ ne. absurd (ne g.phase);
}

-- What it says of a row, by the row's life.
record RowSays (owner : ℕ) (l : Life) (n : Numbers) : Type 0 where
  total : local_part n.local + biased_part n.shared + n.carried ≡ n.references + n.mark + n.waiting + bias
  live : l ≡ Live → LiveSays owner n

row_says : (owner : ℕ) (l : Life) (n : Numbers) → RowInvariant owner l n → RowSays owner l n
row_says owner Unborn n row =
    record {
      total = omega (arith, row.local, row.shared, row.mark, row.references, row.waiting, row.carried);
      live = λ e. absurd cc;
    }
row_says owner Live n row = let says = mode_says owner n row row.mode in record { total = row.sum; live = λ e. says }
row_says owner (Dying t) n row =
    record {
      total = omega (arith, row.local, row.shared, row.mark, row.references, row.waiting, row.carried);
      live = λ e. absurd cc;
    }
row_says owner Closed n row =
    record {
      total = omega (arith, row.local, row.shared, row.mark, row.references, row.waiting, row.carried);
      live = λ e. absurd cc;
    }

-- ---- which thread has the duty

decides_only : (x : ℕ) (d : Duty) → decides_or_merges x d ≡ false → decides x d ≡ 0
decides_only x (DecideAtZero y) other = ap one_if (or_first (y == x) (is_merging x (DecideAtZero y)) other)
decides_only x (MergeSwap y Own) other = ap one_if other
decides_only x _ other = refl

swaps_only : (x : ℕ) (d : Duty) → has_swapped x d ≡ false → merges x d ≡ 0
swaps_only x (MergeLoad y c r) other = ap one_if other
swaps_only x (MergeExchange y c w r) other = ap one_if other
swaps_only x _ other = refl

merges_only : (x : ℕ) (d : Duty) → decides_or_merges x d ≡ false → merges x d ≡ 0
merges_only x (MergeLoad y c r) other = ap one_if other
merges_only x (MergeExchange y c w r) other = ap one_if other
merges_only x _ other = refl

-- A thread whose agenda weighs something has a duty of that sort.
has_duty : (m : Machine) (f : Duty → ℕ) (is_such : Duty → Bool) → ((d : Duty) → is_such d ≡ false → f d ≡ 0)
    → (it : Weighs f m.actors) → HasDuty m it.who is_such
has_duty m f is_such only it =
    record { actor = it.which; found = it.found; listed = is_open f is_such only it.which it.some }

module _ {p : Accounts} {n : ℕ} {m : Machine} where
  -- The thread that decides about a row is the row's owner.
  owner_decides : (x : ℕ) → CoreInvariant p n m → weight (decides x) m.actors ≡ 1 → OwnerHas m x (decides_or_merges x)
  owner_decides x core one =
      let it = some_weighs (decides x) m.actors (omega (arith, one)) in
      let owns = decider_owns it.who x it.which core it.found it.some in
      (it.who, owns.owner, has_duty m (decides x) (decides_or_merges x) (decides_only x) it)

  default_local : (x : ℕ) → CoreInvariant p n m → LocalSays (block_of m.layout x) (numbers_of m x)
      → IsCountedLocally m x ⊎ SomeThreadHas m (decides_or_merges x)
  default_local x core (CountsIt owned some) = inl (record { owner = owned; counted = some })
  default_local x core (IsDecided one) = let owner = owner_decides x core one in inr (owner.0, owner.2)
  default_local x core (IsCarried one) =
      let it = some_weighs (merges x) m.actors (omega (arith, one)) in
      inr (it.who, has_duty m (merges x) (decides_or_merges x) (merges_only x) it)

  queued_local : (x : ℕ) → CoreInvariant p n m → LocalSays (block_of m.layout x) (numbers_of m x)
      → IsCountedLocally m x ⊎ OwnerHas m x (decides_or_merges x) ⊎ SomeThreadHas m (has_swapped x)
  queued_local x core (CountsIt owned some) = inl (record { owner = owned; counted = some })
  queued_local x core (IsDecided one) = inr (inl (owner_decides x core one))
  queued_local x core (IsCarried one) =
      let it = some_weighs (merges x) m.actors (omega (arith, one)) in
      inr (inr (it.who, has_duty m (merges x) (has_swapped x) (swaps_only x) it))

  -- ---- every row

  -- The counts of each row agree, and each phase implies what it says.
  pub agrees_at : (x : ℕ) → CoreInvariant p n m → IsCounted m.layout x → AgreesAt m x
  agrees_at x core pos =
      let says = row_says (block_of m.layout x) (m.life x) (numbers_of m x) (core.rows x pos) in
      record {
        total = omega (arith, says.total);
        phase = λ live. (says.live live).phase;
        in_default = λ live e.
            let it = says.live live in
            record {
              awaiting_none = it.default_none e;
              counts = it.default_counts e;
              local = default_local x core (it.local (λ three. absurd (omega (arith, e, three))));
            };
        in_queued = λ live e.
            let it = says.live live in
            record {
              awaiting_one = it.queued_one e;
              local = queued_local x core (it.local (λ three. absurd (omega (arith, e, three))));
            };
        in_merged = λ live e.
            let it = says.live live in
            record { unowned = it.merged_free e; counts = it.merged_counts e };
      }

free_row : (owner : ℕ) (l : Life) (n : Numbers) → RowInvariant owner l n → (l ≡ Live → ⊥) → (l ≡ Unborn → ⊥) → IsDead n
free_row owner Unborn n row alive born = absurd (born refl)
free_row owner Live n row alive born = absurd (alive refl)
free_row owner (Dying t) n row alive born = row
free_row owner Closed n row alive born = row

module _ {p : Accounts} {n : ℕ} {m : Machine} where
  -- A dying or closed row has no reference, and no decrement of it is pending.
  pub is_free_of : (x : ℕ) → CoreInvariant p n m → IsCounted m.layout x → (m.life x ≡ Live → ⊥)
      → (m.life x ≡ Unborn → ⊥) → IsFreeOf m x
  is_free_of x core pos alive born =
      let dead = free_row (block_of m.layout x) (m.life x) (numbers_of m x) (core.rows x pos) alive born in
      record { references = dead.references; awaiting_none = omega (arith, dead.mark, dead.waiting) }
