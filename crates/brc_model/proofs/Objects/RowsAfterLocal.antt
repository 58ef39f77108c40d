-- A swap of a cell, a retain, and a release by the local word keep the row's invariant.
use Rattle.std.proofs.Common.{◌≡◌, ℕ, ◌+◌, ◌-◌, ◌≤◌, Bool, false, cond, List, [], ◌∷◌, ◌++◌, refl, sym, ap, ◌∙◌, arith, inl, inr}
use Rattle.std.specs.Prelude.{◌&&◌, nat_lt}
use Rattle.std.proofs.lemmas.Bool.Decides.{eqb_tells}
use Rattle.brc_model.specs.declared.duty.Holding.{Holding}
use Rattle.brc_model.specs.declared.duty.Holding.TheVariants.{ByVariable, AsCaller, InFlight}
use Rattle.brc_model.specs.AbstractState.{without, references_to, AbstractState, moved}
use Rattle.brc_word.specs.declared.values.TheConstants.{ONE_REFERENCE}
use Rattle.brc_word.specs.Words.{most_local, local_part, is_immortal_word, fresh_word}
use Rattle.brc_model.specs.declared.duty.Reason.TheVariants.{Own}
use Rattle.brc_model.specs.declared.duty.Duty.{Duty}
use Rattle.brc_model.specs.declared.duty.Duty.TheVariants.{RetainLoad, RetainStore, RetainAdd, ReleaseLoad, ReleaseStore, DecideAtZero, SharedLoad, MergeSwap, Die, CellSwap}
use Rattle.brc_model.specs.declared.address.Address.TheVariants.{Local, Shared, Cell}
use Rattle.brc_model.specs.Duties.{counts_locally}
use Rattle.brc_model.specs.declared.actor.Actor.{Actor}
use Rattle.brc_model.specs.Machine.{Live, Dying, Machine}
use Rattle.brc_model.specs.Moves.{gain, lose, put_in_flight}
use Rattle.brc_model.proofs.Basics.Bag.{references_to-cons, same_holding-refl}
use Rattle.brc_model.specs.References.{reference_of}
use Rattle.brc_model.specs.Accounts.{Accounts}
use Rattle.brc_model.specs.Invariant.{AtDuty, numbers_of}
use Rattle.brc_model.proofs.Objects.RowSteps.{local_up, local_down, local_to_zero, zero_dies, shared_gained}
use Rattle.brc_model.proofs.Objects.RowsAfterStep.{head_fits_of, KeepsRow, weighed, row_becomes, row_stays}
use Rattle.brc_model.proofs.Objects.RowsAfterElsewhere.{none_apart, apart_if, all_light, found_apart}
use Rattle.brc_model.proofs.Frame.CellsHeld.{cell_held}
use Rattle.brc_model.proofs.Frame.Cells.{swapped_references, stolen_held}
use Rattle.brc_model.proofs.Objects.RowsAfterOwn.{own, one_own, written_here, gives_up, IsLost, is_lost, lives_so, lives_backed, counted_word, row_apart}
use Rattle.brc_model.specs.Layout.{block_of, IsCounted}

-- ---- swapping a cell

module _ {p : Accounts} {n : ℕ} {m : Machine} {t : ℕ} {a : Actor} {rest : List Duty} where
  -- The row's invariant holds after `ItemStored`.
  pub row_after_cell_swap : {y i z : ℕ} {h : Holding} → IsCounted m.layout y → AtDuty p n m t a (CellSwap y i z h) rest
      → KeepsRow m t a (CellSwap y i z h) rest y
  row_after_cell_swap {y = y} {i = i} {z = z} {h = h} some s =
      row_apart s y some refl (found_apart y (m.memory (Cell y i))) (λ life state. refl) (record {
        local = refl;
        shared = refl;
        mark = refl;
        references =
            sym (swapped_references m.abstract t z y i (m.memory (Cell y i)) y h (stolen_held y i z h s)
            (λ v is. omega (arith, cell_held y i v s.core is)));
      })

  -- ---- retaining

  -- The row's invariant holds after `OwnerRetains`, `FullOwnerRetains` and `OtherRetains`.
  pub row_after_retain_load : {y : ℕ} {h : Holding} → IsCounted m.layout y → AtDuty p n m t a (RetainLoad y h) rest
      → KeepsRow m t a (RetainLoad y h) rest y
  row_after_retain_load {y = y} {h = h} some s =
      let fits = head_fits_of s in
      let w = m.memory (Local y) in
      let lives = lives_backed s y some fits in
      let counted : is_immortal_word w ≡ false = counted_word (block_of m.layout y) (numbers_of m y) lives.invariant in
      let next =
      apart_if (is_immortal_word w) (none_apart y)
      (apart_if (counts_locally t _ w && nat_lt (local_part w) most_local)
      (all_light y (RetainStore y h w ∷ []) refl) (all_light y (RetainAdd y h ∷ []) refl)) in
      row_apart s y some refl next (λ life state. refl) (record {
        local = sym (written_here m.memory (Local y) w (own y));
        shared = refl;
        mark = refl;
        references =
            sym (ap (λ (b : Bool). references_to y (moved m.abstract (cond b (gain t h y) [])).references) counted);
      })

  -- The row's invariant holds after `LocalRaised`.
  pub row_after_retain_store : {y : ℕ} {h : Holding} {w : ℕ} → AtDuty p n m t a (RetainStore y h w) rest
      → KeepsRow m t a (RetainStore y h w) rest y
  row_after_retain_store {y = y} {h = h} {w = w} s =
      let fits = head_fits_of s in
      let k = numbers_of m y in
      let lives = lives_backed s y fits.0 fits.1 in
      let weights = weighed s [] refl y in
      let low : local_part (m.memory (Local y)) ≡ local_part w = ap local_part fits.3 in
      let one = one_own y in
      row_becomes m t a (RetainStore y h w) rest y [] refl Live lives.is_live
      (record k { local = k.local + 1; references = k.references + 1 }) (record {
        local = omega (arith, written_here m.memory (Local y) (w + 1) (own y), fits.3);
        shared = refl;
        mark = refl;
        references = omega (arith, references_to-cons y (reference_of t h y) m.abstract.references, one);
        waiting = omega (arith, weights.waiting);
        carried = omega (arith, weights.carried);
        merging = omega (arith, weights.merging);
        deciding = omega (arith, weights.deciding);
      }) (local_up (block_of m.layout y) k lives.invariant (omega (arith, low, fits.4)) (omega (arith, low, fits.5)))

  -- The row's invariant holds after `SharedRaised`.
  pub row_after_retain_add : {y : ℕ} {h : Holding} → AtDuty p n m t a (RetainAdd y h) rest
      → KeepsRow m t a (RetainAdd y h) rest y
  row_after_retain_add {y = y} {h = h} s =
      let fits = head_fits_of s in
      let k = numbers_of m y in
      let lives = lives_backed s y fits.0 fits.1 in
      let weights = weighed s [] refl y in
      let one = one_own y in
      row_becomes m t a (RetainAdd y h) rest y [] refl Live lives.is_live
      (record k { shared = k.shared + ONE_REFERENCE; references = k.references + 1 }) (record {
        local = refl;
        shared = sym (written_here m.memory (Shared y) (m.memory (Shared y) + ONE_REFERENCE) (own y));
        mark = refl;
        references = omega (arith, references_to-cons y (reference_of t h y) m.abstract.references, one);
        waiting = omega (arith, weights.waiting);
        carried = omega (arith, weights.carried);
        merging = omega (arith, weights.merging);
        deciding = omega (arith, weights.deciding);
      }) (shared_gained (block_of m.layout y) k lives.invariant)

-- ---- releasing

-- A reference that its holder puts in flight is still one reference to the object.
passed_on : (t y : ℕ) (h : Holding) (p : AbstractState) → IsLost p.references (reference_of t h y)
    → references_to y p.references ≡ references_to y (moved p (put_in_flight t h y ++ [])).references
passed_on t y InFlight p lost = refl
passed_on t y AsCaller p lost =
    let one = one_own y in
    omega (
      arith,
      references_to-cons y (reference_of t InFlight y) (without (reference_of t AsCaller y) p.references),
      lost.less,
      one,
    )
passed_on t y (ByVariable depth v) p lost =
    let one = one_own y in
    omega (
      arith,
      references_to-cons y (reference_of t InFlight y)
          (without (reference_of t (ByVariable depth v) y) p.references),
      lost.less,
      one,
    )

module _ {p : Accounts} {n : ℕ} {m : Machine} {t : ℕ} {a : Actor} {rest : List Duty} where
  -- The row's invariant holds after `OwnerReleases` and `OtherReleases`.
  pub row_after_release_load : {y : ℕ} {h : Holding} → IsCounted m.layout y → AtDuty p n m t a (ReleaseLoad y h) rest
      → KeepsRow m t a (ReleaseLoad y h) rest y
  row_after_release_load {y = y} {h = h} some s =
      let w = m.memory (Local y) in
      let lost =
      is_lost m.abstract.references (reference_of t h y) (gives_up s h y (rw (same_holding-refl h, own y) refl) refl) in
      let lives = lives_so s y some (omega (arith, lost.before)) in
      let counted : is_immortal_word w ≡ false = counted_word (block_of m.layout y) (numbers_of m y) lives.invariant in
      let next =
      apart_if (is_immortal_word w) (none_apart y)
      (apart_if (counts_locally t _ w) (all_light y (ReleaseStore y w ∷ []) refl)
      (all_light y (SharedLoad y Own ∷ []) refl)) in
      row_apart s y some refl next (λ life state. refl) (record {
        local = sym (written_here m.memory (Local y) w (own y));
        shared = refl;
        mark = refl;
        references =
            passed_on t y h m.abstract lost ∙ sym
            (ap (λ (b : Bool). references_to y
            (moved m.abstract (put_in_flight t h y ++ cond b (lose t y) [])).references) counted);
      })

  -- The row's invariant holds after `LocalLowered` and `LocalReachesZero`.
  pub row_after_release_store : {y w : ℕ} → AtDuty p n m t a (ReleaseStore y w) rest
      → KeepsRow m t a (ReleaseStore y w) rest y
  row_after_release_store {y = y} {w = w} s =
      let fits = head_fits_of s in
      let k = numbers_of m y in
      let lost =
      is_lost m.abstract.references (reference_of t InFlight y) (gives_up s InFlight y (rw (own y) refl) refl) in
      let lives = lives_so s y fits.0 (omega (arith, lost.before)) in
      let word = written_here m.memory (Local y) (w - 1) (own y) in
      let low : local_part (m.memory (Local y)) ≡ local_part w = ap local_part fits.2 in
      let one = one_own y in
      elim (eqb_tells (local_part w) 1) [
        | inl last ↦
            let weights = weighed s (DecideAtZero y ∷ []) (rw last.0 refl) y in
            row_becomes m t a (ReleaseStore y w) rest y (DecideAtZero y ∷ []) (rw last.0 refl) Live lives.is_live
            (record k { local = k.local - 1; references = k.references - 1; deciding = k.deciding + 1 }) (record {
              local = omega (arith, word, fits.2);
              shared = refl;
              mark = refl;
              references = omega (arith, lost.less);
              waiting = omega (arith, weights.waiting);
              carried = omega (arith, weights.carried);
              merging = omega (arith, weights.merging);
              deciding = omega (arith, weights.deciding, one);
            }) (local_to_zero (block_of m.layout y) k lives.invariant (low ∙ last.1) lost.before)
        | inr more ↦
            let weights = weighed s [] (rw more.0 refl) y in
            row_becomes m t a (ReleaseStore y w) rest y [] (rw more.0 refl) Live lives.is_live
            (record k { local = k.local - 1; references = k.references - 1 }) (record {
              local = omega (arith, word, fits.2);
              shared = refl;
              mark = refl;
              references = omega (arith, lost.less);
              waiting = omega (arith, weights.waiting);
              carried = omega (arith, weights.carried);
              merging = omega (arith, weights.merging);
              deciding = omega (arith, weights.deciding);
            }) (local_down (block_of m.layout y) k lives.invariant (omega (arith, low, fits.3, more.1)) lost.before)
      ]

  -- ---- the owner decides at zero

  -- The row's invariant holds after `NothingShared` and `WasShared`.
  pub row_after_decide_at_zero : {y : ℕ} → AtDuty p n m t a (DecideAtZero y) rest
      → KeepsRow m t a (DecideAtZero y) rest y
  row_after_decide_at_zero {y = y} s =
      let fits = head_fits_of s in
      let k = numbers_of m y in
      let word = written_here m.memory (Shared y) (m.memory (Shared y)) (own y) in
      let one = one_own y in
      elim (eqb_tells (m.memory (Shared y)) fresh_word) [
        | inl fresh ↦
            let weights = weighed s (Die y ∷ []) (rw fresh.0 refl) y in
            let decided : 1 ≤ k.deciding = omega (arith, weights.deciding, one) in
            let lives = lives_so s y fits.0 (omega (arith, decided)) in
            row_becomes m t a (DecideAtZero y) rest y (Die y ∷ []) (rw fresh.0 refl) (Dying t)
            (ap (λ (b : Bool). cond b (Dying t) (m.life y)) (own y)) (record k { deciding = k.deciding - 1 }) (record {
              local = refl;
              shared = sym word;
              mark = refl;
              references = refl;
              waiting = omega (arith, weights.waiting);
              carried = omega (arith, weights.carried);
              merging = omega (arith, weights.merging);
              deciding = omega (arith, weights.deciding, one);
            }) (zero_dies (block_of m.layout y) k lives.invariant fits.2 decided fresh.1)
        | inr other ↦
            row_stays {next = MergeSwap y Own ∷ []} {x = y} s fits.0 (record {
              follows = rw other.0 refl;
              lives = refl;
              local = refl;
              shared = sym word;
              mark = refl;
              references = refl;
              waiting = refl;
              carried = refl;
              merging = refl;
              deciding = omega arith;
            })
      ]
