-- A release by the shared word keeps the row's invariant.
use Rattle.std.proofs.Common.{◌≡◌, ◌≢◌, ℕ, ◌+◌, ◌-◌, ◌≤◌, Bool, true, false, cond, List, [], ◌∷◌, refl, sym, ap, ◌∙◌, arith, inl, inr}
use Rattle.std.specs.Prelude.{◌==◌}
use Rattle.std.proofs.lemmas.Bool.Decides.{eqb_tells}
use Rattle.brc_model.specs.declared.duty.Holding.TheVariants.{InFlight}
use Rattle.brc_model.specs.AbstractState.{references_to, AbstractState, moved}
use Rattle.brc_word.specs.declared.values.TheConstants.{ONE_REFERENCE, QUEUED}
use Rattle.brc_word.specs.Words.{fresh_word, dead_word, released_word}
use Rattle.brc_model.specs.declared.duty.Reason.{Reason}
use Rattle.brc_model.specs.declared.duty.Reason.TheVariants.{Own, Handed}
use Rattle.brc_model.specs.declared.duty.Duty.{Duty}
use Rattle.brc_model.specs.declared.duty.Duty.TheVariants.{SharedLoad, SharedExchange, SetMark, Die}
use Rattle.brc_model.specs.declared.address.Address.{Address}
use Rattle.brc_model.specs.declared.address.Address.TheVariants.{Shared}
use Rattle.brc_model.specs.declared.actor.Actor.{Actor}
use Rattle.brc_model.specs.Machine.{Live, Dying, Machine, written}
use Rattle.brc_model.specs.Moves.{lose, reference_effects}
use Rattle.brc_model.specs.References.{reference_of}
use Rattle.brc_model.specs.RowInvariant.{waits}
use Rattle.brc_model.specs.Accounts.{Accounts}
use Rattle.brc_model.specs.Invariant.{AtDuty, numbers_of}
use Rattle.brc_model.proofs.Objects.RowSteps.{released_queued, released_less, shared_queued, shared_lost, shared_dies}
use Rattle.brc_model.proofs.Objects.RowMerges.{handed_lost, handed_dies}
use Rattle.brc_model.proofs.Objects.RowsAfterStep.{head_fits_of, KeepsRow, weighed, row_becomes, row_stays}
use Rattle.brc_model.proofs.Objects.RowsAfterOwn.{own, one_own, written_here, gives_up, is_lost, lives_so}
use Rattle.brc_model.specs.Layout.{block_of, IsCounted}

-- The load and the exchange of a release have the same decrement pending.
same_waits : (x y : ℕ) (r : Reason) (w : ℕ) → waits x (SharedLoad y r) ≡ waits x (SharedExchange y r w)
same_waits x y Own w = refl
same_waits x y Handed w = refl

module _ {p : Accounts} {n : ℕ} {m : Machine} {t : ℕ} {a : Actor} {rest : List Duty} where
  -- The row's invariant holds after `SharedRead`.
  pub row_after_shared_load : {y : ℕ} {r : Reason} → IsCounted m.layout y → AtDuty p n m t a (SharedLoad y r) rest
      → KeepsRow m t a (SharedLoad y r) rest y
  row_after_shared_load {y = y} {r = r} some s =
      let found = m.memory (Shared y) in
      row_stays {next = SharedExchange y r found ∷ []} {x = y} s some (record {
        follows = refl;
        lives = refl;
        local = refl;
        shared = sym (written_here m.memory (Shared y) found (own y));
        mark = refl;
        references = refl;
        waiting = omega (arith, same_waits y y r found);
        carried = refl;
        merging = refl;
        deciding = refl;
      })

-- ---- the exchange

-- The shared word after the exchange, by whether the exchange was won.
exchanged : (memory : Address → ℕ) (y w : ℕ) (b : Bool) → (memory (Shared y) == w) ≡ b
    → written memory (Shared y) (cond (memory (Shared y) == w) (released_word w) (memory (Shared y))) (Shared y)
    ≡ cond b (released_word w) (memory (Shared y))
exchanged memory y w b e =
    written_here memory (Shared y) _ (own y) ∙ ap (λ (c : Bool). cond c (released_word w) (memory (Shared y))) e

-- A lost exchange moves no reference.
exchange_moves : (memory : Address → ℕ) (t y : ℕ) (r : Reason) (w found : ℕ) (p : AbstractState) → (found == w) ≡ false
    → references_to y p.references
    ≡ references_to y (moved p (reference_effects memory t (SharedExchange y r w) found)).references
exchange_moves memory t y Own w found p e =
    sym (ap (λ (b : Bool). references_to y (moved p (cond b (lose t y) [])).references) e)
exchange_moves memory t y Handed w found p e = refl

module _ {p : Accounts} {n : ℕ} {m : Machine} {t : ℕ} {a : Actor} {rest : List Duty} where
  -- `ExchangeLost`: if the compare-exchange fails, the thread loads the word again, and the row is unchanged.
  row_after_lost_exchange : {y : ℕ} {r : Reason} {w : ℕ} → IsCounted m.layout y
      → AtDuty p n m t a (SharedExchange y r w) rest → (m.memory (Shared y) == w) ≡ false
      → KeepsRow m t a (SharedExchange y r w) rest y
  row_after_lost_exchange {y = y} {r = r} {w = w} some s other =
      row_stays {next = SharedLoad y r ∷ []} {x = y} s some (record {
        follows = rw other refl;
        lives = refl;
        local = refl;
        shared = sym (exchanged m.memory y w false other);
        mark = refl;
        references = exchange_moves m.memory t y r w (m.memory (Shared y)) m.abstract other;
        waiting = omega (arith, same_waits y y r w);
        carried = refl;
        merging = refl;
        deciding = refl;
      })

-- ---- the thread's own reference

-- If the exchange is won, the references to the object are those after the thread's reference is lost.
own_moves : (memory : Address → ℕ) (t y w found : ℕ) (p : AbstractState) → (found == w) ≡ true
    → references_to y (moved p (reference_effects memory t (SharedExchange y Own w) found)).references
    ≡ references_to y (moved p (lose t y)).references
own_moves memory t y w found p e = ap (λ (b : Bool). references_to y (moved p (cond b (lose t y) [])).references) e

module _ {p : Accounts} {n : ℕ} {m : Machine} {t : ℕ} {a : Actor} {rest : List Duty} where
  -- `Queues`, for the thread's own reference.
  own_queues : {y w : ℕ} → AtDuty p n m t a (SharedExchange y Own w) rest → (m.memory (Shared y) == w) ≡ true
      → m.memory (Shared y) ≡ w → (w == fresh_word) ≡ true → w ≡ fresh_word
      → KeepsRow m t a (SharedExchange y Own w) rest y
  own_queues {y = y} {w = w} s test same is_fresh fresh =
      let some : IsCounted m.layout y = head_fits_of s in
      let k = numbers_of m y in
      let lost =
      is_lost m.abstract.references (reference_of t InFlight y) (gives_up s InFlight y (rw (own y) refl) refl) in
      let lives = lives_so s y some (omega (arith, lost.before)) in
      let weights = weighed s (SetMark y ∷ []) (rw (test, is_fresh) refl) y in
      let one = one_own y in
      row_becomes m t a (SharedExchange y Own w) rest y (SetMark y ∷ []) (rw (test, is_fresh) refl) Live lives.is_live
      (record k { shared = k.shared + QUEUED; references = k.references - 1; waiting = k.waiting + 1 }) (record {
        local = refl;
        shared = omega (arith, exchanged m.memory y w true test, released_queued w is_fresh, same);
        mark = refl;
        references = omega (arith, own_moves m.memory t y w (m.memory (Shared y)) m.abstract test, lost.less);
        waiting = omega (arith, weights.waiting, one);
        carried = omega (arith, weights.carried);
        merging = omega (arith, weights.merging);
        deciding = omega (arith, weights.deciding);
      }) (shared_queued (block_of m.layout y) k lives.invariant (same ∙ fresh) lost.before)

  -- `DecrementsToZero`, for the thread's own reference.
  own_dies : {y w : ℕ} → AtDuty p n m t a (SharedExchange y Own w) rest → (m.memory (Shared y) == w) ≡ true
      → m.memory (Shared y) ≡ w → (w == fresh_word) ≡ false → (w - ONE_REFERENCE == dead_word) ≡ true
      → w - ONE_REFERENCE ≡ dead_word → KeepsRow m t a (SharedExchange y Own w) rest y
  own_dies {y = y} {w = w} s test same other is_dead dead =
      let some : IsCounted m.layout y = head_fits_of s in
      let k = numbers_of m y in
      let lost =
      is_lost m.abstract.references (reference_of t InFlight y) (gives_up s InFlight y (rw (own y) refl) refl) in
      let lives = lives_so s y some (omega (arith, lost.before)) in
      let weights = weighed s (Die y ∷ []) (rw (test, other, is_dead) refl) y in
      row_becomes m t a (SharedExchange y Own w) rest y (Die y ∷ []) (rw (test, other, is_dead) refl) (Dying t)
      (ap (λ (b : Bool). cond b (Dying t) (m.life y)) (own y))
      (record k { shared = k.shared - ONE_REFERENCE; references = k.references - 1 }) (record {
        local = refl;
        shared = omega (arith, exchanged m.memory y w true test, released_less w other, same);
        mark = refl;
        references = omega (arith, own_moves m.memory t y w (m.memory (Shared y)) m.abstract test, lost.less);
        waiting = omega (arith, weights.waiting);
        carried = omega (arith, weights.carried);
        merging = omega (arith, weights.merging);
        deciding = omega (arith, weights.deciding);
      }) (shared_dies (block_of m.layout y) k lives.invariant (omega (arith, same, dead)) lost.before)

  -- `Decrements`, for the thread's own reference.
  own_loses : {y w : ℕ} → AtDuty p n m t a (SharedExchange y Own w) rest → (m.memory (Shared y) == w) ≡ true
      → m.memory (Shared y) ≡ w → (w == fresh_word) ≡ false → w ≢ fresh_word → (w - ONE_REFERENCE == dead_word) ≡ false
      → w - ONE_REFERENCE ≢ dead_word → KeepsRow m t a (SharedExchange y Own w) rest y
  own_loses {y = y} {w = w} s test same other isnt_fresh alive isnt_dead =
      let some : IsCounted m.layout y = head_fits_of s in
      let k = numbers_of m y in
      let lost =
      is_lost m.abstract.references (reference_of t InFlight y) (gives_up s InFlight y (rw (own y) refl) refl) in
      let lives = lives_so s y some (omega (arith, lost.before)) in
      let weights = weighed s [] (rw (test, other, alive) refl) y in
      row_becomes m t a (SharedExchange y Own w) rest y [] (rw (test, other, alive) refl) Live lives.is_live
      (record k { shared = k.shared - ONE_REFERENCE; references = k.references - 1 }) (record {
        local = refl;
        shared = omega (arith, exchanged m.memory y w true test, released_less w other, same);
        mark = refl;
        references = omega (arith, own_moves m.memory t y w (m.memory (Shared y)) m.abstract test, lost.less);
        waiting = omega (arith, weights.waiting);
        carried = omega (arith, weights.carried);
        merging = omega (arith, weights.merging);
        deciding = omega (arith, weights.deciding);
      }) (shared_lost (block_of m.layout y) k lives.invariant (λ e. isnt_fresh (sym same ∙ e))
      (λ e. isnt_dead (ap (λ (v : ℕ). v - ONE_REFERENCE) (sym same) ∙ e)) lost.before)

  -- The row's invariant holds after `Queues`, `Decrements`, `DecrementsToZero` and `ExchangeLost`.
  pub row_after_own_exchange : {y w : ℕ} → AtDuty p n m t a (SharedExchange y Own w) rest
      → KeepsRow m t a (SharedExchange y Own w) rest y
  row_after_own_exchange {y = y} {w = w} s =
      elim (eqb_tells (m.memory (Shared y)) w) [
        | inr other ↦ row_after_lost_exchange (head_fits_of s) s other.0
        | inl same ↦ elim (eqb_tells w fresh_word) [
          | inl fresh ↦ own_queues s same.0 same.1 fresh.0 fresh.1
          | inr other ↦ elim (eqb_tells (w - ONE_REFERENCE) dead_word) [
            | inl dead ↦ own_dies s same.0 same.1 other.0 dead.0 dead.1
            | inr alive ↦ own_loses s same.0 same.1 other.0 other.1 alive.0 alive.1
          ]
        ]
      ]

  -- ---- the handed reference of a claimed mark

  -- `DecrementsToZero`, for a handed reference.
  handed_ends : {y w : ℕ} → AtDuty p n m t a (SharedExchange y Handed w) rest → (m.memory (Shared y) == w) ≡ true
      → m.memory (Shared y) ≡ w → (w == fresh_word) ≡ false → (w - ONE_REFERENCE == dead_word) ≡ true
      → w - ONE_REFERENCE ≡ dead_word → KeepsRow m t a (SharedExchange y Handed w) rest y
  handed_ends {y = y} {w = w} s test same other is_dead dead =
      let fits = head_fits_of s in
      let k = numbers_of m y in
      let weights = weighed s (Die y ∷ []) (rw (test, other, is_dead) refl) y in
      let one = one_own y in
      let awaits : 1 ≤ k.waiting = omega (arith, weights.waiting, one) in
      let lives = lives_so s y fits.0 (omega (arith, awaits)) in
      row_becomes m t a (SharedExchange y Handed w) rest y (Die y ∷ []) (rw (test, other, is_dead) refl) (Dying t)
      (ap (λ (b : Bool). cond b (Dying t) (m.life y)) (own y))
      (record k { shared = k.shared - ONE_REFERENCE; waiting = k.waiting - 1 }) (record {
        local = refl;
        shared = omega (arith, exchanged m.memory y w true test, released_less w other, same);
        mark = refl;
        references = refl;
        waiting = omega (arith, weights.waiting, one);
        carried = omega (arith, weights.carried);
        merging = omega (arith, weights.merging);
        deciding = omega (arith, weights.deciding);
      }) (handed_dies (block_of m.layout y) k lives.invariant (omega (arith, same, dead)) awaits)

  -- `Decrements`, for a handed reference.
  handed_stays : {y w : ℕ} → AtDuty p n m t a (SharedExchange y Handed w) rest → (m.memory (Shared y) == w) ≡ true
      → m.memory (Shared y) ≡ w → (w == fresh_word) ≡ false → (w - ONE_REFERENCE == dead_word) ≡ false
      → w - ONE_REFERENCE ≢ dead_word → KeepsRow m t a (SharedExchange y Handed w) rest y
  handed_stays {y = y} {w = w} s test same other alive isnt_dead =
      let fits = head_fits_of s in
      let k = numbers_of m y in
      let weights = weighed s [] (rw (test, other, alive) refl) y in
      let one = one_own y in
      let awaits : 1 ≤ k.waiting = omega (arith, weights.waiting, one) in
      let lives = lives_so s y fits.0 (omega (arith, awaits)) in
      row_becomes m t a (SharedExchange y Handed w) rest y [] (rw (test, other, alive) refl) Live lives.is_live
      (record k { shared = k.shared - ONE_REFERENCE; waiting = k.waiting - 1 }) (record {
        local = refl;
        shared = omega (arith, exchanged m.memory y w true test, released_less w other, same);
        mark = refl;
        references = refl;
        waiting = omega (arith, weights.waiting, one);
        carried = omega (arith, weights.carried);
        merging = omega (arith, weights.merging);
        deciding = omega (arith, weights.deciding);
      }) (handed_lost (block_of m.layout y) k lives.invariant fits.1
      (λ e. isnt_dead (ap (λ (v : ℕ). v - ONE_REFERENCE) (sym same) ∙ e)) awaits)

  -- The row's invariant holds after `Decrements`, `DecrementsToZero` and `ExchangeLost`, for a handed reference.
  pub row_after_handed_exchange : {y w : ℕ} → AtDuty p n m t a (SharedExchange y Handed w) rest
      → KeepsRow m t a (SharedExchange y Handed w) rest y
  row_after_handed_exchange {y = y} {w = w} s =
      let fits = head_fits_of s in
      elim (eqb_tells (m.memory (Shared y)) w) [
        | inr other ↦ row_after_lost_exchange fits.0 s other.0
        | inl same ↦ elim (eqb_tells w fresh_word) [
          | inl fresh ↦ absurd (omega (arith, fits.1, same.1, fresh.1))
          | inr other ↦ elim (eqb_tells (w - ONE_REFERENCE) dead_word) [
            | inl dead ↦ handed_ends s same.0 same.1 other.0 dead.0 dead.1
            | inr alive ↦ handed_stays s same.0 same.1 other.0 alive.0 alive.1
          ]
        ]
      ]
