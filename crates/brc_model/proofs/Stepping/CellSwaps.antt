-- A thread fits after its own step that swaps a cell of the list that it has locked.
use Rattle.std.proofs.Common.{◌≡◌, ℕ, zero, suc, true, false, List, [], ◌∷◌, ◌++◌, refl, sym, ap, ◌∙◌, subst, arith}
use Rattle.std.specs.Prelude.{◌==◌, ◌&&◌}
use Rattle.std.specs.List.{list_any}
use Rattle.brc_model.specs.declared.duty.Holding.{Holding}
use Rattle.brc_model.specs.declared.duty.Holding.TheVariants.{InFlight}
use Rattle.brc_model.specs.AbstractState.{Reference, same_holding, same, without, moved}
use Rattle.brc_model.specs.declared.duty.Duty.{Duty}
use Rattle.brc_model.specs.declared.duty.Duty.TheVariants.{ReleaseLoad, CellSwap}
use Rattle.brc_model.specs.declared.address.Address.TheVariants.{Cell}
use Rattle.brc_model.specs.Duties.{release_found}
use Rattle.brc_model.specs.declared.actor.Actor.{Actor}
use Rattle.brc_model.specs.Machine.{Machine}
use Rattle.brc_model.specs.Moves.{put_in, take_out}
use Rattle.brc_model.specs.References.{one_if, reference_of, cell_reference}
use Rattle.brc_model.specs.Accounts.{Accounts, extra_of, lacks_of}
use Rattle.brc_model.specs.Invariant.{AtDuty}
use Rattle.brc_model.proofs.Basics.Bag.{held-cons, held-without, held_has}
use Rattle.brc_model.proofs.Frame.Cells.{stolen_held}
use Rattle.brc_model.proofs.Stepping.Own.{HeldStep}
use Rattle.brc_model.proofs.Stepping.FitsAfter.{agenda_here, NotGone, FitsAfter}
use Rattle.brc_model.proofs.Stepping.Counts.{same_is}
use Rattle.brc_model.proofs.Stepping.Steps.{own_done, own_next}
use Rattle.brc_model.proofs.Stepping.Settling.{held_taken_out}

-- The reference that the duty gives up is a cell's from then on.
held_put_in : (bag : List Reference) (t y x i : ℕ) (h : Holding) (agenda : List Duty)
    → list_any (same (reference_of t h y)) bag ≡ true
    → ((k : Holding) (object : ℕ) → extra_of agenda k object ≡ (same_holding h k && (y == object)))
    → ((k : Holding) (object : ℕ) → lacks_of agenda k object ≡ false)
    → HeldStep bag (cell_reference x i y ∷ without (reference_of t h y) bag) t agenda []
held_put_in bag t y x i h agenda has extra no_less = record {
  each = λ k object.
      let r = reference_of t k object in
      let one : one_if (same r (reference_of t h y)) ≡ one_if (extra_of agenda k object) =
      ap one_if (same_is t y h k object ∙ sym (extra k object)) in
      let none : one_if (lacks_of agenda k object) ≡ 0 = ap one_if (no_less k object) in
      omega (
        arith,
        held-cons r (cell_reference x i y) (without (reference_of t h y) bag),
        held-without r (reference_of t h y) bag has,
        one,
        none,
      );
}

-- Two changes of the bag, one after another.
held_then : (bag middle new : List Reference) (t : ℕ) (agenda inner later : List Duty)
    → HeldStep bag middle t agenda inner → HeldStep middle new t inner later → HeldStep bag new t agenda later
held_then bag middle new t agenda inner later first second =
    record { each = λ k object. omega (arith, first.each k object, second.each k object) }

module _ {p : Accounts} {n : ℕ} {m : Machine} {t : ℕ} {a : Actor} {rest : List Duty} where
  -- The thread fits after `ItemStored`: the reference that the account no longer has is the cell's, and what the cell
  -- held is in flight.
  pub thread_after_cell_swap : (x i y : ℕ) (h : Holding) → AtDuty p n m t a (CellSwap x i y h) rest → NotGone a
      → FitsAfter p m t a (CellSwap x i y h) rest
  thread_after_cell_swap x i y h here alive =
      let d : Duty = CellSwap x i y h in
      let bag = m.abstract.references in
      let later = agenda_here here alive in
      let has = held_has (reference_of t h y) bag (stolen_held x i y h here) in
      let put = held_put_in bag t y x i h (d ∷ rest) has (λ k o. refl) (λ k o. refl) in
      elim (m.memory (Cell x i)) as (λ w. m.memory (Cell x i) ≡ w → FitsAfter p m t a d rest) [
        | zero ↦ λ is.
            own_done here alive refl (ap release_found is) later
            (subst (λ (w : ℕ). HeldStep bag (moved m.abstract (put_in t h y x i ++ take_out t x i w)).references t
            (d ∷ rest) []) (sym is) put)
        | suc z ↦ λ is.
            let e : Duty = ReleaseLoad z InFlight in
            own_next e here alive refl refl refl (ap release_found is)
            (subst (λ (w : ℕ). HeldStep bag (moved m.abstract (put_in t h y x i ++ take_out t x i w)).references t
            (d ∷ rest) (e ∷ rest)) (sym is)
            (held_then bag (cell_reference x i y ∷ without (reference_of t h y) bag)
            (reference_of t InFlight z ∷ without (cell_reference x i z)
            (cell_reference x i y ∷ without (reference_of t h y) bag)) t (d ∷ rest) [] (e ∷ rest) put
            (held_taken_out (cell_reference x i y ∷ without (reference_of t h y) bag) t x i z [] (e ∷ rest)
            (λ k o. refl) (λ k o. refl) (λ k o. refl) (λ k o. refl)))) later (λ b status head used locked. tt)
      ] refl
