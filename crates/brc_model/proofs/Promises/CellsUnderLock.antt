-- Only the thread that has locked a list, or that deallocates it, changes the list's cells.
use Rattle.std.proofs.Common.{◌≡◌, ◌≢◌, ℕ, ◌+◌, true, false, cond, List, ◌⊎◌, inl, inr, Some, refl, sym, ap, ◌∙◌}
use Rattle.std.specs.Prelude.{◌==◌, ◌&&◌, slice_get}
use Rattle.std.proofs.lemmas.Bool.{eqb-true}
use Rattle.std.proofs.lemmas.Option.{slice_get_within}
use Rattle.brc_lang.specs.declared.module.Module.{Module}
use Rattle.brc_model.specs.declared.thread.Choice.{Choice}
use Rattle.brc_model.specs.declared.duty.Duty.{Duty}
use Rattle.brc_model.specs.declared.duty.Duty.TheVariants.{SettleCell, CellLoad, CellSwap}
use Rattle.brc_model.specs.declared.address.Address.TheVariants.{Cell}
use Rattle.brc_model.specs.declared.actor.Actor.{Actor}
use Rattle.brc_model.specs.Machine.{Dying, Machine, with_actor}
use Rattle.brc_model.specs.StepMachine.{StepMachine}
use Rattle.brc_model.specs.Progress.{HasLock, CellsChangeUnderLock}
use Rattle.brc_model.specs.Accounts.{Accounts}
use Rattle.brc_model.specs.Invariant.{AtDuty}
use Rattle.brc_model.proofs.Basics.Written.{written_load}
use Rattle.brc_model.proofs.Basics.Lists.{and_first, some_is, slice_get-set_same}
use Rattle.brc_model.proofs.Frame.Leaves.{head_of}
use Rattle.brc_model.proofs.Stepping.FitsAfter.{memory_by}
use Rattle.brc_model.proofs.Keeping.Sits.{sitting}
use Rattle.brc_model.proofs.Keeping.CodeInvariant.{CodeInvariant}
use Rattle.brc_model.proofs.Keeping.StepCases.{ShowsSteps, at_duty, event_shows}

abbrev MayChange : Machine → ℕ → ℕ → Type 0
MayChange m t x = HasLock m t x ⊎ (m.life x ≡ Dying t)

-- A step that changes no cell but another row's changes none of the row's.
by_row : (m : Machine) (t x y i j word : ℕ) → (y ≡ x → MayChange m t x)
    → cond ((y == x) && (j == i)) word (m.memory (Cell x i)) ≢ m.memory (Cell x i) → MayChange m t x
by_row m t x y i j word may =
    elim ((y == x) && (j == i)) as (λ b. ((y == x) && (j == i)) ≡ b
    → cond b word (m.memory (Cell x i)) ≢ m.memory (Cell x i) → MayChange m t x) [
      | true ↦ λ e other. may (eqb-true y x (and_first (y == x) (j == i) e))
      | false ↦ λ e other. absurd (other refl)
    ] refl

module _ {p : Accounts} {n : ℕ} {m : Machine} {t : ℕ} {a : Actor} {rest : List Duty} where
  changed_by : (d : Duty) (x i : ℕ) → AtDuty p n m t a d rest → memory_by m t a d (Cell x i) ≢ m.memory (Cell x i)
      → MayChange m t x
  changed_by (SettleCell y j k) x i here =
      let dies = (head_of here).1 in
      by_row m t x y i j 0 (λ same. inr (ap m.life (sym same) ∙ dies))
  changed_by (CellSwap y j z h) x i here =
      let locked = (head_of here).0 in
      by_row m t x y i j (z + 1) (λ same. inl (a, here.found, locked ∙ ap Some same))
  changed_by (CellLoad y j) x i here = λ other. absurd (other (written_load m.memory (Cell y j) (Cell x i)))
  changed_by _ x i here = λ other. absurd (other refl)

-- What a thread takes up doesn't change which list it has locked.
lock_stays : (m : Machine) (t x : ℕ) (a : Actor) (agenda : List Duty) → slice_get m.actors t ≡ Some a
    → HasLock (with_actor m t (sitting a agenda)) t x → HasLock m t x
lock_stays m t x a agenda found lock =
    let now = sitting a agenda in
    let same : now ≡ lock.0 =
    some_is now lock.0 (sym (slice_get-set_same m.actors t now (slice_get_within m.actors t a found)) ∙ lock.1) in
    (a, found, ap (λ (b : Actor). b.locked) same ∙ lock.2)

cells_shown : (n : ℕ) → ShowsSteps
    (λ t m new. (x i : ℕ) → new.memory (Cell x i) ≢ m.memory (Cell x i) → MayChange m t x) n
cells_shown n = record {
  stays = λ p t m kept x i other. absurd (other refl);
  sits = λ t m new a agenda found shown x i other. elim (shown x i other) [
    | inl lock ↦ inl (lock_stays m t x a agenda found lock)
    | inr dies ↦ inr dies
  ];
  moves = λ p t m a moves kept found silent x i other. absurd (other refl);
  does = λ p t m a d rest doing x i. changed_by d x i (at_duty doing);
}

pub cells_under_lock : (p : Module) (n : ℕ) (m : StepMachine) (event : ℕ × Choice) → CodeInvariant p n m
    → CellsChangeUnderLock m event
cells_under_lock p n m event whole = event_shows (cells_shown n) m event whole
