-- While a row's owner runs, only the owner's events change the row's local word. No thread takes over a born row.
use Rattle.std.proofs.Common.{◌≡◌, ◌≢◌, ℕ, ◌+◌, ◌-◌, List, ◌⊎◌, inl, inr, Some, refl, sym, ap, ◌∙◌, subst, arith}
use Rattle.std.specs.Prelude.{slice_get}
use Rattle.std.proofs.lemmas.Bool.Decides.{eqb_tells}
use Rattle.std.proofs.lemmas.Option.{slice_get_within}
use Rattle.brc_lang.specs.declared.module.Module.{Module}
use Rattle.brc_word.specs.Words.{owner_part, local_word}
use Rattle.brc_model.specs.declared.thread.Choice.{Choice}
use Rattle.brc_model.specs.declared.duty.Duty.{Duty}
use Rattle.brc_model.specs.declared.duty.Duty.TheVariants.{RetainLoad, RetainStore, ReleaseLoad, ReleaseStore, MergeSwap, BirthLocal}
use Rattle.brc_model.specs.declared.address.Address.TheVariants.{Local}
use Rattle.brc_model.specs.declared.actor.Actor.{Actor}
use Rattle.brc_model.specs.Machine.{Machine, written, with_actor, machine_by_duty, Unborn}
use Rattle.brc_model.specs.StepMachine.{StepMachine}
use Rattle.brc_model.specs.Progress.{Runs, OnlyOwnersCount, OwnersStay}
use Rattle.brc_model.proofs.Basics.Lists.{some_is, slice_get-set_same, slice_get-set_other}
use Rattle.brc_model.proofs.Basics.Written.{written_here, written_apart, written_load, apart_local}
use Rattle.brc_model.proofs.Frame.Leaves.{head_of, locals_left}
use Rattle.brc_model.proofs.Stepping.FitsAfter.{memory_by}
use Rattle.brc_model.proofs.Keeping.Sits.{sitting}
use Rattle.brc_model.proofs.Keeping.CodeInvariant.{CodeInvariant}
use Rattle.brc_model.proofs.Keeping.StepCases.{ShowsSteps, at_duty, event_shows}
use Rattle.brc_model.proofs.Promises.Immortals.{counted_low}
use Rattle.brc_model.proofs.Basics.Blocks.{next_unborn}
use Rattle.brc_model.proofs.Stepping.Nones.{immortal_word_left}
use Rattle.brc_model.specs.Accounts.{Accounts}
use Rattle.brc_model.specs.Invariant.{AtDuty}
use Rattle.std.proofs.lemmas.Bool.{cases_Bool}
use Rattle.brc_model.specs.Layout.{is_immortal_row}

-- ---- other threads leave a running owner's count

-- A running thread still runs after a thread takes up work.
runs_still : (m : Machine) (t u : ℕ) (a : Actor) (agenda : List Duty) → slice_get m.actors t ≡ Some a
    → Runs m u → Runs (with_actor m t (sitting a agenda)) u
runs_still m t u a agenda found runs =
    let now = sitting a agenda in
    elim (eqb_tells u t) [
      | inl same ↦
          let this : runs.0 ≡ a = some_is runs.0 a (sym runs.1 ∙ ap (slice_get m.actors) same.1 ∙ found) in (
            now,
            ap (slice_get (with_actor m t now).actors) same.1
                ∙ slice_get-set_same m.actors t now (slice_get_within m.actors t a found),
            ap (λ (b : Actor). b.status) (sym this) ∙ runs.2,
          )
      | inr apart ↦ (runs.0, slice_get-set_other m.actors t u now apart.1 ∙ runs.1, runs.2)
    ]

module _ {p : Accounts} {n : ℕ} {m : Machine} {t : ℕ} {a : Actor} {d : Duty} {rest : List Duty} where
  local_left : (x owner : ℕ) → AtDuty p n m t a d rest → owner ≢ t → owner_part (m.memory (Local x)) ≡ owner + 1
      → Runs m owner → memory_by m t a d (Local x) ≡ m.memory (Local x)
  local_left x owner here ne owns runs =
      elim (cases_Bool (is_immortal_row m.layout x)) [
        | inl immortal ↦ immortal_word_left d x here immortal
        | inr counted ↦
            locals_left d here owner x runs.0 ne runs.1
            (record { running = runs.2; owner = owns; low = counted_low x here.core counted })
      ]

abbrev CountsSo : ℕ → Machine → Machine → Type 0
CountsSo t m new =
    (x owner : ℕ) → owner_part (m.memory (Local x)) ≡ owner + 1 → Runs m owner → new.memory (Local x)
    ≢ m.memory (Local x) → t ≡ owner

module _ {p : Accounts} {n : ℕ} {m : Machine} {t : ℕ} {a : Actor} {d : Duty} {rest : List Duty} where
  counts_at_duty : AtDuty p n m t a d rest → CountsSo t m (machine_by_duty m t a d rest)
  counts_at_duty here = λ x owner owns runs changed.
      elim (eqb_tells t owner) [
        | inl same ↦ same.1
        | inr apart ↦ absurd (changed (local_left x owner here (λ e. apart.1 (sym e)) owns runs))
      ]

counts_shown : (n : ℕ) → ShowsSteps CountsSo n
counts_shown n = record {
  stays = λ p t m kept x owner owns runs changed. absurd (changed refl);
  sits =
      λ t m new a agenda found shown x owner owns runs changed. shown x owner owns
      (runs_still m t owner a agenda found runs) changed;
  moves = λ p t m a moves kept found silent x owner owns runs changed. absurd (changed refl);
  does = λ p t m a d rest doing. counts_at_duty (at_duty doing);
}

pub only_owners_count : (p : Module) (n : ℕ) (m : StepMachine) (event : ℕ × Choice) → CodeInvariant p n m
    → OnlyOwnersCount m event
only_owners_count p n m event whole = event_shows (counts_shown n) m event whole

-- ---- owners

abbrev OwnedSo : ℕ → ℕ → Type 0
OwnedSo new old = (owner_part new ≡ owner_part old) ⊎ (owner_part new ≡ 0)

owned_at : (m : Machine) (y v x : ℕ) → OwnedSo v (m.memory (Local y))
    → OwnedSo (written m.memory (Local y) v (Local x)) (m.memory (Local x))
owned_at m y v x here =
    elim (eqb_tells y x) [
      | inl same ↦
          let itself : OwnedSo (written m.memory (Local y) v (Local y)) (m.memory (Local y)) =
          subst (λ (w : ℕ). OwnedSo w (m.memory (Local y))) (sym (written_here m.memory (Local y) v)) here in
          subst (λ (z : ℕ). OwnedSo (written m.memory (Local y) v (Local z)) (m.memory (Local z))) same.1 itself
      | inr other ↦ inl (ap owner_part (written_apart m.memory (Local y) (Local x) v (apart_local y x other.1)))
    ]

module _ {p : Accounts} {n : ℕ} {m : Machine} {t : ℕ} {a : Actor} {rest : List Duty} where
  owned_after : (d : Duty) (x : ℕ) → AtDuty p n m t a d rest → m.life x ≢ Unborn
      → OwnedSo (memory_by m t a d (Local x)) (m.memory (Local x))
  owned_after (RetainLoad y h) x here born = inl (ap owner_part (written_load m.memory (Local y) (Local x)))
  owned_after (ReleaseLoad y h) x here born = inl (ap owner_part (written_load m.memory (Local y) (Local x)))
  owned_after (RetainStore y h w) x here born =
      let fits = head_of here in
      owned_at m y (w + 1) x (inl (omega (arith, fits.3, fits.5)))
  owned_after (ReleaseStore y w) x here born =
      let fits = head_of here in
      owned_at m y (w - 1) x (inl (omega (arith, fits.2, fits.3)))
  owned_after (BirthLocal y h) x here born =
      let apart : y ≡ x → ⊥ =
      λ e. born (ap m.life (sym e) ∙ next_unborn p n m t a y here.core here.found (head_of here).0) in
      inl (ap owner_part (written_apart m.memory (Local y) (Local x) (local_word t 1) (apart_local y x apart)))
  owned_after (MergeSwap y r) x here born = owned_at m y 0 x (inr refl)
  owned_after _ x here born = inl refl

owners_shown : (n : ℕ)
    → ShowsSteps (λ t m new. (x : ℕ) → m.life x ≢ Unborn → OwnedSo (new.memory (Local x)) (m.memory (Local x))) n
owners_shown n = record {
  stays = λ p t m kept x born. inl refl;
  sits = λ t m new a agenda found shown. shown;
  moves = λ p t m a moves kept found silent x born. inl refl;
  does = λ p t m a d rest doing x born. owned_after d x (at_duty doing) born;
}

pub owners_stay : (p : Module) (n : ℕ) (m : StepMachine) (event : ℕ × Choice) → CodeInvariant p n m → OwnersStay m event
owners_stay p n m event whole = event_shows (owners_shown n) m event whole
