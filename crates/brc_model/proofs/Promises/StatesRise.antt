-- A row's state never falls: default, queued, merged.
use Rattle.std.proofs.Common.{◌≡◌, ℕ, ◌+◌, ◌≤◌, Bool, cond, List, inl, inr, ap, subst, arith}
use Rattle.std.specs.Prelude.{◌==◌}
use Rattle.std.proofs.lemmas.Bool.Decides.{eqb_tells}
use Rattle.brc_lang.specs.declared.module.Module.{Module}
use Rattle.brc_word.specs.declared.values.TheConstants.{ONE_REFERENCE}
use Rattle.brc_word.specs.Words.{biased_part, phase_part, fresh_word, released_word, merged_word}
use Rattle.brc_model.specs.declared.thread.Choice.{Choice}
use Rattle.brc_model.specs.declared.duty.Duty.{Duty}
use Rattle.brc_model.specs.declared.duty.Duty.TheVariants.{RetainAdd, DecideAtZero, SharedLoad, SharedExchange, MergeLoad, MergeExchange}
use Rattle.brc_model.specs.declared.address.Address.TheVariants.{Shared}
use Rattle.brc_model.specs.declared.actor.Actor.{Actor}
use Rattle.brc_model.specs.Machine.{Machine, written}
use Rattle.brc_model.specs.StepMachine.{StepMachine}
use Rattle.brc_model.specs.Progress.{StatesRise}
use Rattle.brc_model.proofs.Objects.RowSteps.{shared_range, shared_up, shared_down, shared_merged, released_queued, released_less}
use Rattle.brc_model.proofs.Basics.Written.{written_here, written_apart, apart_shared}
use Rattle.brc_model.proofs.Frame.Leaves.{exchange_alive}
use Rattle.brc_model.proofs.Stepping.FitsAfter.{memory_by}
use Rattle.brc_model.proofs.Keeping.CodeInvariant.{CodeInvariant}
use Rattle.brc_model.proofs.Keeping.StepCases.{ShowsSteps, at_duty, event_shows}
use Rattle.brc_model.specs.Accounts.{Accounts}
use Rattle.brc_model.specs.Invariant.{AtDuty}

-- ---- a word's state after an exchange

released_rises : (w : ℕ) → 1 ≤ biased_part w → phase_part w ≤ phase_part (released_word w)
released_rises w some =
    elim (eqb_tells w fresh_word) [
      | inl fresh ↦ omega (arith, ap phase_part (released_queued w fresh.0), fresh.1)
      | inr other ↦ omega (arith, ap phase_part (released_less w other.0), (shared_down w some).1)
    ]

merged_rises : (w c : ℕ) → phase_part w ≤ phase_part (merged_word w c)
merged_rises w c = omega (arith, (shared_merged w c).1)

-- A lost exchange leaves the word unchanged, and a won one doesn't lower its state.
exchange_rises : (found w new : ℕ) → (found ≡ w → phase_part w ≤ phase_part new)
    → phase_part found ≤ phase_part (cond (found == w) new found)
exchange_rises found w new won =
    elim (eqb_tells found w) [
      | inl same ↦
          let left : phase_part (cond (found == w) new found) ≡ phase_part new =
          ap (λ (b : Bool). phase_part (cond b new found)) same.0 in
          let was : phase_part found ≡ phase_part w = ap phase_part same.1 in
          omega (arith, left, was, won same.1)
      | inr other ↦
          let left : phase_part (cond (found == w) new found) ≡ phase_part found =
          ap (λ (b : Bool). phase_part (cond b new found)) other.0 in
          omega (arith, left)
    ]

-- ---- a row's state after a duty

abbrev phase_in : Machine → ℕ → ℕ → ℕ → ℕ
phase_in m y v x = phase_part (written m.memory (Shared y) v (Shared x))

rises_at : (m : Machine) (y v x : ℕ) → phase_part (m.memory (Shared y)) ≤ phase_part v
    → phase_part (m.memory (Shared x)) ≤ phase_in m y v x
rises_at m y v x here =
    elim (eqb_tells y x) [
      | inl same ↦
          let itself : phase_in m y v y ≡ phase_part v = ap phase_part (written_here m.memory (Shared y) v) in
          subst (λ (z : ℕ). phase_part (m.memory (Shared z)) ≤ phase_in m y v z) same.1 (omega (arith, itself, here))
      | inr other ↦
          let stays : phase_in m y v x ≡ phase_part (m.memory (Shared x)) =
          ap phase_part (written_apart m.memory (Shared y) (Shared x) v (apart_shared y x other.1)) in
          omega (arith, stays)
    ]

loads : (m : Machine) (y x : ℕ) → phase_part (m.memory (Shared x)) ≤ phase_in m y (m.memory (Shared y)) x
loads m y x = rises_at m y (m.memory (Shared y)) x (omega arith)

module _ {p : Accounts} {n : ℕ} {m : Machine} {t : ℕ} {a : Actor} {rest : List Duty} where
  rises : (d : Duty) (x : ℕ) → AtDuty p n m t a d rest
      → phase_part (m.memory (Shared x)) ≤ phase_part (memory_by m t a d (Shared x))
  rises (RetainAdd y h) x here =
      rises_at m y (m.memory (Shared y) + ONE_REFERENCE) x (omega (arith, (shared_up (m.memory (Shared y))).1))
  rises (DecideAtZero y) x here = loads m y x
  rises (SharedLoad y r) x here = loads m y x
  rises (SharedExchange y r w) x here =
      let alive = exchange_alive y w r here in
      rises_at m y _ x (exchange_rises (m.memory (Shared y)) w (released_word w)
      (λ same. released_rises w (subst (λ (v : ℕ). 1 ≤ biased_part v) same (shared_range _ _ alive.live))))
  rises (MergeLoad y c r) x here = loads m y x
  rises (MergeExchange y c w r) x here =
      rises_at m y _ x (exchange_rises (m.memory (Shared y)) w (merged_word w c) (λ same. merged_rises w c))
  rises _ x here = omega arith

-- ---- each event

states_shown : (n : ℕ)
    → ShowsSteps (λ t m new. (x : ℕ) → phase_part (m.memory (Shared x)) ≤ phase_part (new.memory (Shared x))) n
states_shown n = record {
  stays = λ p t m kept x. omega arith;
  sits = λ t m new a agenda found shown. shown;
  moves = λ p t m a moves kept found silent x. omega arith;
  does = λ p t m a d rest doing x. rises d x (at_duty doing);
}

pub states_rise : (p : Module) (n : ℕ) (m : StepMachine) (event : ℕ × Choice) → CodeInvariant p n m → StatesRise m event
states_rise p n m event whole = event_shows (states_shown n) m event whole
