-- A row is finalised at most once: a closed row stays closed, and is closed once.
use Rattle.std.proofs.Common.{◌≡◌, ◌≢◌, ℕ, suc, ◌+◌, ◌<◌, ◌≤◌, Bool, true, false, cond, List, [], ◌∷◌, ◌++◌, ◌⊎◌, inl, inr, length, Some, refl, sym, ap, ◌∙◌, arith}
use Rattle.std.specs.Prelude.{◌==◌, count_by, get_or, AllPairs}
use Rattle.std.proofs.lemmas.Bool.Decides.{eqb_tells}
use Rattle.std.proofs.lemmas.List.Sums.{sum_by-cons}
use Rattle.brc_lang.specs.declared.module.Module.{Module}
use Rattle.brc_model.specs.AbstractState.{is_among}
use Rattle.brc_model.specs.declared.thread.Choice.{Choice}
use Rattle.brc_model.specs.declared.duty.Duty.{Duty}
use Rattle.brc_model.specs.Duties.{address_of}
use Rattle.brc_model.specs.declared.actor.Actor.{Actor}
use Rattle.brc_model.specs.Machine.{Machine, ended_row, machine_by_duty}
use Rattle.brc_model.specs.StepMachine.{StepMachine}
use Rattle.brc_model.specs.Progress.{ClosedStays, ClosesAnew, ClosedOnce}
use Rattle.brc_model.specs.References.{one_if}
use Rattle.brc_model.specs.Accounts.{Accounts}
use Rattle.brc_model.proofs.Objects.Closing.{GoesOn, BeginsToDie, IsClosed, life_step, SameClosed, OneMore, closed_step, IsBorn}
use Rattle.brc_model.proofs.Objects.ClosedAfter.{live_not_closed, dying_not_closed, among_more, unborn_not_closed}
use Rattle.brc_model.proofs.Keeping.CodeInvariant.{CodeInvariant}
use Rattle.brc_model.proofs.Keeping.StepCases.{ShowsSteps, at_duty, event_shows}
use Rattle.brc_model.proofs.Keeping.SilentSteps.{silent_closed}
use Rattle.brc_model.specs.Invariant.{AtDuty}

-- ---- a closed row stays closed

abbrev StaysAmong : Machine → Machine → Type 0
StaysAmong m new = (x : ℕ) → is_among x m.abstract.closed ≡ true → is_among x new.abstract.closed ≡ true

stays_among : (m : Machine) (t : ℕ) (a : Actor) (d : Duty) (rest : List Duty)
    → StaysAmong m (machine_by_duty m t a d rest)
stays_among m t a d rest = λ x was.
    elim (closed_step m t d (m.memory (address_of m.layout t a.head d))) [
      | SameClosed none same ↦ ap (is_among x) same ∙ was
      | OneMore y ended more ↦ ap (is_among x) more ∙ among_more x m.abstract.closed (y ∷ []) was
    ]

closed_shown : (n : ℕ) → ShowsSteps (λ t m new. StaysAmong m new) n
closed_shown n = record {
  stays = λ p t m kept x was. was;
  sits = λ t m new a agenda found shown. shown;
  moves = λ p t m a moves kept found silent x was. ap (is_among x) (silent_closed m.abstract t moves silent) ∙ was;
  does = λ p t m a d rest doing. stays_among m t a d rest;
}

pub closed_stays : (p : Module) (n : ℕ) (m : StepMachine) (event : ℕ × Choice) → CodeInvariant p n m
    → ClosedStays m event
closed_stays p n m event whole = event_shows (closed_shown n) m event whole

-- ---- an event closes no closed row

ne_true : (b : Bool) → (b ≡ true → ⊥) → b ≡ false
ne_true true wrong = absurd (wrong refl)
ne_true false wrong = refl

abbrev ClosesSo : Machine → Machine → Type 0
ClosesSo m new =
    (new.abstract.closed ≡ m.abstract.closed)
    ⊎ ((row : ℕ) × (is_among row m.abstract.closed ≡ false) × (new.abstract.closed ≡ m.abstract.closed ++ row ∷ []))

module _ {p : Accounts} {n : ℕ} {m : Machine} {t : ℕ} {a : Actor} {d : Duty} {rest : List Duty} where
  ends_open : (row : ℕ) → AtDuty p n m t a d rest → ended_row d ≡ Some row → is_among row m.abstract.closed ≡ true → ⊥
  ends_open row here ended was =
      elim (life_step d row here) [
        | GoesOn now other ↦ other ended
        | BeginsToDie now alive positive none ↦ live_not_closed (sym alive ∙ here.core.closed_is row was)
        | IsClosed now dying positive last ↦ dying_not_closed t (sym dying ∙ here.core.closed_is row was)
        | IsBorn now unborn above born none ↦ unborn_not_closed (sym unborn ∙ here.core.closed_is row was)
      ]

  closes_at_duty : AtDuty p n m t a d rest → ClosesSo m (machine_by_duty m t a d rest)
  closes_at_duty here =
      elim (closed_step m t d (m.memory (address_of m.layout t a.head d))) [
        | SameClosed none same ↦ inl same
        | OneMore row ended more ↦ inr (row, ne_true _ (ends_open row here ended), more)
      ]

closes_shown : (n : ℕ) → ShowsSteps (λ t m new. ClosesSo m new) n
closes_shown n = record {
  stays = λ p t m kept. inl refl;
  sits = λ t m new a agenda found shown. shown;
  moves = λ p t m a moves kept found silent. inl (silent_closed m.abstract t moves silent);
  does = λ p t m a d rest doing. closes_at_duty (at_duty doing);
}

pub closes_anew : (p : Module) (n : ℕ) (m : StepMachine) (event : ℕ × Choice) → CodeInvariant p n m → ClosesAnew m event
closes_anew p n m event whole = event_shows (closes_shown n) m event whole

-- ---- each row is closed once

abbrev counted : ℕ → List ℕ → ℕ
counted x xs = count_by (λ y. y == x) xs

counted-cons : (x y : ℕ) (ys : List ℕ) → counted x (y ∷ ys) ≡ one_if (y == x) + counted x ys
counted-cons x y ys = sum_by-cons (λ z. cond (z == x) 1 0) y ys

not_counted : (x : ℕ) (ys : List ℕ) → ((j d : ℕ) → j < length ys → x ≢ get_or ys j d) → counted x ys ≡ 0
not_counted x [] apart = refl
not_counted x (y ∷ ys) apart =
    elim (eqb_tells y x) [
      | inl same ↦ absurd (apart 0 0 (omega arith) (sym same.1))
      | inr other ↦
          let none : one_if (y == x) ≡ 0 = ap one_if other.0 in
          omega (
            arith,
            counted-cons x y ys,
            none,
            not_counted x ys (λ j d within. apart (suc j) d (omega (arith, within))),
          )
    ]

once_counted : (x : ℕ) (ys : List ℕ) → AllPairs (λ z w. z ≢ w) ys → counted x ys ≤ 1
once_counted x [] once = omega arith
once_counted x (y ∷ ys) once =
    elim (eqb_tells y x) [
      | inl same ↦
          let one : one_if (y == x) ≡ 1 = ap one_if same.0 in
          let apart : (j d : ℕ) → j < length ys
          → x ≢ get_or ys j d = λ j d within e. once 0 (suc j) d (omega arith) (omega (arith, within)) (same.1 ∙ e)
          in
          omega (arith, counted-cons x y ys, one, not_counted x ys apart)
      | inr other ↦
          let none : one_if (y == x) ≡ 0 = ap one_if other.0 in
          omega (
            arith,
            counted-cons x y ys,
            none,
            once_counted x ys (λ i j d lt within. once (suc i) (suc j) d (omega (arith, lt)) (omega (arith, within))),
          )
    ]

pub closed_once : (p : Module) (n : ℕ) (m : StepMachine) → CodeInvariant p n m → ClosedOnce m
closed_once p n m whole = λ x. once_counted x m.abstract.closed whole.kept.core.once
