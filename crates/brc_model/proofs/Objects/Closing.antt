-- How a step changes the lives of rows and the list of closed rows.
use Rattle.std.proofs.Common.{◌≡◌, ℕ, Bool, cond, List, [], ◌∷◌, ◌++◌, inl, inr, Option, None, Some, refl, sym, ap, ◌∙◌, subst}
use Rattle.std.proofs.lemmas.Bool.Decides.{eqb_tells}
use Rattle.brc_model.specs.AbstractState.{AbstractState, Move, Born, Gain, Lose, PassOn, Finalise, move, moved}
use Rattle.brc_model.specs.declared.duty.Reason.TheVariants.{Own, Handed}
use Rattle.brc_model.specs.declared.duty.Duty.{Duty}
use Rattle.brc_model.specs.declared.duty.Duty.TheVariants.{DecideAtZero, SharedExchange, MergeExchange, SettleEnd, BirthLocal}
use Rattle.brc_model.specs.declared.actor.Actor.{Actor}
use Rattle.brc_model.specs.Machine.{Life, Unborn, Live, Dying, Closed, Machine, dies_next, ended_row, born_row, with_life, machine_by_duty}
use Rattle.brc_model.specs.Moves.{reference_effects}
use Rattle.brc_model.proofs.Basics.Lists.{some_is, none_some}
use Rattle.brc_model.proofs.Basics.Moves.{MoveOf, Finalises, each_effect, moved_keeps}
use Rattle.brc_model.specs.Accounts.{Accounts}
use Rattle.brc_model.specs.Knowledge.{IsNext}
use Rattle.brc_model.proofs.Basics.Blocks.{next_counted, next_unborn}
use Rattle.brc_model.proofs.Frame.Leaves.{head_of}
use Rattle.brc_model.proofs.Basics.Continuation.{MayDie}
use Rattle.brc_model.proofs.Frame.Lives.{next_of, next_may_die, dying_was_alive}
use Rattle.brc_model.specs.Invariant.{AtDuty}
use Rattle.brc_model.specs.Layout.{IsCounted}

-- ---- the list of closed rows

abbrev KeepsClosed : Move → Type 0
KeepsClosed (Born r kind) = Unit {0}
KeepsClosed (Gain r) = Unit {0}
KeepsClosed (Lose r) = Unit {0}
KeepsClosed (PassOn r h) = Unit {0}
KeepsClosed (Finalise x) = ⊥

move_keeps : (p : AbstractState) (mv : Move) → KeepsClosed mv → (move p mv).closed ≡ p.closed
move_keeps p (Finalise x) keep = absurd keep
move_keeps p _ keep = refl

-- only the end of a settling closes
effect_keeps : {t found : ℕ} (d : Duty) (mv : Move) → ended_row d ≡ None → MoveOf t found d mv → KeepsClosed mv
effect_keeps d mv none (Finalises x of ended) = absurd (none_some x (sym none ∙ ended))
effect_keeps d mv none _ = tt

-- ---- rows whose lives change

module _ {p : Accounts} {n : ℕ} {m : Machine} {t : ℕ} {a : Actor} {rest : List Duty} where
  may_die_positive : (d : Duty) (y : ℕ) → AtDuty p n m t a d rest → MayDie d y → IsCounted m.layout y
  may_die_positive (DecideAtZero x) y here is = subst (λ (z : ℕ). IsCounted m.layout z) is (head_of here).0
  may_die_positive (SharedExchange x Own w) y here is = subst (λ (z : ℕ). IsCounted m.layout z) is (head_of here)
  may_die_positive (SharedExchange x Handed w) y here is = subst (λ (z : ℕ). IsCounted m.layout z) is (head_of here).0
  may_die_positive (MergeExchange x c w r) y here is = subst (λ (z : ℕ). IsCounted m.layout z) is (head_of here).0
  may_die_positive _ y here is = absurd is

-- A row's life after a step of thread `t`: it is unchanged; or the row was live and begins to die by this thread; or
-- the row was dying by this thread and is closed; or the row is born.
pub data LifeStep (m : Machine) (t : ℕ) (d : Duty) (x : ℕ) (now : Life) : Type 0 where
  GoesOn : now ≡ m.life x → (ended_row d ≡ Some x → ⊥) → LifeStep m t d x now
  BeginsToDie : now ≡ Dying t → m.life x ≡ Live → IsCounted m.layout x → ended_row d ≡ None → LifeStep m t d x now
  IsClosed : now ≡ Closed → m.life x ≡ Dying t → IsCounted m.layout x → ended_row d ≡ Some x → LifeStep m t d x now
  IsBorn : now ≡ Live → m.life x ≡ Unborn → IsCounted m.layout x → born_row d ≡ Some x → ended_row d ≡ None
      → LifeStep m t d x now

-- The step that closes a row makes no row die.
ended_kills_none : (m : Machine) (t : ℕ) (a : Actor) (d : Duty) (y : ℕ) → ended_row d ≡ Some y
    → dies_next (next_of m t a d) ≡ None
ended_kills_none m t a (SettleEnd x) y e = refl
ended_kills_none m t a _ y e = absurd (none_some y e)

module _ {p : Accounts} {n : ℕ} {m : Machine} {t : ℕ} {a : Actor} {rest : List Duty} where
  ended_dying : (d : Duty) (y : ℕ) → AtDuty p n m t a d rest → ended_row d ≡ Some y
      → (IsCounted m.layout y) × (m.life y ≡ Dying t)
  ended_dying (SettleEnd x) y here e =
      let fits = head_of here in
      let this : x ≡ y = some_is x y e in
      (subst (λ (z : ℕ). IsCounted m.layout z) this fits.0, ap m.life (sym this) ∙ fits.1)
  ended_dying _ y here e = absurd (none_some y e)

module _ {p : Accounts} {n : ℕ} {m : Machine} {t : ℕ} {a : Actor} {d : Duty} {rest : List Duty} where
  life_with : (x : ℕ) (dies ended : Option ℕ) → AtDuty p n m t a d rest → dies_next (next_of m t a d) ≡ dies
      → ended_row d ≡ ended → LifeStep m t d x (with_life (with_life m.life dies (Dying t)) ended Closed x)
  life_with x None None here dies ended = GoesOn refl (λ e. none_some x (sym ended ∙ e))
  life_with x None (Some y) here dies ended =
      elim (eqb_tells y x) [
        | inl same ↦
            let was = ended_dying d y here ended in
            IsClosed (ap (λ (b : Bool). cond b Closed (m.life x)) same.0) (ap m.life (sym same.1) ∙ was.1)
            (subst (λ (z : ℕ). IsCounted m.layout z) same.1 was.0) (ended ∙ ap Some same.1)
        | inr other ↦
            GoesOn (ap (λ (b : Bool). cond b Closed (m.life x)) other.0) (λ e. other.1 (some_is y x (sym ended ∙ e)))
      ]
  life_with x (Some y) None here dies ended =
      elim (eqb_tells y x) [
        | inl same ↦
            let alive = dying_was_alive y here dies in
            let positive = may_die_positive d y here (next_may_die m t a d y dies) in
            BeginsToDie (ap (λ (b : Bool). cond b (Dying t) (m.life x)) same.0) (ap m.life (sym same.1) ∙ alive.life)
            (subst (λ (z : ℕ). IsCounted m.layout z) same.1 positive) ended
        | inr other ↦ GoesOn (ap (λ (b : Bool). cond b (Dying t) (m.life x)) other.0) (λ e. none_some x (sym ended ∙ e))
      ]
  life_with x (Some y) (Some z) here dies ended = absurd (none_some y (sym (ended_kills_none m t a d z ended) ∙ dies))

module _ {p : Accounts} {n : ℕ} {m : Machine} {t : ℕ} {a : Actor} {rest : List Duty} where
  -- Every step changes a row's life in one of these four ways.
  pub life_step : (d : Duty) (x : ℕ) → AtDuty p n m t a d rest
      → LifeStep m t d x ((machine_by_duty m t a d rest).life x)
  life_step (BirthLocal y h) x here =
      let next : IsNext m t a y = (head_of here).0 in
      elim (eqb_tells y x) [
        | inl same ↦
            IsBorn (ap (λ (b : Bool). cond b Live (m.life x)) same.0)
            (ap m.life (sym same.1) ∙ next_unborn p n m t a y here.core here.found next)
            (subst (λ (z : ℕ). IsCounted m.layout z) same.1 (next_counted m t a y next)) (ap Some same.1) refl
        | inr other ↦ GoesOn (ap (λ (b : Bool). cond b Live (m.life x)) other.0) (λ e. none_some x e)
      ]
  life_step d x here = life_with x (dies_next (next_of m t a d)) (ended_row d) here refl refl

-- ---- the list of closed rows after a step

-- A step leaves the list of closed rows unchanged, or appends the row that it closes.
pub data ClosedStep (m : Machine) (t : ℕ) (d : Duty) (found : ℕ) : Type 0 where
  SameClosed : ended_row d ≡ None → (moved m.abstract (reference_effects m.memory t d found)).closed ≡ m.abstract.closed
      → ClosedStep m t d found
  OneMore : (y : ℕ) → ended_row d ≡ Some y
      → (moved m.abstract (reference_effects m.memory t d found)).closed ≡ m.abstract.closed ++ y ∷ []
      → ClosedStep m t d found

-- Every step changes the list of closed rows in one of these two ways.
pub closed_step : (m : Machine) (t : ℕ) (d : Duty) (found : ℕ) → ClosedStep m t d found
closed_step m t (SettleEnd x) found = OneMore x refl refl
closed_step m t d found =
    SameClosed refl (moved_keeps (λ p. p.closed) KeepsClosed move_keeps m.abstract
    (reference_effects m.memory t d found)
    (each_effect KeepsClosed m.memory t d found (λ mv sort. effect_keeps d mv refl sort)))
