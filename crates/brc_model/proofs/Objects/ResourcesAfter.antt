-- After each step the resource of each file or socket is in one place: `resources_after`.
use Rattle.std.proofs.Common.{◌≡◌, ℕ, false, List, inl, inr, refl, sym, subst}
use Rattle.std.specs.Prelude.{◌==◌}
use Rattle.std.proofs.lemmas.Bool.Decides.{eqb_tells}
use Rattle.brc_model.specs.declared.duty.Holding.{Holding}
use Rattle.brc_model.specs.declared.duty.Duty.{Duty}
use Rattle.brc_model.specs.declared.duty.Duty.TheVariants.{SettleKind, SettleCell, TakeField, CloseResource, SettleEnd, BirthField, LendField, ReturnField}
use Rattle.brc_model.specs.declared.actor.Actor.{Actor}
use Rattle.brc_model.specs.Machine.{Life, Unborn, Machine, machine_by_duty}
use Rattle.brc_model.specs.Accounts.{Accounts}
use Rattle.brc_model.specs.Invariant.{AtDuty}
use Rattle.brc_model.specs.Resources.{resources_at, ResourcesFit}
use Rattle.brc_model.proofs.Basics.Blocks.{next_unborn}
use Rattle.brc_model.proofs.Frame.Leaves.{head_of}
use Rattle.brc_model.proofs.Objects.ResourcesElsewhere.{moves_resource, elsewhere}
use Rattle.brc_model.proofs.Objects.ResourcesLent.{after_lend, after_return}
use Rattle.brc_model.proofs.Objects.ResourcesSettled.{after_take, after_close, after_end, after_cell, after_kind}

module _ {p : Accounts} {n : ℕ} {m : Machine} {t : ℕ} {a : Actor} where
  -- ---- a birth

  -- The row isn't born yet, and its resource isn't closed.
  after_birth_field : (x : ℕ) (h : Holding) (rest : List Duty) → AtDuty p n m t a (BirthField x h) rest
      → ResourcesFit ((machine_by_duty m t a (BirthField x h) rest).life x)
      (resources_at (machine_by_duty m t a (BirthField x h) rest) x)
  after_birth_field x h rest here =
      let next = (head_of here).0 in
      let unborn = next_unborn p n m t a x here.core here.found next in
      let fit : ResourcesFit Unborn (resources_at m x) =
      subst (λ (l : Life). ResourcesFit l (resources_at m x)) unborn (here.core.resources x) in
      subst (λ (l : Life). ResourcesFit l (resources_at (machine_by_duty m t a (BirthField x h) rest) x)) (sym unborn)
      fit

  -- ---- every step

  here_or_elsewhere : (d : Duty) (rest : List Duty) (y x : ℕ) → AtDuty p n m t a d rest
      → ((y == x) ≡ false → moves_resource d x ≡ false)
      → ResourcesFit ((machine_by_duty m t a d rest).life y) (resources_at (machine_by_duty m t a d rest) y)
      → ResourcesFit ((machine_by_duty m t a d rest).life x) (resources_at (machine_by_duty m t a d rest) x)
  here_or_elsewhere d rest y x here apart own =
      let new = machine_by_duty m t a d rest in
      elim (eqb_tells y x) [
        | inl same ↦ subst (λ (z : ℕ). ResourcesFit (new.life z) (resources_at new z)) same.1 own
        | inr other ↦ elsewhere p n m t a d rest x here (apart other.0)
      ]

  -- After a step each resource is in one place.
  pub resources_after : (d : Duty) (rest : List Duty) (x : ℕ) → AtDuty p n m t a d rest
      → ResourcesFit ((machine_by_duty m t a d rest).life x) (resources_at (machine_by_duty m t a d rest) x)
  resources_after (SettleKind y) rest x here =
      here_or_elsewhere (SettleKind y) rest y x here (λ e. e) (after_kind p n m t a y rest here)
  resources_after (SettleCell y i k) rest x here =
      here_or_elsewhere (SettleCell y i k) rest y x here (λ e. e) (after_cell p n m t a y i k rest here)
  resources_after (TakeField y) rest x here =
      here_or_elsewhere (TakeField y) rest y x here (λ e. e) (after_take p n m t a y rest here)
  resources_after (CloseResource y) rest x here =
      here_or_elsewhere (CloseResource y) rest y x here (λ e. e) (after_close p n m t a y rest here)
  resources_after (SettleEnd y) rest x here =
      here_or_elsewhere (SettleEnd y) rest y x here (λ e. e) (after_end p n m t a y rest here)
  resources_after (BirthField y h) rest x here =
      here_or_elsewhere (BirthField y h) rest y x here (λ e. e) (after_birth_field y h rest here)
  resources_after (LendField y) rest x here =
      here_or_elsewhere (LendField y) rest y x here (λ e. e) (after_lend p n m t a y rest here)
  resources_after (ReturnField y) rest x here =
      here_or_elsewhere (ReturnField y) rest y x here (λ e. e) (after_return p n m t a y rest here)
  resources_after d rest x here = elsewhere p n m t a d rest x here refl
