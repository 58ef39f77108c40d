-- Which duties of a settling need a step: all but to settle an empty chain.
use Rattle.std.proofs.Common.{◌≡◌, ℕ, zero, suc, List, ◌∷◌, refl}
use Rattle.brc_model.specs.declared.duty.Duty.{Duty}
use Rattle.brc_model.specs.declared.duty.Duty.TheVariants.{SettleKind, SettleCell, TakeField, SettleEnd}
use Rattle.brc_model.specs.Duties.{ready}

pub settle_kind_first : (head : ℕ) (x : ℕ) (rest : List Duty) → ready head (SettleKind x ∷ rest) ≡ SettleKind x ∷ rest
settle_kind_first zero x rest = refl
settle_kind_first (suc head) x rest = refl

pub settle_cell_first : (head : ℕ) (x i n : ℕ) (rest : List Duty) → ready head (SettleCell x i n ∷ rest)
    ≡ SettleCell x i n ∷ rest
settle_cell_first zero x i n rest = refl
settle_cell_first (suc head) x i n rest = refl

pub take_field_first : (head : ℕ) (x : ℕ) (rest : List Duty) → ready head (TakeField x ∷ rest) ≡ TakeField x ∷ rest
take_field_first zero x rest = refl
take_field_first (suc head) x rest = refl

pub settle_end_first : (head : ℕ) (x : ℕ) (rest : List Duty) → ready head (SettleEnd x ∷ rest) ≡ SettleEnd x ∷ rest
settle_end_first zero x rest = refl
settle_end_first (suc head) x rest = refl
