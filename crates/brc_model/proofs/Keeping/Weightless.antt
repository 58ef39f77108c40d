-- Duties that weigh nothing at any row and finalise none: work that a thread takes up begins with such duties.
use Rattle.std.proofs.Common.{◌≡◌, ℕ, ◌+◌, Bool, true, false, cond, List, [], ◌∷◌, refl, ap, ◌∙◌, arith}
use Rattle.std.specs.List.{list_any}
use Rattle.std.specs.Prelude.{sum_by}
use Rattle.std.proofs.lemmas.List.Sums.{sum_by-cons}
use Rattle.brc_model.specs.declared.duty.Duty.{Duty}
use Rattle.brc_model.specs.declared.duty.Duty.TheVariants.{Look, TakeMark, Die, SettleKind, SettleCell, TakeField, CloseResource, SettleEnd}
use Rattle.brc_model.specs.OpenWork.{is_finalising, finalised}
use Rattle.brc_model.specs.Invariant.{looks}
use Rattle.brc_model.proofs.Basics.Lists.{first_false, second_false}
use Rattle.brc_model.proofs.Objects.RowsAfterElsewhere.{IsApart, AreApart, none_apart, more_apart, weighs, light_apart}

-- Says whether a duty weighs something at its row, looks at its mark or finalises it.
abbrev pub weighs_any : Duty → Bool
weighs_any (Look x) = true
weighs_any (TakeMark x) = true
weighs_any (SettleKind x) = true
weighs_any (SettleCell x i n) = true
weighs_any (TakeField x) = true
weighs_any (CloseResource x) = true
weighs_any (SettleEnd x) = true
weighs_any d = weighs d

record WeighsNone (x : ℕ) (d : Duty) : Type 0 where
  apart : IsApart x d
  looks : looks x d ≡ 0
  hands : is_finalising d x ≡ false

weighs_none : (x : ℕ) (d : Duty) → weighs_any d ≡ false → WeighsNone x d
weighs_none x (Die y) light = absurd cc
weighs_none x d light = record { apart = light_apart x d (cc); looks = cc; hands = cc }

-- An agenda of such duties weighs nothing at the row.
pub record Weightless (x : ℕ) (ds : List Duty) : Type 0 where
  pub apart : AreApart x ds
  pub looks : sum_by (looks x) ds ≡ 0
  pub hands : finalised ds x ≡ 0

pub weightless : (x : ℕ) (ds : List Duty) → list_any weighs_any ds ≡ false → Weightless x ds
weightless x [] light = record { apart = none_apart x; looks = refl; hands = refl }
weightless x (d ∷ ds) light =
    let this = weighs_none x d (first_false (weighs_any d) (list_any weighs_any ds) light) in
    let others = weightless x ds (second_false (weighs_any d) (list_any weighs_any ds) light) in
    record {
      apart = more_apart x d ds this.apart others.apart;
      looks = omega (arith, sum_by-cons (looks x) d ds, this.looks, others.looks);
      hands = ap (λ (b : Bool). cond b (1 + finalised ds x) (finalised ds x)) this.hands ∙ others.hands;
    }
