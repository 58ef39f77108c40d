-- Lists of holdings in which each holding is as often as in another list are as long.
use Rattle.std.proofs.Common.{◌≡◌, ℕ, zero, suc, ◌+◌, ◌≤◌, List, [], ◌∷◌, ◌++◌, length, Bool, true, false, cond, refl, ap, arith}
use Rattle.std.specs.Prelude.{count_by}
use Rattle.std.proofs.lemmas.List.Sums.{sum_by-append, sum_by-cons}
use Rattle.brc_model.specs.declared.duty.Holding.{Holding}
use Rattle.brc_model.specs.declared.duty.Holding.TheVariants.{AsCaller}
use Rattle.brc_model.specs.AbstractState.{same_holding}
use Rattle.brc_model.specs.References.{one_if}
use Rattle.brc_model.proofs.Basics.Bag.{same_holding-true, same_holding-refl}

-- how often the list has the holding
abbrev pub tally : Holding → List Holding → ℕ
tally k hs = count_by (λ h. same_holding h k) hs

pub tally_both : (k : Holding) (hs others : List Holding) → tally k (hs ++ others) ≡ tally k hs + tally k others
tally_both k hs others = sum_by-append (λ h. cond (same_holding h k) 1 0) hs others

pub tally_more : (h k : Holding) (hs : List Holding) → tally k (h ∷ hs) ≡ one_if (same_holding h k) + tally k hs
tally_more h k hs = sum_by-cons (λ g. cond (same_holding g k) 1 0) h hs

-- the list with one such holding taken out, if it has one
abbrev taken_out : Holding → List Holding → List Holding
taken_out h [] = []
taken_out h (g ∷ hs) = cond (same_holding g h) hs (g ∷ taken_out h hs)

record IsTakenOut (h : Holding) (hs : List Holding) : Type 0 where
  shorter : length hs ≡ 1 + length (taken_out h hs)
  fewer : (k : Holding) → tally k hs ≡ one_if (same_holding h k) + tally k (taken_out h hs)

-- A list is longer by the holding that is taken out of it, and has it once more.
is_taken_out : (h : Holding) (hs : List Holding) → 1 ≤ tally h hs → IsTakenOut h hs
is_taken_out h [] some = absurd (omega (arith, some))
is_taken_out h (g ∷ hs) some =
    elim (same_holding g h) as (λ b. same_holding g h ≡ b → IsTakenOut h (g ∷ hs)) [
      | true ↦ λ this.
          let out : taken_out h (g ∷ hs) ≡ hs = ap (λ (b : Bool). cond b hs (g ∷ taken_out h hs)) this in
          record {
            shorter = let long = ap (λ (l : List Holding). length l) out in omega (arith, long);
            fewer = λ k.
                let same = ap (λ (f : Holding). one_if (same_holding f k)) (same_holding-true g h this) in
                let left = ap (tally k) out in
                omega (arith, tally_more g k hs, same, left);
          }
      | false ↦ λ other.
          let out : taken_out h (g ∷ hs) ≡ g ∷ taken_out h hs =
          ap (λ (b : Bool). cond b hs (g ∷ taken_out h hs)) other in
          let none : one_if (same_holding g h) ≡ 0 = ap one_if other in
          let rest = is_taken_out h hs (omega (arith, some, tally_more g h hs, none)) in
          record {
            shorter = let long = ap (λ (l : List Holding). length l) out in omega (arith, long, rest.shorter);
            fewer = λ k.
                let left = ap (tally k) out in
                omega (arith, tally_more g k hs, tally_more g k (taken_out h hs), rest.fewer k, left);
          }
    ] refl

-- Lists with the same holdings, each as often, have one length.
pub same_length : (hs others : List Holding) → ((k : Holding) → tally k hs ≡ tally k others) → length hs ≡ length others
same_length [] [] same = refl
same_length [] (g ∷ others) same =
    let one : one_if (same_holding g g) ≡ 1 = ap one_if (same_holding-refl g) in
    absurd (omega (arith, same g, tally_more g g others, one))
same_length (h ∷ hs) others same =
    let one : one_if (same_holding h h) ≡ 1 = ap one_if (same_holding-refl h) in
    let out = is_taken_out h others (omega (arith, same h, tally_more h h hs, one)) in
    let rest = same_length hs (taken_out h others) (λ k. omega (arith, same k, tally_more h k hs, out.fewer k)) in
    omega (arith, out.shorter, rest)

-- ---- as the caller alone

abbrev pub callers : ℕ → List Holding
callers zero = []
callers (suc count) = AsCaller ∷ callers count

pub callers_long : (count : ℕ) → length (callers count) ≡ count
callers_long zero = refl
callers_long (suc count) = ap suc (callers_long count)

pub callers_here : (count : ℕ) → tally AsCaller (callers count) ≡ count
callers_here zero = refl
callers_here (suc count) =
    let more = tally_more AsCaller AsCaller (callers count) in omega (arith, more, callers_here count)

pub callers_else : (k : Holding) (count : ℕ) → same_holding AsCaller k ≡ false → tally k (callers count) ≡ 0
callers_else k zero other = refl
callers_else k (suc count) other =
    let more = tally_more AsCaller k (callers count) in
    let none : one_if (same_holding AsCaller k) ≡ 0 = ap one_if other in
    omega (arith, more, none, callers_else k count other)
