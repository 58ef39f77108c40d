-- Which variables a call leaves as they are: an argument that it borrows isn't one that it steals at another place.
use Rattle.std.proofs.Common.{◌≡◌, ◌≢◌, ℕ, ◌<◌, length, arith, Bool, true, false, cond, List, [], ◌∷◌, Option, None, refl, sym, ap, ◌∙◌}
use Rattle.std.specs.Prelude.{◌&&◌, ◌||◌, ◌==◌, not, fold, filter, map, slice_set}
use Rattle.std.specs.List.{AllByRecursion, list_any}
use Rattle.std.proofs.lemmas.Bool.{eq-eqb, false≢true}
use Rattle.std.proofs.lemmas.List.{length-set}
use Rattle.brc_model.proofs.Dispatch.OneMoreOrLess.{still_free}
use Rattle.brc_lang.specs.declared.parameter.Argument.{Argument}
use Rattle.brc_model.specs.declared.state.Slot.TheVariants.{Empty}
use Rattle.brc_model.specs.declared.state.State.{State}
use Rattle.brc_model.specs.SlotStates.{var_of, is_owned, put, emptied, is_stolen, stolen, clash, are_given_once}
use Rattle.brc_model.specs.Threads.{row_of}
use Rattle.brc_model.specs.Actions.{without_row}
use Rattle.brc_model.proofs.Basics.Lists.{first_false, second_false, and_first, and_second, or_second}
use Rattle.brc_model.proofs.Dispatch.Grounded.{var_of-put_other, row_of-set_other}
use Rattle.brc_model.proofs.Dispatch.Handing.{AreApart, apart_from}

not_any : (b : Bool) → not b ≡ true → b ≡ false
not_any true e = absurd cc
not_any false e = refl

-- What is true of no item is false of each.
none_of_all : {A : Type 0} (test : A → Bool) (xs : List A) → list_any test xs ≡ false
    → AllByRecursion (λ x. test x ≡ false) xs
none_of_all test [] none = tt
none_of_all test (x ∷ xs) none = (first_false _ _ none, none_of_all test xs (second_false (test x) _ none))

-- A call whose variables are given once has arguments that don't clash.
pub given_apart : (arguments : List Argument) → are_given_once arguments ≡ true → AreApart arguments
given_apart [] once = tt
given_apart (a ∷ others) once = (
  none_of_all (clash a) others (not_any _ (and_first _ _ once)),
  given_apart others (and_second _ _ once),
)

-- ---- what a call borrows

-- No stolen variable is this one.
abbrev pub IsKeptBy : List Argument → ℕ → Type 0
IsKeptBy arguments x = AllByRecursion (λ y. y ≢ x) (stolen arguments)

-- The second argument's variable isn't the first one's if the second is stolen, and they don't clash.
apart_behind : (a b : Argument) → is_stolen b ≡ true → clash a b ≡ false → b.from ≢ a.from
apart_behind a b steals free e =
    let some : (is_stolen a || is_stolen b) ≡ true = or_second (is_stolen a) (is_stolen b) steals in
    let wrong : clash a b ≡ true =
    ap (λ (c : Bool). c && (a.from == b.from)) some ∙ eq-eqb a.from b.from (sym e) in
    false≢true (sym free ∙ wrong)

-- If the first argument clashes with none after it, no variable that a later one steals is its own.
kept_behind : (a : Argument) (others : List Argument) → AllByRecursion (λ b. clash a b ≡ false) others
    → IsKeptBy others a.from
kept_behind a [] free = tt
kept_behind a (b ∷ others) free =
    let froms : List Argument → List ℕ = λ l. map (λ (x : Argument). x.from) l in
    let fs = filter is_stolen others in
    elim (is_stolen b) as
    (λ c. is_stolen b ≡ c → AllByRecursion (λ y. y ≢ a.from) (froms (cond c (b ∷ fs) fs))) [
      | true ↦ λ steals. (apart_behind a b steals free.0, kept_behind a others free.1)
      | false ↦ λ borrows. kept_behind a others free.1
    ] refl

-- One more argument in front leaves the others' variables kept, if it clashes with none of them.
kept_more : (a : Argument) (others xs : List Argument) → AllByRecursion (λ b. clash a b ≡ false) xs
    → AllByRecursion (λ b. is_stolen b ≡ false → IsKeptBy others b.from) xs
    → AllByRecursion (λ b. is_stolen b ≡ false → IsKeptBy (a ∷ others) b.from) xs
kept_more a others [] free kept = tt
kept_more a others (b ∷ xs) free kept = (
  λ borrowed.
      let froms : List Argument → List ℕ = λ l. map (λ (x : Argument). x.from) l in
      let fs = filter is_stolen others in
      elim (is_stolen a) as
      (λ c. is_stolen a ≡ c → AllByRecursion (λ y. y ≢ b.from) (froms (cond c (a ∷ fs) fs))) [
        | true ↦ λ steals. (apart_from a b steals free.0, kept.0 borrowed)
        | false ↦ λ borrows. kept.0 borrowed
      ] refl,
  kept_more a others xs free.1 kept.1,
)

-- The variable of an argument that is borrowed is kept.
pub borrowed_kept : (arguments : List Argument) → AreApart arguments
    → AllByRecursion (λ a. is_stolen a ≡ false → IsKeptBy arguments a.from) arguments
borrowed_kept [] apart = tt
borrowed_kept (a ∷ others) apart = (
  λ borrowed.
      let froms : List Argument → List ℕ = λ l. map (λ (x : Argument). x.from) l in
      let fs = filter is_stolen others in
      elim (is_stolen a) as
      (λ c. is_stolen a ≡ c → AllByRecursion (λ y. y ≢ a.from) (froms (cond c (a ∷ fs) fs))) [
        | true ↦ λ steals. absurd (false≢true (sym borrowed ∙ steals))
        | false ↦ λ borrows. kept_behind a others apart.0
      ] refl,
  kept_more a others others apart.0 (borrowed_kept others apart.1),
)

-- ---- what stays

-- A variable that is kept has its state and its row still.
pub kept_var : (s : State) (xs : List ℕ) (x : ℕ) → AllByRecursion (λ y. y ≢ x) xs
    → var_of (fold emptied s xs) x ≡ var_of s x
kept_var s [] x kept = refl
kept_var s (y ∷ xs) x kept =
    kept_var (put s y Empty) xs x kept.1 ∙ var_of-put_other s y x Empty (λ e. kept.0 (sym e))

pub kept_row : (rows : List (Option ℕ)) (xs : List ℕ) (x : ℕ) → AllByRecursion (λ y. y ≢ x) xs
    → row_of (fold without_row rows xs) x ≡ row_of rows x
kept_row rows [] x kept = refl
kept_row rows (y ∷ xs) x kept =
    kept_row (slice_set rows y None) xs x kept.1 ∙ row_of-set_other rows y x None (λ e. kept.0 (sym e))

-- Emptying variables gives none of them a reference.
pub still_unowned : (s : State) (xs : List ℕ) (x : ℕ) → AllByRecursion (λ y. y < 16) xs → length s.slots ≡ 16
    → is_owned (var_of s x) ≡ false → is_owned (var_of (fold emptied s xs) x) ≡ false
still_unowned s [] x low slots free = free
still_unowned s (y ∷ xs) x low slots free =
    still_unowned (put s y Empty) xs x low.1 (length-set s.slots y Empty ∙ slots)
    (still_free s y x (omega (arith, low.0, slots)) free)
