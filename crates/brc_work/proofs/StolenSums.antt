-- What variables own in all, when a call takes from them what it steals.
use Rattle.std.proofs.Common.{◌≡◌, ◌≢◌, ℕ, zero, suc, ◌+◌, ◌<◌, ◌≤◌, true, false, cond, List, [], ◌∷◌, length, map, Option, None, Some, refl, sym, ap, ◌∙◌, arith}
use Rattle.std.specs.Prelude.{fold, filter, slice_set}
use Rattle.std.specs.List.{AllByRecursion}
use Rattle.brc_lang.specs.declared.kind.Kind.{Kind}
use Rattle.brc_lang.specs.declared.kind.Kind.TheVariants as kinds
use Rattle.brc_lang.specs.declared.parameter.Argument.{Argument}
use Rattle.brc_lang.specs.declared.parameter.Passing.{Passing}
use Rattle.brc_lang.specs.declared.parameter.Passing.TheVariants.{Borrow, Steal}
use Rattle.brc_model.specs.Actions.{without_row, argument_rows, passed_variables}
use Rattle.brc_model.specs.Layout.{root_row}
use Rattle.brc_model.specs.Threads.{row_of}
use Rattle.brc_model.specs.SlotStates.{var_of, is_owned, put, emptied, steals, is_stolen, stolen, clash, without_stolen, padded, passed_var, parameter_var, entry_of}
use Rattle.brc_model.specs.declared.layout.Layout.{Layout}
use Rattle.brc_model.specs.declared.state.State.{State}
use Rattle.brc_model.specs.declared.state.Slot.{Slot}
use Rattle.brc_model.specs.declared.state.Slot.TheVariants.{Empty, Owned, Caller, Locked}
use Rattle.brc_model.proofs.Dispatch.Calls.{ArgumentsLow, AreSixteen, put_sixteen, ArgumentMet}
use Rattle.brc_model.proofs.Dispatch.Grounded.{var_of-put_other, row_of-set_other}
use Rattle.brc_model.proofs.Dispatch.Handing.{AreApart, apart_from}
use Rattle.brc_work.specs.Fits.{owns, lists, over_variables}
use Rattle.brc_work.proofs.Owning.{sum_set, owns_no, lists_no}

-- call that waits goes on.

-- ---- what variables own in all

-- The number is one of what a variable owns: without a reference it is 0, and the kind makes no difference.
pub record Counts (f : Slot → Option ℕ → ℕ) : Type 0 where
  pub bare : (slot : Slot) (row : Option ℕ) → is_owned slot ≡ false → f slot row ≡ 0
  pub alike : (k : Kind) (slot : Slot) (row : Option ℕ) → is_owned slot ≡ true → f (Owned k) row ≡ f slot row

owns_alike : (y : ℕ) (k : Kind) (slot : Slot) (row : Option ℕ) → is_owned slot ≡ true
    → owns y (Owned k) row ≡ owns y slot row
owns_alike y k (Owned j) None owned = refl
owns_alike y k (Owned j) (Some x) owned = refl
owns_alike y k Empty row owned = let wrong : false ≡ true = owned in absurd cc
owns_alike y k (Caller j) row owned = let wrong : false ≡ true = owned in absurd cc
owns_alike y k (Locked j) row owned = let wrong : false ≡ true = owned in absurd cc

lists_alike : (layout : Layout) (k : Kind) (slot : Slot) (row : Option ℕ) → is_owned slot ≡ true
    → lists layout (Owned k) row ≡ lists layout slot row
lists_alike layout k (Owned j) None owned = refl
lists_alike layout k (Owned j) (Some x) owned = refl
lists_alike layout k Empty row owned = let wrong : false ≡ true = owned in absurd cc
lists_alike layout k (Caller j) row owned = let wrong : false ≡ true = owned in absurd cc
lists_alike layout k (Locked j) row owned = let wrong : false ≡ true = owned in absurd cc

pub owns_counts : (y : ℕ) → Counts (owns y)
owns_counts y = record { bare = owns_no y; alike = owns_alike y }

pub lists_counts : (layout : Layout) → Counts (lists layout)
lists_counts layout = record { bare = lists_no layout; alike = lists_alike layout }

module _ (f : Slot → Option ℕ → ℕ) (counts : Counts f) where
  -- what the call steals from these variables
  abbrev stolen_sum : State → List (Option ℕ) → List Argument → ℕ
  stolen_sum s rows [] = 0
  stolen_sum s rows (a ∷ others) =
      cond (is_stolen a) (f (var_of s a.from) (row_of rows a.from)) 0 + stolen_sum s rows others

  -- A variable that becomes empty takes away what it owned.
  pub put_sum : (s : State) (rows : List (Option ℕ)) (x : ℕ) → AreSixteen s rows → x < 16
      → over_variables f (put s x Empty).slots (slice_set rows x None) + f (var_of s x) (row_of rows x)
      ≡ over_variables f s.slots rows
  put_sum s rows x all low =
      let sums = sum_set f x s.slots rows Empty None (omega (arith, low, all.slots)) (omega (arith, low, all.named)) in
      omega (arith, sums, counts.bare Empty None refl)

  -- Another variable's becoming empty changes nothing of what is stolen.
  stolen_still : (s : State) (rows : List (Option ℕ)) (a : Argument) (others : List Argument) → is_stolen a ≡ true
      → AllByRecursion (λ b. clash a b ≡ false) others
      → stolen_sum (put s a.from Empty) (slice_set rows a.from None) others ≡ stolen_sum s rows others
  stolen_still s rows a [] steals free = refl
  stolen_still s rows a (b ∷ others) steals free =
      let ne : b.from ≢ a.from = λ e. apart_from a b steals free.0 (sym e) in
      let rest = stolen_still s rows a others steals free.1 in
      let one : f (var_of (put s a.from Empty) b.from) (row_of (slice_set rows a.from None) b.from)
      ≡ f (var_of s b.from) (row_of rows b.from) =
      ap (λ (w : Slot). f w (row_of (slice_set rows a.from None) b.from))
      (var_of-put_other s a.from b.from Empty ne)
      ∙ ap (f (var_of s b.from)) (row_of-set_other rows a.from b.from None ne) in
      ap (λ (n : ℕ). cond (is_stolen b) n 0
      + stolen_sum (put s a.from Empty) (slice_set rows a.from None) others) one
      ∙ ap (λ (n : ℕ). cond (is_stolen b) (f (var_of s b.from) (row_of rows b.from)) 0 + n) rest

  -- The variables own the rest.
  pub emptied_sum : (s : State) (rows : List (Option ℕ)) (arguments : List Argument) → AreSixteen s rows
      → ArgumentsLow arguments → AreApart arguments
      → over_variables f (without_stolen s arguments).slots (fold without_row rows (stolen arguments))
      + stolen_sum s rows arguments ≡ over_variables f s.slots rows
  emptied_sum s rows [] all low apart = omega arith
  emptied_sum s rows (a ∷ others) all low apart =
      let froms : List Argument → List ℕ = λ l. map (λ (x : Argument). x.from) l in
      let fs = filter is_stolen others in
      elim (is_stolen a) as (λ c. is_stolen a ≡ c
      → over_variables f (fold emptied s (froms (cond c (a ∷ fs) fs))).slots
      (fold without_row rows (froms (cond c (a ∷ fs) fs)))
      + (cond c (f (var_of s a.from) (row_of rows a.from)) 0 + stolen_sum s rows others)
      ≡ over_variables f s.slots rows) [
        | true ↦ λ steals.
            let rest =
            emptied_sum (put s a.from Empty) (slice_set rows a.from None) others (put_sixteen s rows a.from all) low.1
            apart.1 in
            let still = stolen_still s rows a others steals apart.0 in
            let one = put_sum s rows a.from all low.0 in
            omega (arith, rest, still, one)
        | false ↦ λ borrows. let rest = emptied_sum s rows others all low.1 apart.1 in omega (arith, rest)
      ] refl

  -- What a parameter's variable owns is what was stolen for it.
  passed_one : (p : Passing) (kind : Kind) (slot : Slot) (row : Option ℕ)
      → (steals p ≡ true → is_owned slot ≡ true) → f (passed_var p kind) row ≡ cond (steals p) (f slot row) 0
  passed_one Borrow kind slot row owned = counts.bare (Caller kind) row refl
  passed_one Steal kind slot row owned = counts.alike kind slot row (owned refl)

  padded_sum : (n : ℕ) (s : State) (rows : List (Option ℕ)) (arguments : List Argument) → length arguments ≤ n
      → AllByRecursion (ArgumentMet s) arguments
      → over_variables f (padded n Empty (map parameter_var (map (λ a. a.parameter) arguments)))
      (padded n None (argument_rows rows arguments)) ≡ stolen_sum s rows arguments
  padded_sum zero s rows [] few met = refl
  padded_sum zero s rows (a ∷ others) few met = absurd (omega (arith, few))
  padded_sum (suc n) s rows [] few met =
      let rest = padded_sum n s rows [] (omega arith) tt in omega (arith, rest, counts.bare Empty None refl)
  padded_sum (suc n) s rows (a ∷ others) few met =
      let rest = padded_sum n s rows others (omega (arith, few)) met.1 in
      let one = passed_one a.parameter.passing a.parameter.kind (var_of s a.from) (row_of rows a.from) met.0.owned in
      omega (arith, rest, one)

  pub entry_sum : (s : State) (rows : List (Option ℕ)) (arguments : List Argument) → length arguments ≤ 15
      → AllByRecursion (ArgumentMet s) arguments
      → over_variables f (entry_of (map (λ a. a.parameter) arguments)).slots (passed_variables rows arguments)
      ≡ stolen_sum s rows arguments
  entry_sum s rows arguments few met =
      let rest = padded_sum 15 s rows arguments few met in
      omega (arith, rest, counts.bare (Caller kinds.List) (Some root_row) refl)
