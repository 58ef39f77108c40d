-- What a call does with the variables of the function that makes it: those that it steals become empty, and so does the
-- variable of the result, until the call returns.
use Rattle.std.proofs.Common.{◌≡◌, ◌⊎◌, ℕ, zero, suc, ◌<◌, Bool, true, false, cond, List, [], ◌∷◌, length, Option, None, Some, inl, inr, refl, sym, ap, ◌∙◌}
use Rattle.std.specs.Prelude.{◌||◌, not, is_some, fold, filter, map, flat_map, slice_set}
use Rattle.std.specs.List.{AllByRecursion, list_any, slice_index_or}
use Rattle.std.proofs.lemmas.List.Folds.{list_any-append}
use Rattle.std.proofs.lemmas.List.{length-set}
use Rattle.brc_lang.specs.declared.kind.Kind.{Kind}
use Rattle.brc_lang.specs.declared.kind.Kind.TheVariants as kinds
use Rattle.brc_lang.specs.declared.check_code.CheckCode.TheVariants.{EmptyUsed, WrongKind, NotOwned}
use Rattle.brc_lang.specs.declared.module.Instr.TheVariants.{Call}
use Rattle.brc_lang.specs.declared.parameter.Argument.{Argument}
use Rattle.brc_lang.specs.declared.parameter.Parameter.{Parameter}
use Rattle.brc_lang.specs.declared.parameter.Passing.{Passing}
use Rattle.brc_lang.specs.declared.parameter.Passing.TheVariants.{Borrow, Steal}
use Rattle.brc_model.specs.declared.state.Slot.{Slot}
use Rattle.brc_model.specs.declared.state.Slot.TheVariants.{Empty, Caller}
use Rattle.brc_model.specs.declared.state.State.{State}
use Rattle.brc_model.specs.declared.actor.OpenCall.{OpenCall}
use Rattle.brc_model.specs.SlotStates.{var_of, is_empty, is_owned, kind_of, is_one_of, put, emptied, stolen, steals, is_stolen, are_given_once, Condition, IsOneOf, breaks, passed_by, of_kind, of_argument, padded, parameter_var, entry_of}
use Rattle.brc_model.specs.Actions.{without_row, kept_rows, argument_rows, passed_variables}
use Rattle.brc_model.specs.Threads.{row_of}
use Rattle.brc_model.specs.Layout.{root_row}
use Rattle.brc_model.proofs.Basics.Lists.{first_false, second_false}
use Rattle.brc_model.proofs.Dispatch.Grounded.{left_by, owned_var}
use Rattle.brc_model.proofs.Dispatch.Passing.{AreMet}
use Rattle.brc_model.proofs.Dispatch.Kinds.{same_kind_is}
use Rattle.brc_model.specs.Kinds.{same_kind}

-- ---- variables that are one of the sixteen

-- Each of the variables is one of the sixteen.
abbrev pub AreLow : List ℕ → Type 0
AreLow xs = AllByRecursion (λ x. x < 16) xs

-- The variables of a call's arguments are.
abbrev pub ArgumentsLow : List Argument → Type 0
ArgumentsLow arguments = AllByRecursion (λ a. a.from < 16) arguments

-- The variables that the call steals are.
pub stolen_low : (arguments : List Argument) → ArgumentsLow arguments → AreLow (stolen arguments)
stolen_low [] low = tt
stolen_low (a ∷ others) low =
    elim (is_stolen a) as
    (λ b. AreLow (map (λ x. x.from) (cond b (a ∷ filter is_stolen others) (filter is_stolen others)))) [
      | true ↦ (low.0, stolen_low others low.1)
      | false ↦ stolen_low others low.1
    ]

-- ---- variables become empty

-- State and variables, which are sixteen.
pub record AreSixteen (s : State) (rows : List (Option ℕ)) : Type 0 where
  pub slots : length s.slots ≡ 16
  pub named : length rows ≡ 16

-- A variable that becomes empty leaves sixteen.
pub put_sixteen : (s : State) (rows : List (Option ℕ)) (x : ℕ) → AreSixteen s rows
    → AreSixteen (put s x Empty) (slice_set rows x None)
put_sixteen s rows x all =
    record { slots = length-set s.slots x Empty ∙ all.slots; named = length-set rows x None ∙ all.named }

-- What stays true where one variable becomes empty stays so where several do.
pub emptied_keeps : (P : State → List (Option ℕ) → Type 0)
    → ((s : State) (rows : List (Option ℕ)) (x : ℕ) → AreSixteen s rows → x < 16 → P s rows
    → P (put s x Empty) (slice_set rows x None))
    → (s : State) (rows : List (Option ℕ)) (xs : List ℕ) → AreLow xs → AreSixteen s rows → P s rows
    → AreSixteen (fold emptied s xs) (fold without_row rows xs)
    × P (fold emptied s xs) (fold without_row rows xs)
emptied_keeps P step s rows [] low all holds = (all, holds)
emptied_keeps P step s rows (x ∷ xs) low all holds =
    emptied_keeps P step (put s x Empty) (slice_set rows x None) xs low.1 (put_sixteen s rows x all)
    (step s rows x all low.0 holds)

-- So it does while a call waits for the one that it has made.
pub left_keeps : (P : State → List (Option ℕ) → Type 0)
    → ((s : State) (rows : List (Option ℕ)) (x : ℕ) → AreSixteen s rows → x < 16 → P s rows
    → P (put s x Empty) (slice_set rows x None))
    → (s : State) (rows : List (Option ℕ)) (arguments : List Argument) (o : OpenCall) → ArgumentsLow arguments
    → o.to < 16 → AreSixteen s rows → P s rows
    → AreSixteen (left_by o arguments s) (kept_rows rows arguments o.to)
    × P (left_by o arguments s) (kept_rows rows arguments o.to)
left_keeps P step s rows arguments o low to_low all holds =
    let stole = emptied_keeps P step s rows (stolen arguments) (stolen_low arguments low) all holds in (
      put_sixteen (fold emptied s (stolen arguments)) (fold without_row rows (stolen arguments)) o.to stole.0,
      step (fold emptied s (stolen arguments)) (fold without_row rows (stolen arguments)) o.to stole.0 to_low stole.1,
    )

-- ---- the result

-- An item that is replaced twice is the second one then.
set_twice : {A : Type 0} (xs : List A) (i : ℕ) (one two : A)
    → slice_set (slice_set xs i one) i two ≡ slice_set xs i two
set_twice [] i one two = refl
set_twice (x ∷ xs) zero one two = refl
set_twice {A = A} (x ∷ xs) (suc i) one two = ap (λ (l : List A). x ∷ l) (set_twice xs i one two)

-- The success exit leaves the result beside what the fault exit leaves.
pub put_twice : (s : State) (x : ℕ) (one two : Slot) → put (put s x one) x two ≡ put s x two
put_twice s x one two = λ i. record s { slots = set_twice s.slots x one two i }

-- ---- the conditions of a call

-- What a call whose conditions are met knows of an argument.
pub record ArgumentMet (s : State) (a : Argument) : Type 0 where
  pub some : is_empty (var_of s a.from) ≡ false
  pub kind : (a.parameter.kind ≡ kinds.Any) ⊎ (kind_of (var_of s a.from) ≡ a.parameter.kind)
  pub owned : is_stolen a ≡ true → is_owned (var_of s a.from) ≡ true

pub record CallMet (s : State) (to : ℕ) (arguments : List Argument) : Type 0 where
  pub each : AllByRecursion (ArgumentMet s) arguments
  pub once : are_given_once arguments ≡ true
  pub unlocked : s.locked ≡ None
  pub free : is_owned (var_of s to) ≡ false

-- However it is passed, the variable isn't empty.
passed_some : (s : State) (p : Passing) (x : ℕ) → breaks s EmptyUsed (passed_by p x) ≡ false
    → is_empty (var_of s x) ≡ false
passed_some s Borrow x met = met
passed_some s Steal x met = met

-- If it is stolen, the variable owns its reference.
passed_owned : (s : State) (p : Passing) (x : ℕ) → breaks s EmptyUsed (passed_by p x) ≡ false
    → breaks s NotOwned (passed_by p x) ≡ false → steals p ≡ true → is_owned (var_of s x) ≡ true
passed_owned s Borrow x some owned stolen = absurd cc
passed_owned s Steal x some owned stolen = owned_var (var_of s x) some owned

not_given : (b : Bool) → not b ≡ false → b ≡ true
not_given true e = refl
not_given false e = absurd cc

no_lock_yet : (o : Option ℕ) → is_some o ≡ false → o ≡ None
no_lock_yet None none = refl
no_lock_yet (Some x) none = absurd cc

is_one : (one other : Kind) → is_one_of one (other ∷ []) ≡ true → same_kind one other ≡ true
is_one one other is = elim (same_kind one other) as (λ b. (b || false) ≡ true → b ≡ true) [
  | true ↦ λ e. refl
  | false ↦ λ e. e
] is

-- A kind that is one of one kind is that one.
one_kind : (s : State) (kind : Kind) (x : ℕ) → breaks s WrongKind (IsOneOf x (kind ∷ [])) || false ≡ false
    → kind_of (var_of s x) ≡ kind
one_kind s kind x met =
    same_kind_is (kind_of (var_of s x)) kind
    (is_one (kind_of (var_of s x)) kind (not_given (is_one_of (kind_of (var_of s x)) (kind ∷ []))
    (first_false _ _ met)))

-- The variable is of the parameter's kind, if that names one.
kind_met : (s : State) (kind : Kind) (x : ℕ) → list_any (breaks s WrongKind) (of_kind kind x) ≡ false
    → (kind ≡ kinds.Any) ⊎ (kind_of (var_of s x) ≡ kind)
kind_met s kinds.Any x met = inl refl
kind_met s kinds.None x met = inr (one_kind s kinds.None x met)
kind_met s kinds.Num x met = inr (one_kind s kinds.Num x met)
kind_met s kinds.List x met = inr (one_kind s kinds.List x met)
kind_met s kinds.File x met = inr (one_kind s kinds.File x met)
kind_met s kinds.Sock x met = inr (one_kind s kinds.Sock x met)

-- What no argument's condition breaks in a way, none of its own breaks so.
argument_free : (test : Condition → Bool) (arguments : List Argument)
    → list_any test (flat_map of_argument arguments) ≡ false
    → AllByRecursion (λ a. list_any test (of_argument a) ≡ false) arguments
argument_free test [] free = tt
argument_free test (a ∷ others) free =
    let both : (list_any test (of_argument a) || list_any test (flat_map of_argument others)) ≡ false =
    sym (list_any-append test (of_argument a) (flat_map of_argument others)) ∙ free in
    (first_false _ _ both, argument_free test others (second_false _ _ both))

-- So each argument meets what the call asks of it.
arguments_met : (s : State) (arguments : List Argument)
    → AllByRecursion (λ a. list_any (breaks s EmptyUsed) (of_argument a) ≡ false) arguments
    → AllByRecursion (λ a. list_any (breaks s WrongKind) (of_argument a) ≡ false) arguments
    → AllByRecursion (λ a. list_any (breaks s NotOwned) (of_argument a) ≡ false) arguments
    → AllByRecursion (ArgumentMet s) arguments
arguments_met s [] some kind owned = tt
arguments_met s (a ∷ others) some kind owned =
    let passing = a.parameter.passing in (
      record {
        some = passed_some s passing a.from (first_false _ _ some.0);
        kind = kind_met s a.parameter.kind a.from
            (second_false (breaks s WrongKind (passed_by passing a.from)) _ kind.0);
        owned = passed_owned s passing a.from (first_false _ _ some.0) (first_false _ _ owned.0);
      },
      arguments_met s others some.1 kind.1 owned.1,
    )

-- What a call whose conditions are met knows.
pub call_met : (s : State) (to callee otherwise : ℕ) (arguments : List Argument)
    → AreMet (Call to callee arguments otherwise) s → CallMet s to arguments
call_met s to callee otherwise arguments met = record {
  each = arguments_met s arguments (argument_free (breaks s EmptyUsed) arguments (second_false _ _ met.not_empty))
      (argument_free (breaks s WrongKind) arguments met.right_kind)
      (argument_free (breaks s NotOwned) arguments met.owned);
  once = not_given (are_given_once arguments) (first_false _ _ met.not_empty);
  unlocked = no_lock_yet s.locked (first_false _ _ met.first_lock);
  free = first_false _ _ met.free;
}

-- ---- the callee's variables

-- What holds of the variables that no parameter has, and of each parameter's, holds of all those from v1 on.
padded_each : (P : Slot → Option ℕ → Type 0) → P Empty None → (n v : ℕ) (rows : List (Option ℕ))
    (arguments : List Argument)
    → AllByRecursion (λ a. P (parameter_var a.parameter) (row_of rows a.from)) arguments
    → P (slice_index_or (padded n Empty (map parameter_var (map (λ a. a.parameter) arguments))) v Empty)
    (row_of (padded n None (argument_rows rows arguments)) v)
padded_each P none zero v rows arguments each = none
padded_each P none (suc n) zero rows [] each = none
padded_each P none (suc n) (suc v) rows [] each = padded_each P none n v rows [] tt
padded_each P none (suc n) zero rows (a ∷ others) each = each.0
padded_each P none (suc n) (suc v) rows (a ∷ others) each = padded_each P none n v rows others each.1

-- What holds of the root, of the variables that no parameter has, and of each parameter's, holds of all variables of
-- the callee at its entry.
pub passed_each : (P : Slot → Option ℕ → Type 0) → P (Caller kinds.List) (Some root_row) → P Empty None
    → (rows : List (Option ℕ)) (arguments : List Argument)
    → AllByRecursion (λ a. P (parameter_var a.parameter) (row_of rows a.from)) arguments
    → (v : ℕ) → P (var_of (entry_of (map (λ a. a.parameter) arguments)) v) (row_of (passed_variables rows arguments) v)
passed_each P root none rows arguments each zero = root
passed_each P root none rows arguments each (suc v) = padded_each P none 15 v rows arguments each

-- A list that is filled up is as long as it is to be.
padded_length : {A : Type 0} (n : ℕ) (item : A) (xs : List A) → length (padded n item xs) ≡ n
padded_length zero item xs = refl
padded_length (suc n) item [] = ap suc (padded_length n item [])
padded_length (suc n) item (x ∷ xs) = ap suc (padded_length n item xs)

pub entry_length : (ps : List Parameter) → length (entry_of ps).slots ≡ 16
entry_length ps = ap suc (padded_length 15 Empty (map parameter_var ps))

pub passed_length : (rows : List (Option ℕ)) (arguments : List Argument)
    → length (passed_variables rows arguments) ≡ 16
passed_length rows arguments = ap suc (padded_length 15 None (argument_rows rows arguments))
