-- Calls: what their arguments are asked, and what a function has of them at its entry.
use Rattle.std.proofs.Common.{◌≡◌, ℕ, zero, suc, ◌+◌, ◌<◌, ◌≤◌, Bool, true, false, not, ◌||◌, cond, List, [], ◌∷◌}
use Rattle.std.proofs.Common.{◌++◌, length, Option, map, refl, sym, ap, ◌∙◌, arith}
use Rattle.std.specs.Prelude.{None, Some, is_some, take, drop, flat_map, slice_set}
use Rattle.std.specs.Bool.{then_some}
use Rattle.std.specs.List.{list_any, slice_index_or}
use Rattle.std.proofs.lemmas.List.{drop_all, take_all}
use Rattle.brc_lang.specs.declared.kind.Kind.{Kind}
use Rattle.brc_lang.specs.declared.kind.Kind.TheVariants as kinds
use Rattle.brc_lang.specs.declared.module.Instr.TheVariants.{Call}
use Rattle.brc_lang.specs.declared.parameter.Argument.{Argument}
use Rattle.brc_lang.specs.declared.parameter.Parameter.{Parameter}
use Rattle.brc_lang.specs.declared.parameter.Passing.{Passing}
use Rattle.brc_lang.specs.declared.parameter.Passing.TheVariants.{Borrow, Steal}
use Rattle.brc_lang.specs.declared.check_code.CheckCode.{CheckCode}
use Rattle.brc_lang.specs.declared.check_code.CheckCode.TheVariants.{EmptyUsed, WrongKind, NotOwned, StillOwns, LeftOwned}
use Rattle.brc_lang.specs.declared.check_code.CheckCode.TheVariants.{LeftLocked, SecondLock, NotLocked, LockedChanged}
use Rattle.brc_model.specs.declared.state.State.{State}
use Rattle.brc_model.specs.declared.state.Slot.{Slot}
use Rattle.brc_model.specs.declared.state.Slot.TheVariants.{Empty, Owned, Caller, Locked}
use Rattle.brc_model.specs.SlotStates.{Condition, var_of, is_empty, is_owned, names, are_given_once}
use Rattle.brc_model.specs.SlotStates.{without_stolen, breaks, passed_by, of_kind, of_argument, applies, lowest, padded}
use Rattle.brc_model.specs.SlotStates.{parameter_var}

-- ---- the entry

-- one item more of those before the padding
padded_set : {A B : Type 0} (h : B → A) (n k : ℕ) (d : A) (xs : List B) (e : B) → k < length xs
    → slice_set (padded n d (map h (take k xs))) k (h (slice_index_or xs k e)) ≡ padded n d (map h (take (suc k) xs))
padded_set h zero k d xs e lt = refl
padded_set h (suc n) k d [] e lt = absurd (omega (arith, lt))
padded_set h (suc n) zero d (x ∷ xs) e lt = refl
padded_set h (suc n) (suc k) d (x ∷ xs) e lt = ap (λ zs. h x ∷ zs) (padded_set h n k d xs e (omega (arith, lt)))

-- items that have no place in the padded list don't matter
padded_take : {A B : Type 0} (h : B → A) (n k : ℕ) (d : A) (xs : List B) → n ≤ k
    → padded n d (map h (take k xs)) ≡ padded n d (map h xs)
padded_take h zero k d xs le = refl
padded_take h (suc n) zero d xs le = absurd (omega (arith, le))
padded_take h (suc n) (suc k) d [] le = refl
padded_take h (suc n) (suc k) d (x ∷ xs) le = ap (λ zs. h x ∷ zs) (padded_take h n k d xs (omega (arith, le)))

-- the variables at the entry, where only the first parameters have theirs
abbrev pub entry_to : ℕ → List Parameter → List Slot
entry_to number parameters = Caller kinds.List ∷ padded 15 Empty (map parameter_var (take number parameters))

-- one parameter more has its variable
pub entry_more : (slots : List Slot) (parameters : List Parameter) (number : ℕ) (none : Parameter) (v : Slot)
    → slots ≡ entry_to number parameters → number < length parameters
    → v ≡ parameter_var (slice_index_or parameters number none)
    → slice_set slots (number + 1) v ≡ entry_to (number + 1) parameters
entry_more slots parameters number none v is lt is_v =
    let next : number + 1 ≡ suc number = omega arith in
    (λ i. slice_set (is i) (next i) (is_v i))
    ∙ ap (λ (vs : List Slot). Caller kinds.List ∷ vs) (padded_set parameter_var 15 number Empty parameters none lt)
    ∙ ap (λ n. entry_to n parameters) (sym next)

-- no parameter is left
pub entry_past : (slots : List Slot) (parameters : List Parameter) (number : ℕ)
    → slots ≡ entry_to number parameters → length parameters ≤ number → slots ≡ entry_to (number + 1) parameters
entry_past slots parameters number is past =
    is ∙ ap (λ (ps : List Parameter). Caller kinds.List ∷ padded 15 Empty (map parameter_var ps))
    (take_all number parameters past ∙ sym (take_all (number + 1) parameters (omega (arith, past))))

-- each variable has had its turn
pub entry_all : (slots : List Slot) (parameters : List Parameter) (number : ℕ)
    → slots ≡ entry_to number parameters → 15 ≤ number
    → slots ≡ Caller kinds.List ∷ padded 15 Empty (map parameter_var parameters)
entry_all slots parameters number is all =
    is ∙ ap (λ (vs : List Slot). Caller kinds.List ∷ vs)
    (padded_take parameter_var 15 number Empty parameters all)

-- ---- what a call steals

-- no argument is left
pub stolen_all : (s : State) (arguments : List Argument) (k : ℕ) → length arguments ≤ k
    → without_stolen s (drop k arguments) ≡ s
stolen_all s arguments k past = ap (without_stolen s) (drop_all k arguments past)

-- ---- arguments that are given once

-- no argument is left
pub given_all : (arguments : List Argument) (k : ℕ) → length arguments ≤ k → are_given_once (drop k arguments) ≡ true
given_all arguments k past = ap are_given_once (drop_all k arguments past)

-- ---- the conditions of a call

or_false : (b : Bool) → (b || false) ≡ b
or_false true = refl
or_false false = refl

or_more : (b c d : Bool) → ((b || c) || d) ≡ (b || (c || d))
or_more true c d = refl
or_more false c d = refl

-- a condition of two lists is broken
any_append : {A : Type 0} (h : A → Bool) (xs ys : List A) → list_any h (xs ++ ys) ≡ (list_any h xs || list_any h ys)
any_append h [] ys = refl
any_append h (x ∷ xs) ys =
    ap (λ b. h x || b) (any_append h xs ys) ∙ sym (or_more (h x) (list_any h xs) (list_any h ys))

-- some condition on some argument is broken
any_of_arguments : (h : Condition → Bool) (arguments : List Argument)
    → list_any h (flat_map of_argument arguments) ≡ list_any (λ a. list_any h (of_argument a)) arguments
any_of_arguments h [] = refl
any_of_arguments h (a ∷ others) =
    any_append h (of_argument a) (flat_map of_argument others)
    ∙ ap (λ b. list_any h (of_argument a) || b) (any_of_arguments h others)

-- tests that agree find the same
same_any : {A : Type 0} (g h : A → Bool) (xs : List A) → ((x : A) → g x ≡ h x) → list_any g xs ≡ list_any h xs
same_any g h [] each = refl
same_any g h (x ∷ xs) each = λ i. each x i || same_any g h xs each i

-- a test that nothing passes finds nothing
none_of : {A : Type 0} (h : A → Bool) (xs : List A) → ((x : A) → h x ≡ false) → list_any h xs ≡ false
none_of h [] each = refl
none_of h (x ∷ xs) each = λ i. each x i || none_of h xs each i

-- a kind asks only whether the object is of one of some kinds
of_kind_alone : (h : Condition → Bool) (k : Kind) (x : ℕ)
    → ((asked : List Kind) → h (Condition.IsOneOf x asked) ≡ false) → list_any h (of_kind k x) ≡ false
of_kind_alone h kinds.None x each = λ i. each (kinds.None ∷ []) i || false
of_kind_alone h kinds.Num x each = λ i. each (kinds.Num ∷ []) i || false
of_kind_alone h kinds.List x each = λ i. each (kinds.List ∷ []) i || false
of_kind_alone h kinds.File x each = λ i. each (kinds.File ∷ []) i || false
of_kind_alone h kinds.Sock x each = λ i. each (kinds.Sock ∷ []) i || false
of_kind_alone h kinds.Any x each = refl

-- no argument is asked what this names
unbroken : (h : Condition → Bool) (arguments : List Argument) → ((x : ℕ) → h (Condition.Use x) ≡ false)
    → ((x : ℕ) → h (Condition.Give x) ≡ false) → ((x : ℕ) (asked : List Kind) → h (Condition.IsOneOf x asked) ≡ false)
    → list_any h (flat_map of_argument arguments) ≡ false
unbroken h arguments used given kind =
    any_of_arguments h arguments
    ∙ none_of (λ a. list_any h (of_argument a)) arguments (λ a.
    let passed : h (passed_by a.parameter.passing a.from) ≡ false =
    elim a.parameter.passing as (λ p. h (passed_by p a.from) ≡ false) [ Borrow ↦ used a.from | Steal ↦ given a.from ] in
    λ i. passed i || of_kind_alone h a.parameter.kind a.from (kind a.from) i)

-- borrowed or stolen, an argument isn't empty
empty_argument : (s : State) (p : Passing) (x : ℕ) → breaks s EmptyUsed (passed_by p x) ≡ is_empty (var_of s x)
empty_argument s Borrow x = refl
empty_argument s Steal x = refl

-- an argument's variable is empty
pub any_empty : (s : State) (arguments : List Argument)
    → list_any (breaks s EmptyUsed) (flat_map of_argument arguments)
    ≡ list_any (λ a. is_empty (var_of s a.from)) arguments
any_empty s arguments =
    any_of_arguments (breaks s EmptyUsed) arguments
    ∙ same_any (λ a. list_any (breaks s EmptyUsed) (of_argument a)) (λ a. is_empty (var_of s a.from)) arguments
    (λ a. (λ i. empty_argument s a.parameter.passing a.from i
    || of_kind_alone (breaks s EmptyUsed) a.parameter.kind a.from (λ asked. refl) i)
    ∙ or_false (is_empty (var_of s a.from)))

-- ---- the lowest code

-- the lowest code, by what is broken
abbrev pub first_broken : Bool → Bool → Bool → Bool → Bool → Option CheckCode
first_broken empty kind unowned owns locked =
    cond empty (Some EmptyUsed) (cond kind (Some WrongKind) (cond unowned (Some NotOwned)
    (cond owns (Some StillOwns) (cond locked (Some SecondLock) None))))

-- an argument is given twice, or is empty
call_empty : (s : State) (to : ℕ) (arguments : List Argument)
    → applies (Call to 0 arguments 0) s EmptyUsed
    ≡ (not (are_given_once arguments) || list_any (λ a. is_empty (var_of s a.from)) arguments)
call_empty s to arguments = ap (λ b. not (are_given_once arguments) || b) (any_empty s arguments)

-- an argument is stolen and isn't owned
call_unowned : (s : State) (to : ℕ) (arguments : List Argument)
    → applies (Call to 0 arguments 0) s NotOwned
    ≡ list_any (λ a. list_any (breaks s NotOwned) (of_argument a)) arguments
call_unowned s to arguments = any_of_arguments (breaks s NotOwned) arguments

-- an argument is of another kind
call_kinds : (s : State) (to : ℕ) (arguments : List Argument)
    → applies (Call to 0 arguments 0) s WrongKind
    ≡ list_any (λ a. list_any (breaks s WrongKind) (of_argument a)) arguments
call_kinds s to arguments = any_of_arguments (breaks s WrongKind) arguments

-- where nothing is locked, no locked variable is changed
no_changed : (s : State) (to : ℕ) (arguments : List Argument) → s.locked ≡ None
    → applies (Call to 0 arguments 0) s LockedChanged ≡ false
no_changed s to arguments free =
    (λ i. names (free i) to || list_any (breaks s LockedChanged) (flat_map of_argument arguments))
    ∙ unbroken (breaks s LockedChanged) arguments (λ x. refl) (λ x i. names (free i) x) (λ x asked. refl)

-- whatever is locked, a code of a lock that a call changes isn't the lowest
call_locked : (s : State) (to : ℕ) (arguments : List Argument)
    → cond (is_some s.locked) (Some SecondLock)
    (cond (applies (Call to 0 arguments 0) s LockedChanged) (Some LockedChanged) None)
    ≡ cond (is_some s.locked) (Some SecondLock) None
call_locked s to arguments =
    elim s.locked as (λ o. s.locked ≡ o → cond (is_some o) (Some SecondLock)
    (cond (applies (Call to 0 arguments 0) s LockedChanged) (Some LockedChanged) None)
    ≡ cond (is_some o) (Some SecondLock) None) [
      | None ↦ λ free. ap (λ b. cond b (Some LockedChanged) None) (no_changed s to arguments free)
      | Some x ↦ λ _. refl
    ] refl

-- the lowest code that a call reports
pub lowest_call : (s : State) (to : ℕ) (arguments : List Argument)
    → lowest (Call to 0 arguments 0) s
    ≡ first_broken (not (are_given_once arguments) || list_any (λ a. is_empty (var_of s a.from)) arguments)
    (list_any (λ a. list_any (breaks s WrongKind) (of_argument a)) arguments)
    (list_any (λ a. list_any (breaks s NotOwned) (of_argument a)) arguments)
    (is_owned (var_of s to)) (is_some s.locked)
lowest_call s to arguments =
    let owns = unbroken (breaks s StillOwns) arguments (λ x. refl) (λ x. refl) (λ x asked. refl) in
    let left = unbroken (breaks s LeftOwned) arguments (λ x. refl) (λ x. refl) (λ x asked. refl) in
    let left_locked = unbroken (breaks s LeftLocked) arguments (λ x. refl) (λ x. refl) (λ x asked. refl) in
    let second = unbroken (breaks s SecondLock) arguments (λ x. refl) (λ x. refl) (λ x asked. refl) in
    let unlocked = unbroken (breaks s NotLocked) arguments (λ x. refl) (λ x. refl) (λ x asked. refl) in
    let changed = cond (applies (Call to 0 arguments 0) s LockedChanged) (Some LockedChanged) None in
    let behind_kinds : Option CheckCode → Option CheckCode = λ rest.
    cond (not (are_given_once arguments) || list_any (λ a. is_empty (var_of s a.from)) arguments) (Some EmptyUsed)
    (cond (list_any (λ a. list_any (breaks s WrongKind) (of_argument a)) arguments) (Some WrongKind)
    (cond (list_any (λ a. list_any (breaks s NotOwned) (of_argument a)) arguments) (Some NotOwned) rest)) in
    (λ i. cond (call_empty s to arguments i) (Some EmptyUsed) (cond (call_kinds s to arguments i) (Some WrongKind)
    (cond (call_unowned s to arguments i) (Some NotOwned)
    (cond (is_owned (var_of s to) || owns i) (Some StillOwns)
    (cond (left i) (Some LeftOwned) (cond (left_locked i) (Some LeftLocked)
    (cond (is_some s.locked || second i) (Some SecondLock) (cond (unlocked i) (Some NotLocked) changed))))))))
    ∙ (λ i. behind_kinds (cond (or_false (is_owned (var_of s to)) i) (Some StillOwns)
    (cond (or_false (is_some s.locked) i) (Some SecondLock) changed)))
    ∙ ap (λ (rest : Option CheckCode). behind_kinds (cond (is_owned (var_of s to)) (Some StillOwns) rest))
    (call_locked s to arguments)

-- the same, of what was asked before the code was returned
pub lowest_by : (s : State) (to : ℕ) (arguments : List Argument) (given empty kind unowned owns : Bool)
    → given ≡ are_given_once arguments → empty ≡ list_any (λ a. is_empty (var_of s a.from)) arguments
    → kind ≡ list_any (λ a. list_any (breaks s WrongKind) (of_argument a)) arguments
    → unowned ≡ list_any (λ a. list_any (breaks s NotOwned) (of_argument a)) arguments
    → owns ≡ is_owned (var_of s to)
    → first_broken (not given || empty) kind unowned owns (is_some s.locked) ≡ lowest (Call to 0 arguments 0) s
lowest_by s to arguments given empty kind unowned owns is_given is_empty is_kind is_unowned is_owns =
    (λ i. first_broken (not (is_given i) || is_empty i) (is_kind i) (is_unowned i) (is_owns i) (is_some s.locked))
    ∙ sym (lowest_call s to arguments)

-- the code where nothing is refused but that something is locked
pub locked_alone : (locked : Bool) → then_some locked SecondLock ≡ first_broken false false false false locked
locked_alone true = refl
locked_alone false = refl

-- a variable that isn't found to own a reference owns none
pub not_owned : (v : Slot) → ((k : Kind) → v ≡ Owned k → ⊥) → false ≡ is_owned v
not_owned Empty other = refl
not_owned (Owned k) other = absurd (other k refl)
not_owned (Caller k) other = refl
not_owned (Locked k) other = refl
