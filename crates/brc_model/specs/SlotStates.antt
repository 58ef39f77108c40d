-- Slot states: what each instruction asks of the variables, and what it leaves in them. (Python/C API manual,
-- Reference Count Details; Extending manual, Ownership Rules: the owner of a reference gives it up once, by a decrement
-- or by passing it on; a borrower doesn't give it up; a call returns an owned reference.)
use Rattle.std.specs.Prelude.{ℕ, zero, suc, ◌+◌, Bool, true, false, not, ◌&&◌, ◌||◌, ◌==◌, List, [], ◌∷◌, Option, None, Some, is_some, find, slice_set, map, fold, filter, flat_map}
use Rattle.std.specs.List.{list_any, slice_index_or}
use Rattle.brc_lang.specs.declared.kind.Kind.{Kind}
use Rattle.brc_lang.specs.declared.kind.Kind.TheVariants as kinds
use Rattle.brc_lang.specs.declared.module.Instr.{Instr}
use Rattle.brc_lang.specs.declared.module.Instr.TheVariants.{Num, List as ListObject, NoneObject, Take, Newref, Move, Drop, Lock, Unlock, Borrow, Fetch, Set, Put, Goto, Again, Ret, Fail, As, Open, Connect, Read, Write, Call}
use Rattle.brc_lang.specs.declared.parameter.Argument.{Argument}
use Rattle.brc_lang.specs.declared.parameter.Parameter.{Parameter}
use Rattle.brc_lang.specs.declared.parameter.Passing.{Passing}
use Rattle.brc_lang.specs.declared.parameter.Passing.TheVariants.{Borrow as BorrowPassing, Steal}
use Rattle.brc_model.specs.Kinds.{same_kind}
use Rattle.brc_lang.specs.declared.check_code.CheckCode.{CheckCode}
use Rattle.brc_lang.specs.declared.check_code.CheckCode.TheVariants.{EmptyUsed, WrongKind, NotOwned, StillOwns, LeftOwned, LeftLocked, SecondLock, NotLocked, LockedChanged}
use Rattle.brc_model.specs.declared.state.Slot.{Slot}
use Rattle.brc_model.specs.declared.state.Slot.TheVariants.{Empty, Owned, Caller, Locked}
use Rattle.brc_model.specs.declared.state.State.{State}
use Rattle.brc_model.specs.declared.state.Exit.{Exit}
use Rattle.brc_model.specs.declared.state.Exit.TheVariants.{Success, Fault}

-- ---- one state of a variable

abbrev pub var_of : State → ℕ → Slot
var_of s x = slice_index_or s.slots x Empty

abbrev pub is_empty : Slot → Bool
is_empty Empty = true
is_empty _ = false

abbrev pub is_owned : Slot → Bool
is_owned (Owned k) = true
is_owned _ = false

abbrev pub is_borrowed : Slot → Bool
is_borrowed (Caller k) = true
is_borrowed (Locked k) = true
is_borrowed _ = false

abbrev pub kind_of : Slot → Kind
kind_of Empty = kinds.Any
kind_of (Owned k) = k
kind_of (Caller k) = k
kind_of (Locked k) = k

-- Says whether the kind is one of these. `Any` is no kind of an object.
abbrev pub is_one_of : Kind → List Kind → Bool
is_one_of kind asked = list_any (same_kind kind) asked

-- the kinds whose objects a thread may lock
abbrev pub lockable : List Kind
lockable = kinds.List ∷ kinds.File ∷ kinds.Sock ∷ []

-- the kinds whose objects have a resource of the host
abbrev pub with_resource : List Kind
with_resource = kinds.File ∷ kinds.Sock ∷ []

-- an object of the first kind may be of the second: it is, or its kind isn't known yet
abbrev pub may_be : Kind → Kind → Bool
may_be kinds.Any asked = true
may_be known asked = same_kind known asked

-- the variable's state with another kind
abbrev pub with_kind : Slot → Kind → Slot
with_kind Empty k = Empty
with_kind (Owned old) k = Owned k
with_kind (Caller old) k = Caller k
with_kind (Locked old) k = Locked k

abbrev pub names : Option ℕ → ℕ → Bool
names None x = false
names (Some y) x = x == y

-- the state with the variable's state of variable x replaced
abbrev pub put : State → ℕ → Slot → State
put s x var = record { slots = slice_set s.slots x var; locked = s.locked }

-- a variable's state once nothing can be borrowed from the locked list any more
abbrev pub without_item : Slot → Slot
without_item (Locked k) = Empty
without_item var = var

-- The state once the locked list is unlocked or changed: each variable that borrowed from it is empty. (Extending
-- manual, Thin Ice: a borrowed item may be deallocated once its list is changed.)
abbrev pub without_items : State → State
without_items s = record { slots = map without_item s.slots; locked = s.locked }

-- the state with this variable's object locked, or none
abbrev pub with_lock : State → Option ℕ → State
with_lock s locked = record { slots = s.slots; locked = locked }

-- ---- what a call takes

abbrev pub steals : Passing → Bool
steals BorrowPassing = false
steals Steal = true

abbrev pub is_stolen : Argument → Bool
is_stolen argument = steals argument.parameter.passing

-- the variables whose references the call steals
abbrev pub stolen : List Argument → List ℕ
stolen arguments = map (λ a. a.from) (filter is_stolen arguments)

-- Says whether the two places of a call have one variable, and one of them steals its reference.
abbrev pub clash : Argument → Argument → Bool
clash a b = (is_stolen a || is_stolen b) && (a.from == b.from)

-- Says whether each variable whose reference the call steals is at one of its places alone.
abbrev pub are_given_once : List Argument → Bool
are_given_once [] = true
are_given_once (a ∷ others) = not (list_any (clash a) others) && are_given_once others

-- the state once the variable is empty
abbrev pub emptied : State → ℕ → State
emptied s x = put s x Empty

-- the state once the call has stolen what it steals
abbrev pub without_stolen : State → List Argument → State
without_stolen s arguments = fold emptied s (stolen arguments)

-- ---- conditions

-- a condition that an instruction puts on the state before it
pub data Condition : Type 0 where
  -- the variable isn't empty
  Use : ℕ → Condition
  -- the variable owns its reference, and isn't the locked one
  Give : ℕ → Condition
  -- the variable owns no reference, and isn't the locked one
  Into : ℕ → Condition
  -- the variable's kind is this one, or isn't known yet
  MayBe : ℕ → Kind → Condition
  -- the variable's kind is known, and is one of these
  IsOneOf : ℕ → List Kind → Condition
  -- the variable's object is locked
  IsLocked : ℕ → Condition
  -- no variable owns a reference
  NothingOwned : Condition
  -- no variable but this one owns a reference
  NothingOwnedBut : ℕ → Condition
  -- nothing is locked at the end of the call
  NothingLocked : Condition
  -- nothing is locked yet: a thread locks one object at a time
  NoLockYet : Condition
  -- each variable whose reference a call steals is one of its arguments alone
  GivenOnce : List Argument → Condition

-- says whether the state breaks the condition in the way that the code names
abbrev pub breaks : State → CheckCode → Condition → Bool
breaks s EmptyUsed (Use x) = is_empty (var_of s x)
breaks s EmptyUsed (Give x) = is_empty (var_of s x)
breaks s NotOwned (Give x) = is_borrowed (var_of s x)
breaks s LockedChanged (Give x) = names s.locked x
breaks s StillOwns (Into x) = is_owned (var_of s x)
breaks s LockedChanged (Into x) = names s.locked x
breaks s WrongKind (MayBe x kind) = not (may_be (kind_of (var_of s x)) kind)
breaks s LeftOwned NothingOwned = list_any is_owned s.slots
breaks s LeftOwned (NothingOwnedBut x) = list_any is_owned (put s x Empty).slots
breaks s LeftLocked NothingLocked = is_some s.locked
breaks s WrongKind (IsOneOf x asked) = not (is_one_of (kind_of (var_of s x)) asked)
breaks s SecondLock NoLockYet = is_some s.locked
breaks s NotLocked (IsLocked x) = not (names s.locked x)
breaks s EmptyUsed (GivenOnce arguments) = not (are_given_once arguments)
breaks s _ _ = false

-- what a passing asks of the argument's variable
abbrev pub passed_by : Passing → ℕ → Condition
passed_by BorrowPassing x = Use x
passed_by Steal x = Give x

-- what a parameter's kind asks of the argument's variable; `Any` asks nothing
abbrev pub of_kind : Kind → ℕ → List Condition
of_kind kinds.Any x = []
of_kind kind x = IsOneOf x (kind ∷ []) ∷ []

-- what a call asks of one of its arguments
abbrev pub of_argument : Argument → List Condition
of_argument a = passed_by a.parameter.passing a.from ∷ of_kind a.parameter.kind a.from

abbrev pub conditions_of : Instr → List Condition
conditions_of (Num to value otherwise) = Into to ∷ []
conditions_of (ListObject to cells otherwise) = Into to ∷ []
conditions_of (NoneObject to) = Into to ∷ []
conditions_of (Take to list) = Into to ∷ []
conditions_of (Newref to from) = Use from ∷ Into to ∷ []
conditions_of (Move to from) = Give from ∷ Into to ∷ []
conditions_of (Drop from) = Give from ∷ []
conditions_of (Lock object) = Use object ∷ IsOneOf object lockable ∷ NoLockYet ∷ []
conditions_of (Unlock object) = Use object ∷ IsLocked object ∷ []
conditions_of (Borrow to list index otherwise) =
    Into to ∷ Use list ∷ IsOneOf list (kinds.List ∷ []) ∷ IsLocked list ∷ []
conditions_of (Fetch to list index otherwise) =
    Into to ∷ Use list ∷ IsOneOf list (kinds.List ∷ []) ∷ IsLocked list ∷ []
conditions_of (Set list index from otherwise) =
    Give from ∷ Use list ∷ IsOneOf list (kinds.List ∷ []) ∷ IsLocked list ∷ []
conditions_of (Put list index from otherwise) =
    Use from ∷ Use list ∷ IsOneOf list (kinds.List ∷ []) ∷ IsLocked list ∷ []
conditions_of (Open to path mode otherwise) = Into to ∷ []
conditions_of (Connect to peer otherwise) = Into to ∷ []
conditions_of (Read to file most otherwise) =
    Into to ∷ Use file ∷ IsOneOf file with_resource ∷ IsLocked file ∷ []
conditions_of (Write file number otherwise) =
    Use file ∷ IsOneOf file with_resource ∷ IsLocked file ∷ Use number ∷ IsOneOf number (kinds.Num ∷ []) ∷ []
conditions_of (As from kind otherwise) = Use from ∷ MayBe from kind ∷ []
conditions_of (Call to callee arguments otherwise) =
    Into to ∷ NoLockYet ∷ GivenOnce arguments ∷ flat_map of_argument arguments
conditions_of (Goto to) = []
conditions_of (Again to times) = []
conditions_of (Ret from) = Give from ∷ NothingOwnedBut from ∷ NothingLocked ∷ []
conditions_of Fail = NothingOwned ∷ NothingLocked ∷ []

-- says whether the code applies: the state breaks one of the instruction's conditions in that way
abbrev pub applies : Instr → State → CheckCode → Bool
applies i s code = list_any (breaks s code) (conditions_of i)

-- the codes of broken conditions, lowest first
abbrev pub rising : List CheckCode
rising =
    EmptyUsed ∷ WrongKind ∷ NotOwned ∷ StillOwns ∷ LeftOwned ∷ LeftLocked ∷ SecondLock ∷ NotLocked ∷ LockedChanged ∷ []

-- the lowest code that applies, if any does
abbrev pub lowest : Instr → State → Option CheckCode
lowest i s = find (applies i s) rising

-- ---- exits

-- what an exit of a birth leaves in its variable, and one of a fetch or a call: an owned reference, or nothing
abbrev pub birth_var : Kind → Exit → Slot
birth_var kind Success = Owned kind
birth_var kind Fault = Empty

-- the state after an exit of the instruction
abbrev pub after : Instr → Exit → State → State
after (Num to value otherwise) exit s = put s to (birth_var kinds.Num exit)
after (ListObject to cells otherwise) exit s = put s to (birth_var kinds.List exit)
after (NoneObject to) exit s = put s to (Owned kinds.None)
after (Take to list) exit s = put s to (Owned kinds.List)
after (Newref to from) exit s = put s to (Owned (kind_of (var_of s from)))
after (Move to from) exit s = put (put s from Empty) to (Owned (kind_of (var_of s from)))
after (Drop from) exit s = put s from Empty
after (Lock object) exit s = with_lock s (Some object)
after (Unlock object) exit s = with_lock (without_items s) None
after (Borrow to list index otherwise) Success s = put s to (Locked kinds.Any)
after (Borrow to list index otherwise) Fault s = put s to Empty
after (Fetch to list index otherwise) exit s = put s to (birth_var kinds.Any exit)
after (Set list index from otherwise) exit s = without_items (put s from Empty)
after (Put list index from otherwise) exit s = without_items s
after (Open to path mode otherwise) exit s = put s to (birth_var kinds.File exit)
after (Connect to peer otherwise) exit s = put s to (birth_var kinds.Sock exit)
after (Read to file most otherwise) exit s = put s to (birth_var kinds.Num exit)
after (Write file number otherwise) exit s = s
after (As from kind otherwise) Success s = put s from (with_kind (var_of s from) kind)
after (As from kind otherwise) Fault s = s
after (Call to callee arguments otherwise) exit s = put (without_stolen s arguments) to (birth_var kinds.Any exit)
after (Goto to) exit s = s
after (Again to times) exit s = s
after (Ret from) exit s = s
after Fail exit s = s

-- the point to which an exit leads: the next one, or `otherwise` by the fault exit
abbrev pub next_or : ℕ → Exit → ℕ → Option ℕ
next_or otherwise Success at = Some (at + 1)
next_or otherwise Fault at = Some otherwise

-- the point to which an exit of the instruction at the point `at` leads, or none if the exit ends the call
abbrev pub target : Instr → Exit → ℕ → Option ℕ
target (Num to value otherwise) exit at = next_or otherwise exit at
target (ListObject to cells otherwise) exit at = next_or otherwise exit at
target (NoneObject to) exit at = Some (at + 1)
target (Take to list) exit at = Some (at + 1)
target (Newref to from) exit at = Some (at + 1)
target (Move to from) exit at = Some (at + 1)
target (Drop from) exit at = Some (at + 1)
target (Lock object) exit at = Some (at + 1)
target (Unlock object) exit at = Some (at + 1)
target (Borrow to list index otherwise) exit at = next_or otherwise exit at
target (Fetch to list index otherwise) exit at = next_or otherwise exit at
target (Set list index from otherwise) exit at = next_or otherwise exit at
target (Put list index from otherwise) exit at = next_or otherwise exit at
target (Open to path mode otherwise) exit at = next_or otherwise exit at
target (Connect to peer otherwise) exit at = next_or otherwise exit at
target (Read to file most otherwise) exit at = next_or otherwise exit at
target (Write file number otherwise) exit at = next_or otherwise exit at
target (As from kind otherwise) exit at = next_or otherwise exit at
target (Call to callee arguments otherwise) exit at = next_or otherwise exit at
target (Goto to) exit at = Some to
target (Again to times) exit at = next_or to exit at
target (Ret from) exit at = None
target Fail exit at = None

-- ---- the entry

-- the first items of the list, this many, filled up with the given item
abbrev pub padded : {A : Type 0} → ℕ → A → List A → List A
padded zero item xs = []
padded (suc n) item [] = item ∷ padded n item []
padded (suc n) item (x ∷ xs) = x ∷ padded n item xs

-- what the variable of a parameter has at the function's entry
abbrev pub passed_var : Passing → Kind → Slot
passed_var BorrowPassing kind = Caller kind
passed_var Steal kind = Owned kind

abbrev pub parameter_var : Parameter → Slot
parameter_var p = passed_var p.passing p.kind

-- The state at a function's entry: the caller lends the root in v0, and what it passes is in the variables from v1 on,
-- lent or owned. The other variables are empty.
abbrev pub entry_of : List Parameter → State
entry_of parameters = record {
  slots = Caller kinds.List ∷ padded 15 Empty (map parameter_var parameters);
  locked = None;
}
