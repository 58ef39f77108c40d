-- Actions. At an event a thread of the step world does the first duty of its agenda, or what its code dispatches.
use Rattle.std.specs.Prelude.{ℕ, zero, suc, ◌+◌, ◌*◌, ◌==◌, nat_lt, if◌then◌else◌, List, [], ◌∷◌, ◌++◌, length, map, fold, Option, None, Some, is_some, slice_index_or, slice_set, replicate}
use Rattle.std.specs.List.{list_all}
use Rattle.brc_word.specs.declared.values.TheConstants.{NUM, LIST, FILE, SOCK}
use Rattle.brc_lang.specs.declared.module.Instr.{Instr}
use Rattle.brc_lang.specs.declared.module.Instr.TheVariants.{Num, List as ListObject, NoneObject, Take, Newref, Move as MoveReference, Drop, Lock, Unlock, Borrow, Fetch, Set, Put, Goto, Again, Ret, Fail, As, Open, Connect, Read, Write, Call}
use Rattle.brc_lang.specs.declared.parameter.Argument.{Argument}
use Rattle.brc_word.specs.Words.{half, free_word}
use Rattle.brc_model.specs.declared.state.Exit.TheVariants.{Success, Fault as FaultExit}
use Rattle.brc_model.specs.declared.actor.Context.{Context}
use Rattle.brc_model.specs.declared.actor.OpenCall.{OpenCall}
use Rattle.brc_model.specs.declared.actor.Place.{Place}
use Rattle.brc_model.specs.declared.actor.Place.TheVariants.{Idle, InCall, Inside}
use Rattle.brc_model.specs.declared.actor.Stage.{Stage}
use Rattle.brc_model.specs.declared.actor.Stage.TheVariants.{InRange, OutOfRange, Found, Retained, Loaded, Lent, Called, Granted}
use Rattle.brc_model.specs.declared.duty.Holding.{Holding}
use Rattle.brc_model.specs.declared.duty.Holding.TheVariants.{ByVariable, InFlight}
use Rattle.brc_model.specs.declared.duty.Duty.TheVariants.{RetainLoad, ReleaseLoad, Settle, BirthKind, KindLoad, LockGate, UnlockGate, CellLoad, CellSwap, LendField, ReturnField}
use Rattle.brc_model.specs.Kinds.{same_kind, kind_of_word}
use Rattle.brc_model.specs.SlotStates.{is_stolen, stolen, padded}
use Rattle.brc_model.specs.Threads.{row_of}
use Rattle.brc_model.specs.Duties.{cells_of}
use Rattle.brc_model.specs.AbstractState.{Move}
use Rattle.brc_model.specs.Moves.{pass_on, gain}
use Rattle.brc_model.specs.declared.layout.Layout.{Layout}
use Rattle.brc_model.specs.Layout.{none_row, root_row, row_at, first_immortal_list}
use Rattle.brc_model.specs.Machine.{has_room}
pub use Rattle.brc_model.specs.Action.{StepActor, Action, Skip, Stuck, Silent, Calls, Does, always, by_exit, with_row}
pub use Rattle.brc_model.specs.Stops.{
  owned_rows,
  row_locked,
  waiting_state,
  owned_by,
  given_up,
  holds_some,
  stopping,
  first_named,
  give_up_first,
  give_up,
  stop_in_call,
  stop_action,
}

-- the kind word of a number
abbrev pub number_word : ℕ → ℕ
number_word value = NUM * half + value

-- the kind word of a list, which says how many cells it has
abbrev pub list_word : ℕ → ℕ
list_word cells = LIST * half + cells

-- The context at the beginning of an outermost call, after which `left` calls are still to be made: no instruction
-- `again` has gone back, and no call is open around it.
abbrev pub first_context : ℕ → Context
first_context left = record { left = left; turns = replicate 256 0; outer = [] }

-- how many calls are open around the call
abbrev pub depth_of : Context → ℕ
depth_of context = length context.outer

-- by the variable of the call
abbrev pub by_variable : Context → ℕ → Holding
by_variable context v = ByVariable (depth_of context) v

-- how often the instruction `again` at the point has gone back in the call
abbrev pub turns_at : Context → ℕ → ℕ
turns_at context at = slice_index_or context.turns at 0

-- the context after the instruction `again` at the point has gone back once more
abbrev pub with_turn : Context → ℕ → Context
with_turn context at = record {
  left = context.left;
  turns = slice_set context.turns at (turns_at context at + 1);
  outer = context.outer;
}

-- the place after an instruction `again` at the point: back at `to` if it has gone back less often than it may, or else
-- past it
abbrev pub again_place : Context → ℕ → List (Option ℕ) → ℕ → ℕ → Place
again_place context at variables to times =
    if nat_lt (turns_at context at) times then InCall (with_turn context at) to variables
    else InCall context (at + 1) variables

-- the kind words of a file and of a socket
abbrev pub file_word : ℕ
file_word = FILE * half

abbrev pub sock_word : ℕ
sock_word = SOCK * half

-- Returns the action of a thread that makes an object of the kind word in the variable, if it has used `used` rows of
-- its block. If its block is full, it empties the variable and goes on at `otherwise`.
abbrev pub birth_action : Layout → ℕ → ℕ → Context → ℕ → List (Option ℕ) → ℕ → ℕ → ℕ → Action
birth_action layout t used context at variables to word otherwise =
    if has_room layout t used
    then Does (BirthKind (row_at layout t used) (by_variable context to) word) []
    (always (InCall context (at + 1) (slice_set variables to (Some (row_at layout t used)))))
    else Silent [] (InCall context otherwise (slice_set variables to None))

-- Returns the action of a thread that asks the host for a resource, to make an object of it in the variable. It asks
-- only if its block has room for the object; otherwise, or if the host refuses, it empties the variable and goes on at
-- `otherwise`.
abbrev pub grant_action : Layout → ℕ → ℕ → Context → ℕ → List (Option ℕ) → ℕ → ℕ → Action
grant_action layout t used context at variables to otherwise =
    if has_room layout t used
    then Calls None (by_exit (Inside context at variables Granted)
    (InCall context otherwise (slice_set variables to None)))
    else Silent [] (InCall context otherwise (slice_set variables to None))

-- Returns the action of a thread that makes the object for which it has room.
abbrev pub granted_birth : Layout → ℕ → ℕ → Context → ℕ → List (Option ℕ) → ℕ → ℕ → Action
granted_birth layout t used context at variables to word =
    Does (BirthKind (row_at layout t used) (by_variable context to) word) []
    (always (InCall context (at + 1) (slice_set variables to (Some (row_at layout t used)))))

-- Returns the action of a thread that lends the resource of the file or socket in the variable to a call of the host.
abbrev pub lend_action : Context → ℕ → List (Option ℕ) → ℕ → Action
lend_action context at variables file =
    with_row (row_of variables file) (λ row. Does (LendField row) [] (always (Inside context at variables Lent)))

-- Returns the action of a thread that puts the resource back.
abbrev pub return_action : List (Option ℕ) → ℕ → Place → Action
return_action variables file place = with_row (row_of variables file) (λ row. Does (ReturnField row) [] (always place))

-- The place that the list's kind word decides: whether the list has the cell.
abbrev pub by_range : ℕ → Place → Place → ℕ → Place
by_range index inside outside found = if nat_lt index (cells_of found) then inside else outside

-- The place that the cell's word decides: whether the cell is empty, or else which row it holds.
abbrev pub by_item : Place → (ℕ → Place) → ℕ → Place
by_item empty holds zero = empty
by_item empty holds (suc row) = holds row

-- ---- calls of functions

-- the variables once this one is empty
abbrev pub without_row : List (Option ℕ) → ℕ → List (Option ℕ)
without_row variables x = slice_set variables x None

-- What the variables of a call name while it waits for one that it has made: those that the call stole are empty, and
-- so is the variable `to` of the result.
abbrev pub kept_rows : List (Option ℕ) → List Argument → ℕ → List (Option ℕ)
kept_rows variables arguments to = slice_set (fold without_row variables (stolen arguments)) to None

-- the row of each argument
abbrev pub argument_rows : List (Option ℕ) → List Argument → List (Option ℕ)
argument_rows variables arguments = map (λ a. row_of variables a.from) arguments

-- at the start of a call that a call has made v0 names the root, and the variables from v1 on the arguments' rows
abbrev pub passed_variables : List (Option ℕ) → List Argument → List (Option ℕ)
passed_variables variables arguments = Some root_row ∷ padded 15 None (argument_rows variables arguments)

-- The moves of a call's argument, if the call is made in one at this depth: a reference that it steals goes from the
-- variable to the callee's variable `to`.
abbrev pub handed_row : ℕ → ℕ → ℕ → Argument → Option ℕ → List Move
handed_row t depth to a None = []
handed_row t depth to a (Some row) =
    if is_stolen a then pass_on t (ByVariable depth a.from) (ByVariable (suc depth) to) row else []

-- the moves of these arguments, of which the first is for the callee's variable `to`
abbrev pub handed_rows : ℕ → ℕ → List (Option ℕ) → ℕ → List Argument → List Move
handed_rows t depth variables to [] = []
handed_rows t depth variables to (a ∷ others) =
    handed_row t depth to a (row_of variables a.from) ++ handed_rows t depth variables (suc to) others

-- the context of a call of `callee` that the instruction at this point makes
abbrev pub callee_context : Context → ℕ → List (Option ℕ) → ℕ → ℕ → List Argument → ℕ → Context
callee_context context at variables to callee arguments otherwise = record {
  left = context.left;
  turns = replicate 256 0;
  outer = record {
    callee = callee;
    at = at;
    variables = kept_rows variables arguments to;
    turns = context.turns;
    to = to;
    otherwise = otherwise;
  } ∷ context.outer;
}

-- the context of an open call in which the thread goes on
abbrev pub waiting_context : ℕ → OpenCall → List OpenCall → Context
waiting_context left o outer = record { left = left; turns = o.turns; outer = outer }

-- Returns the action of a thread that calls a function. The references that the call steals are the callee's from then
-- on.
abbrev pub call_action : ℕ → Context → ℕ → List (Option ℕ) → ℕ → ℕ → List Argument → ℕ → Action
call_action t context at variables to callee arguments otherwise =
    if list_all is_some (argument_rows variables arguments)
    then Silent (handed_rows t (depth_of context) variables 1 arguments)
    (InCall (callee_context context at variables to callee arguments otherwise) 0
    (passed_variables variables arguments))
    else Stuck

-- Returns the action of a thread that ends a call and returns the reference in the variable, which names the row. The
-- caller of an outermost call releases it. A call that waits for this one has it from then on, and goes on at the next
-- instruction.
abbrev pub ret_action : ℕ → ℕ → ℕ → ℕ → List OpenCall → Action
ret_action t left from row [] = Does (ReleaseLoad row (ByVariable 0 from)) (Settle ∷ []) (always (Idle left))
ret_action t left from row (o ∷ outer) =
    Silent (pass_on t (ByVariable (suc (length outer)) from) (ByVariable (length outer) o.to) row)
    (InCall (waiting_context left o outer) (o.at + 1) (slice_set o.variables o.to (Some row)))

-- Returns the action of a thread that ends a call and returns no reference. A call that waits for this one goes on
-- where the fault exit of its instruction leads.
abbrev pub fail_action : ℕ → List OpenCall → Action
fail_action left [] = Silent [] (Idle left)
fail_action left (o ∷ outer) = Silent [] (InCall (waiting_context left o outer) o.otherwise o.variables)

-- ---- instructions

-- Returns the action of a thread at an instruction, if it has used `used` rows of its block. A thread that finds the
-- object locked by another one hasn't begun the `lock`: it is where it was, at `before`.
abbrev pub dispatch_instruction : Layout → ℕ → ℕ → Place → Context → ℕ → List (Option ℕ) → Option Instr → Action
dispatch_instruction layout t used before context at variables None = Stuck
dispatch_instruction layout t used before context at variables (Some (Num to value otherwise)) =
    birth_action layout t used context at variables to (number_word value) otherwise
dispatch_instruction layout t used before context at variables (Some (ListObject to cells otherwise)) =
    birth_action layout t used context at variables to (list_word cells) otherwise
dispatch_instruction layout t used before context at variables (Some (NoneObject to)) =
    Silent (gain t (by_variable context to) none_row) (InCall context (at + 1) (slice_set variables to (Some none_row)))
dispatch_instruction layout t used before context at variables (Some (Take to list)) =
    Silent (gain t (by_variable context to) (first_immortal_list layout + list))
    (InCall context (at + 1) (slice_set variables to (Some (first_immortal_list layout + list))))
dispatch_instruction layout t used before context at variables (Some (Newref to from)) =
    with_row (row_of variables from)
    (λ row. Does (RetainLoad row (by_variable context to)) []
    (always (InCall context (at + 1) (slice_set variables to (Some row)))))
dispatch_instruction layout t used before context at variables (Some (MoveReference to from)) =
    with_row (row_of variables from)
    (λ row. Silent (pass_on t (by_variable context from) (by_variable context to) row)
    (InCall context (at + 1) (slice_set (slice_set variables from None) to (Some row))))
dispatch_instruction layout t used before context at variables (Some (Drop from)) =
    with_row (row_of variables from)
    (λ row. Does (ReleaseLoad row (by_variable context from)) (Settle ∷ [])
    (always (InCall context (at + 1) (slice_set variables from None))))
dispatch_instruction layout t used before context at variables (Some (Lock object)) =
    with_row (row_of variables object)
    (λ row. Does (LockGate row) []
    (λ found. if found == free_word then InCall context (at + 1) variables else before))
dispatch_instruction layout t used before context at variables (Some (Unlock object)) =
    with_row (row_of variables object)
    (λ row. Does (UnlockGate row) [] (always (InCall context (at + 1) variables)))
dispatch_instruction layout t used before context at variables (Some (Borrow to list index otherwise)) =
    with_row (row_of variables list)
    (λ row. Does (KindLoad row) []
    (by_range index (Inside context at variables InRange) (InCall context otherwise (slice_set variables to None))))
dispatch_instruction layout t used before context at variables (Some (Fetch to list index otherwise)) =
    with_row (row_of variables list)
    (λ row. Does (KindLoad row) []
    (by_range index (Inside context at variables InRange) (InCall context otherwise (slice_set variables to None))))
dispatch_instruction layout t used before context at variables (Some (Set list index from otherwise)) =
    with_row (row_of variables list)
    (λ row. Does (KindLoad row) []
    (by_range index (Inside context at variables InRange) (Inside context at variables OutOfRange)))
dispatch_instruction layout t used before context at variables (Some (Put list index from otherwise)) =
    with_row (row_of variables list)
    (λ row. Does (KindLoad row) []
    (by_range index (Inside context at variables InRange) (InCall context otherwise variables)))
dispatch_instruction layout t used before context at variables (Some (Open to path mode otherwise)) =
    grant_action layout t used context at variables to otherwise
dispatch_instruction layout t used before context at variables (Some (Connect to peer otherwise)) =
    grant_action layout t used context at variables to otherwise
dispatch_instruction layout t used before context at variables (Some (Read to file most otherwise)) =
    if has_room layout t used
    then lend_action context at variables file
    else Silent [] (InCall context otherwise (slice_set variables to None))
dispatch_instruction layout t used before context at variables (Some (Write file number otherwise)) =
    with_row (row_of variables number)
    (λ row. Does (KindLoad row) [] (always (Inside context at variables Loaded)))
dispatch_instruction layout t used before context at variables (Some (As from kind otherwise)) =
    with_row (row_of variables from)
    (λ row. Does (KindLoad row) []
    (λ found. InCall context (if same_kind (kind_of_word found) kind then at + 1 else otherwise) variables))
dispatch_instruction layout t used before context at variables (Some (Call to callee arguments otherwise)) =
    call_action t context at variables to callee arguments otherwise
dispatch_instruction layout t used before context at variables (Some (Goto to)) =
    Silent [] (InCall context to variables)
dispatch_instruction layout t used before context at variables (Some (Again to times)) =
    Silent [] (again_place context at variables to times)
dispatch_instruction layout t used before context at variables (Some (Ret from)) =
    with_row (row_of variables from) (λ row. ret_action t context.left from row context.outer)
dispatch_instruction layout t used before context at variables (Some Fail) = fail_action context.left context.outer

-- Returns the action of a thread inside an instruction that takes several steps, by how far it is. An item is borrowed
-- as it is found, or fetched with a reference of its own. A stored item's reference is the variable's (`set`), or a new
-- one (`put`); the item that was in the cell is released. (Python/C API manual, List Objects.) What the host grants
-- becomes an object. A resource is out of its field while a call of the host uses it, and goes back however the call
-- ends.
abbrev pub dispatch_inside : Layout → ℕ → ℕ → Context → ℕ → List (Option ℕ) → Stage → Option Instr → Action
dispatch_inside layout t used context at variables InRange (Some (Borrow to list index otherwise)) =
    with_row (row_of variables list)
    (λ row. Does (CellLoad row index) []
    (by_item (InCall context otherwise (slice_set variables to None))
    (λ item. InCall context (at + 1) (slice_set variables to (Some item)))))
dispatch_inside layout t used context at variables InRange (Some (Fetch to list index otherwise)) =
    with_row (row_of variables list)
    (λ row. Does (CellLoad row index) []
    (by_item (InCall context otherwise (slice_set variables to None))
    (λ item. Inside context at variables (Found item))))
dispatch_inside layout t used context at variables (Found item) (Some (Fetch to list index otherwise)) =
    Does (RetainLoad item (by_variable context to)) [] (always
    (InCall context (at + 1) (slice_set variables to (Some item))))
dispatch_inside layout t used context at variables InRange (Some (Set list index from otherwise)) =
    with_row (row_of variables list)
    (λ row. with_row (row_of variables from)
    (λ item. Does (CellSwap row index item (by_variable context from)) (Settle ∷ [])
    (always (InCall context (at + 1) (slice_set variables from None)))))
dispatch_inside layout t used context at variables OutOfRange (Some (Set list index from otherwise)) =
    with_row (row_of variables from)
    (λ item. Does (ReleaseLoad item (by_variable context from)) (Settle ∷ [])
    (always (InCall context otherwise (slice_set variables from None))))
dispatch_inside layout t used context at variables InRange (Some (Put list index from otherwise)) =
    with_row (row_of variables from)
    (λ item. Does (RetainLoad item InFlight) [] (always (Inside context at variables Retained)))
dispatch_inside layout t used context at variables Retained (Some (Put list index from otherwise)) =
    with_row (row_of variables list)
    (λ row. with_row (row_of variables from)
    (λ item. Does (CellSwap row index item InFlight) (Settle ∷ []) (always (InCall context (at + 1) variables))))
dispatch_inside layout t used context at variables Granted (Some (Open to path mode otherwise)) =
    granted_birth layout t used context at variables to file_word
dispatch_inside layout t used context at variables Granted (Some (Connect to peer otherwise)) =
    granted_birth layout t used context at variables to sock_word
dispatch_inside layout t used context at variables Lent (Some (Read to file most otherwise)) =
    Calls (row_of variables file) (λ exit. Inside context at variables (Called exit))
dispatch_inside layout t used context at variables (Called Success) (Some (Read to file most otherwise)) =
    return_action variables file (Inside context at variables Granted)
dispatch_inside layout t used context at variables (Called FaultExit) (Some (Read to file most otherwise)) =
    return_action variables file (InCall context otherwise (slice_set variables to None))
dispatch_inside layout t used context at variables Granted (Some (Read to file most otherwise)) =
    granted_birth layout t used context at variables to (number_word 0)
dispatch_inside layout t used context at variables Loaded (Some (Write file number otherwise)) =
    lend_action context at variables file
dispatch_inside layout t used context at variables Lent (Some (Write file number otherwise)) =
    Calls (row_of variables file) (λ exit. Inside context at variables (Called exit))
dispatch_inside layout t used context at variables (Called Success) (Some (Write file number otherwise)) =
    return_action variables file (InCall context (at + 1) variables)
dispatch_inside layout t used context at variables (Called FaultExit) (Some (Write file number otherwise)) =
    return_action variables file (InCall context otherwise variables)
dispatch_inside layout t used context at variables stage i = Stuck
