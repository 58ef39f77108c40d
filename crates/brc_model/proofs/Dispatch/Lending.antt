-- What a thread of accepted code has lent to a call of the host: its place says so, and each of its actions leads to a
-- place that says what the thread has lent then.
use Rattle.brc_model.specs.declared.duty.Duty.{Duty}
use Rattle.brc_model.proofs.Dispatch.Decided.{exit_decides, stopping_decides, give_up_decides}
use Rattle.brc_model.specs.declared.state.Exit.TheVariants.{Success, Fault}
use Rattle.std.proofs.Common.{◌≡◌, ℕ, zero, suc, ◌+◌, List, [], ◌∷◌, Option, None, Some, ◌∙◌, ap, sym, refl, cond}
use Rattle.std.specs.Prelude.{◌==◌, slice_get, slice_set, nat_lt, is_some}
use Rattle.std.specs.List.{list_all}
use Rattle.brc_lang.specs.declared.module.Instr.{Instr}
use Rattle.brc_lang.specs.declared.module.Instr.TheVariants.{Num, List as ListObject, Newref, Move as MoveReference, Drop, Lock, Unlock, Borrow, Fetch, Set, Put, Again, Ret, As, Call, Open, Connect, Read, Write, NoneObject, Take, Goto, Fail}
use Rattle.brc_word.specs.Words.{free_word}
use Rattle.brc_model.specs.declared.actor.Place.{Place}
use Rattle.brc_model.specs.declared.actor.Context.{Context}
use Rattle.brc_model.specs.declared.state.Exit.{Exit}
use Rattle.brc_model.specs.declared.actor.Place.TheVariants.{Idle, InCall, Inside, Stopping, Exiting}
use Rattle.brc_model.specs.declared.actor.Stage.{Stage}
use Rattle.brc_model.specs.declared.actor.Stage.TheVariants.{InRange, OutOfRange, Found, Retained, Loaded, Lent, Called, Granted}
use Rattle.brc_model.specs.declared.duty.Duty.TheVariants.{BirthKind, KindLoad, CellLoad, LendField}
use Rattle.brc_model.specs.declared.layout.Layout.{Layout}
use Rattle.brc_model.specs.Layout.{row_at}
use Rattle.brc_model.specs.Duties.{cells_of}
use Rattle.brc_model.specs.Machine.{lent_by, has_room}
use Rattle.brc_model.specs.Threads.{row_of, entry_variables}
use Rattle.brc_model.specs.Actions.{by_variable, Action, Skip, Stuck, Silent, Calls, Does, always, with_row, number_word, list_word, birth_action, first_context, turns_at, with_turn, by_range, by_item, dispatch_instruction, dispatch_inside, lend_action, grant_action, ret_action, fail_action, argument_rows}
use Rattle.brc_model.specs.Dispatch.{dispatch}
use Rattle.brc_model.proofs.Basics.Lists.{either}
use Rattle.brc_model.proofs.Dispatch.Programs.{Program, code_in, code_at}
use Rattle.brc_model.specs.declared.actor.OpenCall.{OpenCall}

-- The row whose resource a thread so far inside the instruction has lent.
abbrev pub lent_to : Stage → Option Instr → List (Option ℕ) → Option ℕ
lent_to InRange i variables = None
lent_to OutOfRange i variables = None
lent_to (Found item) i variables = None
lent_to Retained i variables = None
lent_to Loaded i variables = None
lent_to Lent (Some (Read to file most otherwise)) variables = row_of variables file
lent_to Lent (Some (Write file number otherwise)) variables = row_of variables file
lent_to Lent i variables = None
lent_to (Called exit) (Some (Read to file most otherwise)) variables = row_of variables file
lent_to (Called exit) (Some (Write file number otherwise)) variables = row_of variables file
lent_to (Called exit) i variables = None
lent_to Granted i variables = None

-- The row whose resource a thread at the place has lent.
abbrev pub lent_at : Program → Place → Option ℕ
lent_at program (Idle left) = None
lent_at program (InCall context at variables) = None
lent_at program (Inside context at variables stage) = lent_to stage (slice_get (code_in program context) at) variables
lent_at program (Stopping lock calls) = None
lent_at program Exiting = None

-- A duty that lends a resource finds it in its field.
abbrev pub FindsFull : Duty → ℕ → Type 0
FindsFull (LendField x) found = found ≡ 1
FindsFull d found = Unit {0}

-- After the action of a thread that has lent this, its place says what it has lent. A call of the host uses just that.
abbrev pub FollowsLent : Program → Option ℕ → Action → Type 0
FollowsLent program lent Skip = Unit {0}
FollowsLent program lent Stuck = Unit {0}
FollowsLent program lent (Silent moves place) = lent ≡ lent_at program place
FollowsLent program lent (Calls row place) = (lent ≡ row) × ((exit : Exit) → lent ≡ lent_at program (place exit))
FollowsLent program lent (Does d rest place) =
    (found : ℕ) → FindsFull d found → lent_by lent d found ≡ lent_at program (place found)

row_lent : (program : Program) (lent : Option ℕ) (o : Option ℕ) (work : ℕ → Action)
    → ((row : ℕ) → FollowsLent program lent (work row)) → FollowsLent program lent (with_row o work)
row_lent program lent None work each = tt
row_lent program lent (Some row) work each = each row

this_lent : (program : Program) (lent : Option ℕ) (o : Option ℕ) (work : ℕ → Action)
    → ((row : ℕ) → o ≡ Some row → FollowsLent program lent (work row)) → FollowsLent program lent (with_row o work)
this_lent program lent None work each = tt
this_lent program lent (Some row) work each = each row refl

birth_lent : (program : Program) (lent : Option ℕ) (layout : Layout) (t used : ℕ) (context : Context) (at : ℕ)
    (variables : List (Option ℕ))
    (to word otherwise : ℕ) → lent ≡ None
    → FollowsLent program lent (birth_action layout t used context at variables to word otherwise)
birth_lent program lent layout t used context at variables to word otherwise none =
    either (FollowsLent program lent) (has_room layout t used)
    (Does (BirthKind (row_at layout t used) (by_variable context to) word) []
    (always (InCall context (at + 1) (slice_set variables to (Some (row_at layout t used))))))
    (Silent [] (InCall context otherwise (slice_set variables to None)))
    (λ room found full. none) none

-- A look at a list's kind word lends nothing, wherever it leads.
range_lent : (program : Program) (lent : Option ℕ) (list : Option ℕ) (index : ℕ) (inside outside : Place)
    → lent ≡ lent_at program inside → lent ≡ lent_at program outside
    → FollowsLent program lent (with_row list (λ row. Does (KindLoad row) [] (by_range index inside outside)))
range_lent program lent list index inside outside has past =
    row_lent program lent list _ (λ row found full.
    either (λ (place : Place). lent ≡ lent_at program place) (nat_lt index (cells_of found)) inside outside (λ is. has)
    past)

item_lent : (program : Program) (lent : Option ℕ) (empty : Place) (holds : ℕ → Place) (word : ℕ)
    → lent ≡ lent_at program empty → ((item : ℕ) → lent ≡ lent_at program (holds item))
    → lent ≡ lent_at program (by_item empty holds word)
item_lent program lent empty holds zero none some = none
item_lent program lent empty holds (suc item) none some = some item

-- A look at a cell lends nothing, wherever it leads.
cell_lent : (program : Program) (lent : Option ℕ) (list : Option ℕ) (index : ℕ) (empty : Place) (holds : ℕ → Place)
    → lent ≡ lent_at program empty → ((item : ℕ) → lent ≡ lent_at program (holds item))
    → FollowsLent program lent (with_row list (λ row. Does (CellLoad row index) [] (by_item empty holds)))
cell_lent program lent list index empty holds none some =
    row_lent program lent list _ (λ row found full. item_lent program lent empty holds found none some)

-- A thread that asks the host for a resource has lent nothing, wherever it goes on.
grant_lent : (program : Program) (lent : Option ℕ) (layout : Layout) (t used : ℕ) (context : Context) (at : ℕ)
    (variables : List (Option ℕ)) (to otherwise : ℕ) → lent ≡ None
    → FollowsLent program lent (grant_action layout t used context at variables to otherwise)
grant_lent program lent layout t used context at variables to otherwise none =
    either (FollowsLent program lent) (has_room layout t used) _ _
    (λ room. (
      none,
      exit_decides (λ (place : Place). lent ≡ lent_at program place)
          (Inside context at variables Granted) (InCall context otherwise (slice_set variables to None)) none none,
    )) none

-- A thread that lends the resource of a file has lent that one.
lend_lent : (program : Program) (context : Context) (at : ℕ) (variables : List (Option ℕ)) (file : ℕ) (i : Instr)
    (lent : Option ℕ) → slice_get (code_in program context) at ≡ Some i → lent_to Lent (Some i) variables ≡ row_of
    variables file
    → FollowsLent program lent (lend_action context at variables file)
lend_lent program context at variables file i lent is lends =
    let there : lent_at program (Inside context at variables Lent) ≡ row_of variables file =
    ap (λ (o : Option Instr). lent_to Lent o variables) is ∙ lends in
    this_lent program lent (row_of variables file) _ (λ row this found full.
    ap (λ (w : ℕ). cond (w == 1) (Some row) lent) full ∙ sym this ∙ sym there)

-- The end of a call lends nothing, wherever the thread goes on.
ret_lent : (program : Program) (lent : Option ℕ) (t left from row : ℕ) (outer : List OpenCall) → lent ≡ None
    → FollowsLent program lent (ret_action t left from row outer)
ret_lent program lent t left from row [] none = λ found full. none
ret_lent program lent t left from row (o ∷ outer) none = none

fail_lent : (program : Program) (lent : Option ℕ) (left : ℕ) (outer : List OpenCall) → lent ≡ None
    → FollowsLent program lent (fail_action left outer)
fail_lent program lent left [] none = none
fail_lent program lent left (o ∷ outer) none = none

instruction_lent : (program : Program) (layout : Layout) (t used : ℕ) (before : Place) (context : Context) (at : ℕ)
    (variables : List (Option ℕ)) (i : Option Instr) (lent : Option ℕ) → slice_get (code_in program context) at ≡ i
    → lent ≡ None
    → lent ≡ lent_at program before
    → FollowsLent program lent (dispatch_instruction layout t used before context at variables i)
instruction_lent program layout t used before context at variables None lent is none back = tt
instruction_lent program layout t used before context at variables (Some (Num to value otherwise)) lent is none back =
    birth_lent program lent layout t used context at variables to (number_word value) otherwise none
instruction_lent program layout t used before context at variables (Some (ListObject to cells otherwise)) lent is none
    back =
    birth_lent program lent layout t used context at variables to (list_word cells) otherwise none
instruction_lent program layout t used before context at variables (Some (Newref to from)) lent is none back =
    row_lent program lent (row_of variables from) _ (λ row found full. none)
instruction_lent program layout t used before context at variables (Some (MoveReference to from)) lent is none back =
    row_lent program lent (row_of variables from) _ (λ row. none)
instruction_lent program layout t used before context at variables (Some (Drop from)) lent is none back =
    row_lent program lent (row_of variables from) _ (λ row found full. none)
instruction_lent program layout t used before context at variables (Some (Lock object)) lent is none back =
    row_lent program lent (row_of variables object) _ (λ row found full.
    either (λ (place : Place). lent ≡ lent_at program place) (found == free_word) (InCall context (at + 1) variables)
    before
    (λ free. none) back)
instruction_lent program layout t used before context at variables (Some (Unlock object)) lent is none back =
    row_lent program lent (row_of variables object) _ (λ row found full. none)
instruction_lent program layout t used before context at variables (Some (Borrow to list index otherwise)) lent is none
    back =
    range_lent program lent (row_of variables list) index (Inside context at variables InRange)
    (InCall context otherwise (slice_set variables to None)) none none
instruction_lent program layout t used before context at variables (Some (Fetch to list index otherwise)) lent is none
    back =
    range_lent program lent (row_of variables list) index (Inside context at variables InRange)
    (InCall context otherwise (slice_set variables to None)) none none
instruction_lent program layout t used before context at variables (Some (Set list index from otherwise)) lent is none
    back =
    range_lent program lent (row_of variables list) index (Inside context at variables InRange)
    (Inside context at variables OutOfRange) none none
instruction_lent program layout t used before context at variables (Some (Put list index from otherwise)) lent is none
    back =
    range_lent program lent (row_of variables list) index (Inside context at variables InRange)
    (InCall context otherwise variables) none none
instruction_lent program layout t used before context at variables (Some (Open to path mode otherwise)) lent is none
    back =
    grant_lent program lent layout t used context at variables to otherwise none
instruction_lent program layout t used before context at variables (Some (Connect to peer otherwise)) lent is none
    back =
    grant_lent program lent layout t used context at variables to otherwise none
instruction_lent program layout t used before context at variables
    (Some (Read to file most otherwise)) lent is none back
    =
    either (FollowsLent program lent) (has_room layout t used) (lend_action context at variables file)
    (Silent [] (InCall context otherwise (slice_set variables to None)))
    (λ room. lend_lent program context at variables file (Read to file most otherwise) lent is refl) none
instruction_lent program layout t used before context at variables
    (Some (Write file number otherwise)) lent is none back
    =
    row_lent program lent (row_of variables number) _ (λ row found full. none)
instruction_lent program layout t used before context at variables (Some (As from kind otherwise)) lent is none back =
    row_lent program lent (row_of variables from) _ (λ row found full. none)
instruction_lent program layout t used before context at variables (Some (Again to times)) lent is none back =
    either (λ (place : Place). lent ≡ lent_at program place) (nat_lt (turns_at context at) times)
    (InCall (with_turn context at) to variables) (InCall context (at + 1) variables) (λ more. none) none
instruction_lent program layout t used before context at variables (Some (Call to callee arguments otherwise)) lent is
    none back =
    either (FollowsLent program lent) (list_all is_some (argument_rows variables arguments)) _ _ (λ named. none) tt
instruction_lent program layout t used before context at variables (Some (Ret from)) lent is none back =
    row_lent program lent (row_of variables from) _ (λ row.
    ret_lent program lent t context.left from row context.outer none)
instruction_lent program layout t used before context at variables (Some (NoneObject to)) lent is none back = none
instruction_lent program layout t used before context at variables (Some (Take to list)) lent is none back = none
instruction_lent program layout t used before context at variables (Some (Goto to)) lent is none back = none
instruction_lent program layout t used before context at variables (Some Fail) lent is none back =
    fail_lent program lent context.left context.outer none

inside_lent : (program : Program) (layout : Layout) (t used : ℕ) (context : Context) (at : ℕ)
    (variables : List (Option ℕ)) (stage : Stage) (i : Option Instr)
    (lent : Option ℕ) → slice_get (code_in program context) at ≡ i → lent ≡ lent_to stage i variables
    → FollowsLent program lent (dispatch_inside layout t used context at variables stage i)
inside_lent program layout t used context at variables InRange (Some (Borrow to list index otherwise)) lent is says =
    cell_lent program lent (row_of variables list) index (InCall context otherwise (slice_set variables to None))
    (λ item. InCall context (at + 1) (slice_set variables to (Some item))) says (λ item. says)
inside_lent program layout t used context at variables InRange (Some (Fetch to list index otherwise)) lent is says =
    cell_lent program lent (row_of variables list) index (InCall context otherwise (slice_set variables to None))
    (λ item. Inside context at variables (Found item)) says (λ item. says)
inside_lent program layout t used context at variables (Found item) (Some (Fetch to list index otherwise)) lent is
    says =
    λ found full. says
inside_lent program layout t used context at variables InRange (Some (Set list index from otherwise)) lent is says =
    row_lent program lent (row_of variables list) _ (λ row.
    row_lent program lent (row_of variables from) _ (λ item found full. says))
inside_lent program layout t used context at variables OutOfRange (Some (Set list index from otherwise)) lent is says =
    row_lent program lent (row_of variables from) _ (λ item found full. says)
inside_lent program layout t used context at variables InRange (Some (Put list index from otherwise)) lent is says =
    row_lent program lent (row_of variables from) _ (λ item found full. says)
inside_lent program layout t used context at variables Retained (Some (Put list index from otherwise)) lent is says =
    row_lent program lent (row_of variables list) _ (λ row.
    row_lent program lent (row_of variables from) _ (λ item found full. says))
inside_lent program layout t used context at variables Granted (Some (Open to path mode otherwise)) lent is says =
    λ found full. says
inside_lent program layout t used context at variables Granted (Some (Connect to peer otherwise)) lent is says =
    λ found full. says
inside_lent program layout t used context at variables Lent (Some (Read to file most otherwise)) lent is says =
    (says, λ exit. says ∙ sym (ap (λ (o : Option Instr). lent_to (Called exit) o variables) is))
inside_lent program layout t used context at variables (Called Success) (Some (Read to file most otherwise)) lent is
    says
    =
    row_lent program lent (row_of variables file) _ (λ row found full. refl)
inside_lent program layout t used context at variables (Called Fault) (Some (Read to file most otherwise)) lent is
    says =
    row_lent program lent (row_of variables file) _ (λ row found full. refl)
inside_lent program layout t used context at variables Granted (Some (Read to file most otherwise)) lent is says =
    λ found full. says
inside_lent program layout t used context at variables Loaded (Some (Write file number otherwise)) lent is says =
    lend_lent program context at variables file (Write file number otherwise) lent is refl
inside_lent program layout t used context at variables Lent (Some (Write file number otherwise)) lent is says =
    (says, λ exit. says ∙ sym (ap (λ (o : Option Instr). lent_to (Called exit) o variables) is))
inside_lent program layout t used context at variables (Called Success) (Some (Write file number otherwise)) lent is
    says
    =
    row_lent program lent (row_of variables file) _ (λ row found full. refl)
inside_lent program layout t used context at variables (Called Fault) (Some (Write file number otherwise)) lent is
    says =
    row_lent program lent (row_of variables file) _ (λ row found full. refl)
inside_lent program layout t used context at variables stage i lent is says = tt

-- Whatever a thread of the code dispatches, its place says afterwards what it has lent.
pub dispatch_lent : (program : Program) (layout : Layout) (t used : ℕ) (place : Place) (lent : Option ℕ)
    → lent ≡ lent_at program place → FollowsLent program lent (dispatch layout t used (code_at program place) place)
dispatch_lent program layout t used Exiting lent says = tt
dispatch_lent program layout t used (Idle zero) lent says = λ found full. says
dispatch_lent program layout t used (Idle (suc left)) lent says =
    instruction_lent program layout t used (Idle (suc left)) (first_context left) 0 entry_variables
    (slice_get (code_at program (Idle (suc left))) 0)
    lent refl says says
dispatch_lent program layout t used (InCall context at variables) lent says =
    instruction_lent program layout t used (InCall context at variables) context at variables
    (slice_get (code_in program context) at) lent
    refl says says
dispatch_lent program layout t used (Inside context at variables stage) lent says =
    inside_lent program layout t used context at variables stage (slice_get (code_in program context) at) lent refl says
dispatch_lent program layout t used (Stopping (Some row) calls) lent says = λ found full.
    stopping_decides (λ (place : Place). lent ≡ lent_at program place) None calls says says
dispatch_lent program layout t used (Stopping None calls) lent says =
    give_up_decides (FollowsLent program lent) tt
    (λ row depth v after found full.
    stopping_decides (λ (place : Place). lent ≡ lent_at program place) None after says says) calls
