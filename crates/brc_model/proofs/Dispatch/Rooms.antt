-- Where a thread awaits a birth: the host has granted it a resource, and its block has room for the object that it is
-- to make of it. The thread has nothing else to do meanwhile.
use Rattle.brc_model.specs.declared.state.Exit.TheVariants.{Success, Fault as FaultExit}
use Rattle.std.proofs.Common.{◌≡◌, ℕ, zero, suc, ◌+◌, Bool, true, false, List, [], ◌∷◌, Option, None, Some, refl, sym, ap, ◌∙◌, cond}
use Rattle.std.specs.Prelude.{◌==◌, nat_lt, slice_get, slice_set, is_some}
use Rattle.std.specs.List.{list_all}
use Rattle.brc_lang.specs.declared.module.Function.{Function}
use Rattle.brc_lang.specs.declared.module.Instr.{Instr}
use Rattle.brc_lang.specs.declared.module.Instr.TheVariants.{Num, List as ListObject, NoneObject, Take, Newref, Move as MoveReference, Drop, Lock, Unlock, Borrow, Fetch, Set, Put, Goto, Again, Ret, Fail, Call, As, Open, Connect, Read, Write}
use Rattle.brc_word.specs.Words.{free_word}
use Rattle.brc_model.specs.declared.state.Exit.{Exit}
use Rattle.brc_model.specs.declared.thread.Choice.{Choice}
use Rattle.brc_model.specs.declared.thread.Choice.TheVariants.{Ok, Fault, Claim, Stop}
use Rattle.brc_model.specs.declared.actor.Status.{Status}
use Rattle.brc_model.specs.declared.actor.Status.TheVariants.{Running, Leaving, Gone}
use Rattle.brc_model.specs.declared.actor.Place.{Place}
use Rattle.brc_model.specs.declared.actor.Place.TheVariants.{Idle, InCall, Inside, Stopping, Exiting}
use Rattle.brc_model.specs.declared.actor.Context.{Context}
use Rattle.brc_model.specs.declared.actor.Stage.{Stage}
use Rattle.brc_model.specs.declared.actor.Stage.TheVariants.{InRange, OutOfRange, Found, Retained, Granted, Loaded, Lent, Called}
use Rattle.brc_model.specs.declared.duty.Duty.{Duty}
use Rattle.brc_model.specs.declared.duty.Duty.TheVariants.{KindLoad, LockGate, CellLoad, LendField, UnlockGate, ReleaseLoad, Settle}
use Rattle.brc_model.specs.declared.layout.Layout.{Layout}
use Rattle.brc_model.specs.declared.actor.Actor.{Actor}
use Rattle.brc_model.specs.Machine.{is_lending, has_room}
use Rattle.brc_model.specs.Threads.{row_of, entry_variables}
use Rattle.brc_model.specs.Actions.{StepActor, Action, Skip, Stuck, Silent, Calls, Does, with_row, number_word, list_word, birth_action, first_context, turns_at, with_turn, again_place, by_range, by_item, dispatch_instruction, dispatch_inside, lend_action, always, holds_some, stopping, stop_action, ret_action, fail_action, argument_rows}
use Rattle.brc_model.specs.Dispatch.{dispatch, may_claim, agenda_action, status_action, action_of, may_stop}
use Rattle.brc_model.specs.StepMachine.{StepMachine}
use Rattle.brc_model.proofs.Basics.Lists.{either}
use Rattle.brc_model.proofs.Dispatch.Decided.{range_decides, item_decides, stopping_decides, stop_decides, give_up_decides}
use Rattle.brc_model.proofs.Dispatch.Claims.{claimer}
use Rattle.brc_model.specs.declared.state.State.{State}
use Rattle.brc_model.specs.declared.duty.Holding.TheVariants.{ByVariable}
use Rattle.brc_model.proofs.Dispatch.Programs.{Program, code_in, code_at, program_of}
use Rattle.brc_model.specs.declared.actor.OpenCall.{OpenCall}

-- Says whether a thread so far inside the instruction awaits a birth.
abbrev pub awaits_inside : Stage → Option Instr → Bool
awaits_inside Granted i = true
awaits_inside Lent (Some (Read to file most otherwise)) = true
awaits_inside (Called exit) (Some (Read to file most otherwise)) = true
awaits_inside stage i = false

-- Says whether a thread at the place awaits a birth.
abbrev pub awaits_birth : Program → Place → Bool
awaits_birth program (Idle left) = false
awaits_birth program (InCall context at variables) = false
awaits_birth program (Inside context at variables stage) = awaits_inside stage (slice_get (code_in program context) at)
awaits_birth program (Stopping lock calls) = false
awaits_birth program Exiting = false

-- A thread that awaits a birth has room for it, and nothing else to do.
pub record HasRoom (layout : Layout) (t : ℕ) (a : Actor) : Type 0 where
  pub agenda : a.agenda ≡ []
  pub room : has_room layout t a.used ≡ true

-- If the thread awaits a birth, it has room for it.
abbrev pub RoomFits : StepMachine → ℕ → StepActor → Type 0
RoomFits m t a =
    awaits_birth (program_of m.functions m.states a) a.place ≡ true → HasRoom m.layout t a.actor

abbrev pub RoomsFit : StepMachine → Type 0
RoomsFit m = (t : ℕ) (a : StepActor) → slice_get m.actors t ≡ Some a → RoomFits m t a

-- Where the action of a thread leads to a place at which a birth is awaited, there is room, and the action is no duty
-- but one that lends a resource or returns it.
abbrev pub FollowsRoom : Program → Bool → Action → Type 0
FollowsRoom program room Skip = Unit {0}
FollowsRoom program room Stuck = Unit {0}
FollowsRoom program room (Silent moves place) = awaits_birth program place ≡ true → room ≡ true
FollowsRoom program room (Calls row place) = (exit : Exit) → awaits_birth program (place exit) ≡ true → room ≡ true
FollowsRoom program room (Does d rest place) =
    (found : ℕ) → awaits_birth program (place found) ≡ true → (is_lending d ≡ true) × (rest ≡ []) × (room ≡ true)

-- No birth is awaited at the place.
abbrev AwaitsNone : Program → Place → Type 0
AwaitsNone program place = awaits_birth program place ≡ false

module _ (program : Program) (room : Bool) where
  awaits_no : {A : Type 0} (place : Place) → AwaitsNone program place → awaits_birth program place ≡ true → A
  awaits_no place none awaits = absurd (let wrong : false ≡ true = sym none ∙ awaits in cc)

  -- A silent step, or a duty, after which no birth is awaited.
  silent_none : (place : Place) → AwaitsNone program place → awaits_birth program place ≡ true → room ≡ true
  silent_none place none = awaits_no place none

  does_none : (d : Duty) (rest : List Duty) (place : ℕ → Place) → ((found : ℕ) → AwaitsNone program (place found))
      → FollowsRoom program room (Does d rest place)
  does_none d rest place none = λ found. awaits_no (place found) (none found)

  row_room : (o : Option ℕ) (work : ℕ → Action) → ((row : ℕ) → FollowsRoom program room (work row))
      → FollowsRoom program room (with_row o work)
  row_room None work each = tt
  row_room (Some row) work each = each row

  birth_none : (layout : Layout) (t used : ℕ) (context : Context) (at : ℕ) (variables : List (Option ℕ))
      (to word otherwise : ℕ)
      → FollowsRoom program room (birth_action layout t used context at variables to word otherwise)
  birth_none layout t used context at variables to word otherwise =
      either (FollowsRoom program room) (has_room layout t used) _ _ (λ has found e. absurd cc) (λ e. absurd cc)

  range_room : (list : Option ℕ) (index : ℕ) (inside outside : Place) → AwaitsNone program inside
      → AwaitsNone program outside
      → FollowsRoom program room (with_row list (λ row. Does (KindLoad row) [] (by_range index inside outside)))
  range_room list index inside outside enters passes =
      row_room list _ (λ row. does_none (KindLoad row) [] (by_range index inside outside) (λ found.
      range_decides (AwaitsNone program) inside outside index found (λ has. enters) passes))

  cell_room : (list : Option ℕ) (index : ℕ) (empty : Place) (holds : ℕ → Place) → AwaitsNone program empty
      → ((item : ℕ) → AwaitsNone program (holds item))
      → FollowsRoom program room (with_row list (λ row. Does (CellLoad row index) [] (by_item empty holds)))
  cell_room list index empty holds none some =
      row_room list _ (λ row. does_none (CellLoad row index) [] (by_item empty holds) (λ found.
      item_decides (λ word. AwaitsNone program) empty holds none some found))

  -- After the end of a call no birth is awaited.
  ret_room : (t left from row : ℕ) (outer : List OpenCall)
      → FollowsRoom program room (ret_action t left from row outer)
  ret_room t left from row [] = λ found e. absurd cc
  ret_room t left from row (o ∷ outer) = λ e. absurd cc

  fail_room : (left : ℕ) (outer : List OpenCall) → FollowsRoom program room (fail_action left outer)
  fail_room left [] = λ e. absurd cc
  fail_room left (o ∷ outer) = λ e. absurd cc

module _ (program : Program) (layout : Layout) (t used : ℕ) where
  abbrev LeavesRoom : Action → Type 0
  LeavesRoom = FollowsRoom program (has_room layout t used)

  instruction_room : (before : Place) (context : Context) (at : ℕ) (variables : List (Option ℕ)) (i : Option Instr)
      → slice_get (code_in program context) at ≡ i → AwaitsNone program before
      → LeavesRoom (dispatch_instruction layout t used before context at variables i)
  instruction_room before context at variables None is none = tt
  instruction_room before context at variables (Some (Num to value otherwise)) is none =
      birth_none program (has_room layout t used) layout t used context at variables to (number_word value) otherwise
  instruction_room before context at variables (Some (ListObject to cells otherwise)) is none =
      birth_none program (has_room layout t used) layout t used context at variables to (list_word cells) otherwise
  instruction_room before context at variables (Some (NoneObject to)) is none = λ e. absurd cc
  instruction_room before context at variables (Some (Take to list)) is none = λ e. absurd cc
  instruction_room before context at variables (Some (Newref to from)) is none =
      row_room program (has_room layout t used) (row_of variables from) _ (λ row found e. absurd cc)
  instruction_room before context at variables (Some (MoveReference to from)) is none =
      row_room program (has_room layout t used) (row_of variables from) _ (λ row e. absurd cc)
  instruction_room before context at variables (Some (Drop from)) is none =
      row_room program (has_room layout t used) (row_of variables from) _ (λ row found e. absurd cc)
  instruction_room before context at variables (Some (Lock object)) is none =
      row_room program (has_room layout t used) (row_of variables object) _ (λ row.
      does_none program (has_room layout t used) (LockGate row) [] _ (λ found.
      either (AwaitsNone program) (found == free_word) (InCall context (at + 1) variables) before (λ free. refl) none))
  instruction_room before context at variables (Some (Unlock object)) is none =
      row_room program (has_room layout t used) (row_of variables object) _ (λ row found e. absurd cc)
  instruction_room before context at variables (Some (Borrow to list index otherwise)) is none =
      range_room program (has_room layout t used) (row_of variables list) index (Inside context at variables InRange)
      (InCall context otherwise (slice_set variables to None)) refl refl
  instruction_room before context at variables (Some (Fetch to list index otherwise)) is none =
      range_room program (has_room layout t used) (row_of variables list) index (Inside context at variables InRange)
      (InCall context otherwise (slice_set variables to None)) refl refl
  instruction_room before context at variables (Some (Set list index from otherwise)) is none =
      range_room program (has_room layout t used) (row_of variables list) index (Inside context at variables InRange)
      (Inside context at variables OutOfRange) refl refl
  instruction_room before context at variables (Some (Put list index from otherwise)) is none =
      range_room program (has_room layout t used) (row_of variables list) index (Inside context at variables InRange)
      (InCall context otherwise variables) refl refl
  instruction_room before context at variables (Some (Open to path mode otherwise)) is none =
      either LeavesRoom (has_room layout t used) _ _ (λ room exit awaits. room) (λ e. absurd cc)
  instruction_room before context at variables (Some (Connect to peer otherwise)) is none =
      either LeavesRoom (has_room layout t used) _ _ (λ room exit awaits. room) (λ e. absurd cc)
  instruction_room before context at variables (Some (Read to file most otherwise)) is none =
      either LeavesRoom (has_room layout t used) (lend_action context at variables file)
      (Silent [] (InCall context otherwise (slice_set variables to None)))
      (λ room.
      row_room program (has_room layout t used) (row_of variables file) _ (λ row found awaits. (refl, refl, room)))
      (λ e. absurd cc)
  instruction_room before context at variables (Some (Write file number otherwise)) is none =
      row_room program (has_room layout t used) (row_of variables number) _ (λ row found e. absurd cc)
  instruction_room before context at variables (Some (As from kind otherwise)) is none =
      row_room program (has_room layout t used) (row_of variables from) _ (λ row found e. absurd cc)
  instruction_room before context at variables (Some (Goto to)) is none = λ e. absurd cc
  instruction_room before context at variables (Some (Again to times)) is none =
      silent_none program (has_room layout t used) (again_place context at variables to times)
      (either (AwaitsNone program) (nat_lt (turns_at context at) times) (InCall (with_turn context at) to variables)
      (InCall context (at + 1) variables) (λ more. refl) refl)
  instruction_room before context at variables (Some (Call to callee arguments otherwise)) is none =
      either LeavesRoom (list_all is_some (argument_rows variables arguments)) _ _ (λ named e. absurd cc) tt
  instruction_room before context at variables (Some (Ret from)) is none =
      row_room program (has_room layout t used) (row_of variables from) _ (λ row.
      ret_room program (has_room layout t used) t context.left from row context.outer)
  instruction_room before context at variables (Some Fail) is none =
      fail_room program (has_room layout t used) context.left context.outer

  inside_room : (context : Context) (at : ℕ) (variables : List (Option ℕ)) (stage : Stage) (i : Option Instr)
      → slice_get (code_in program context) at ≡ i → (awaits_inside stage i ≡ true → has_room layout t used ≡ true)
      → LeavesRoom (dispatch_inside layout t used context at variables stage i)
  inside_room context at variables InRange (Some (Borrow to list index otherwise)) is has =
      cell_room program (has_room layout t used) (row_of variables list) index
      (InCall context otherwise (slice_set variables to None))
      (λ item. InCall context (at + 1) (slice_set variables to (Some item))) refl (λ item. refl)
  inside_room context at variables InRange (Some (Fetch to list index otherwise)) is has =
      cell_room program (has_room layout t used) (row_of variables list) index
      (InCall context otherwise (slice_set variables to None))
      (λ item. Inside context at variables (Found item)) refl (λ item. refl)
  inside_room context at variables (Found item) (Some (Fetch to list index otherwise)) is has = λ found e. absurd cc
  inside_room context at variables InRange (Some (Set list index from otherwise)) is has =
      row_room program (has_room layout t used) (row_of variables list) _ (λ row.
      row_room program (has_room layout t used) (row_of variables from) _ (λ item found e. absurd cc))
  inside_room context at variables OutOfRange (Some (Set list index from otherwise)) is has =
      row_room program (has_room layout t used) (row_of variables from) _ (λ item found e. absurd cc)
  inside_room context at variables InRange (Some (Put list index from otherwise)) is has =
      row_room program (has_room layout t used) (row_of variables from) _ (λ item found e. absurd cc)
  inside_room context at variables Retained (Some (Put list index from otherwise)) is has =
      row_room program (has_room layout t used) (row_of variables list) _ (λ row.
      row_room program (has_room layout t used) (row_of variables from) _ (λ item found e. absurd cc))
  inside_room context at variables Granted (Some (Open to path mode otherwise)) is has = λ found e. absurd cc
  inside_room context at variables Granted (Some (Connect to peer otherwise)) is has = λ found e. absurd cc
  inside_room context at variables Lent (Some (Read to file most otherwise)) is has = λ exit awaits. has refl
  inside_room context at variables (Called Success) (Some (Read to file most otherwise)) is has =
      row_room program (has_room layout t used) (row_of variables file) _ (λ row found awaits. (refl, refl, has refl))
  inside_room context at variables (Called FaultExit) (Some (Read to file most otherwise)) is has =
      row_room program (has_room layout t used) (row_of variables file) _ (λ row found e. absurd cc)
  inside_room context at variables Granted (Some (Read to file most otherwise)) is has = λ found e. absurd cc
  inside_room context at variables Loaded (Some (Write file number otherwise)) is has =
      row_room program (has_room layout t used) (row_of variables file) _ (λ row.
      does_none program (has_room layout t used) (LendField row) [] (always (Inside context at variables Lent))
      (λ found. ap (awaits_inside Lent) is))
  inside_room context at variables Lent (Some (Write file number otherwise)) is has = λ exit.
      silent_none program (has_room layout t used) (Inside context at variables (Called exit))
      (ap (awaits_inside (Called exit)) is)
  inside_room context at variables (Called Success) (Some (Write file number otherwise)) is has =
      row_room program (has_room layout t used) (row_of variables file) _ (λ row found e. absurd cc)
  inside_room context at variables (Called FaultExit) (Some (Write file number otherwise)) is has =
      row_room program (has_room layout t used) (row_of variables file) _ (λ row found e. absurd cc)
  inside_room context at variables stage i is has = tt

  dispatch_room : (place : Place) → (awaits_birth program place ≡ true → has_room layout t used ≡ true)
      → LeavesRoom (dispatch layout t used (code_at program place) place)
  dispatch_room Exiting has = tt
  dispatch_room (Idle zero) has = λ found e. absurd cc
  dispatch_room (Idle (suc left)) has =
      instruction_room (Idle (suc left)) (first_context left) 0 entry_variables
      (slice_get (code_at program (Idle (suc left))) 0) refl refl
  dispatch_room (InCall context at variables) has =
      instruction_room (InCall context at variables) context at variables (slice_get (code_in program context) at) refl
      refl
  dispatch_room (Inside context at variables stage) has =
      inside_room context at variables stage (slice_get (code_in program context) at) refl has
  dispatch_room (Stopping (Some row) calls) has =
      does_none program (has_room layout t used) (UnlockGate row) [] (always (stopping None calls))
      (λ found. stopping_decides (AwaitsNone program) None calls refl refl)
  dispatch_room (Stopping None calls) has =
      give_up_decides (FollowsRoom program (has_room layout t used)) tt
      (λ row depth v after.
      does_none program (has_room layout t used) (ReleaseLoad row (ByVariable depth v))
      (cond (holds_some after) [] (Settle ∷ [])) (always (stopping None after))
      (λ found. stopping_decides (AwaitsNone program) None after refl refl)) calls

module _ (functions : List Function) (states : ℕ → ℕ → Option State) (layout : Layout) (t : ℕ) (a : StepActor)
    (has : awaits_birth (program_of functions states a) a.place ≡ true → HasRoom layout t a.actor) where
  abbrev Stays : Action → Type 0
  Stays = FollowsRoom (program_of functions states a) (has_room layout t a.actor.used)

  agenda_room : (agenda : List Duty) → a.actor.agenda ≡ agenda → Stays (agenda_action functions layout t a agenda)
  agenda_room [] is =
      dispatch_room (program_of functions states a) layout t a.actor.used a.place
      (λ awaits. (has awaits).room)
  agenda_room (d ∷ rest) is = λ found awaits.
      absurd (let wrong : d ∷ rest ≡ [] = sym is ∙ (has awaits).agenda in cc)

  status_room : (status : Status) → Stays (status_action functions layout t a status)
  status_room Gone = tt
  status_room Running = agenda_room a.actor.agenda refl
  status_room Leaving = agenda_room a.actor.agenda refl

  -- Whatever a thread does, there is room where a birth is awaited after it.
  pub action_room : (choice : Choice) → Stays (action_of functions states layout t a choice)
  action_room Ok = status_room a.actor.status
  action_room Fault = status_room a.actor.status
  action_room Stop =
      let program = program_of functions states a in
      let room = has_room layout t a.actor.used in
      either Stays (may_stop a) (stop_action functions states a.function a.place) Skip
      (λ may. stop_decides Stays functions states a.function a.place tt tt
      (λ lock calls. silent_none program room (stopping lock calls)
      (stopping_decides (AwaitsNone program) lock calls refl refl)) (λ e. absurd cc)) tt
  action_room (Claim row) =
      either Stays (may_claim layout t a row) _ Skip
      (λ may found awaits.
      absurd (let wrong : true ≡ false = sym awaits
      ∙ ap (awaits_birth (program_of functions states a)) (claimer layout t a row may).idle in cc)) tt
