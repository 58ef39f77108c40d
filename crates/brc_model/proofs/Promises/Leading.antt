-- Where each dispatch leads. An instruction of a call leads on to a later point, into itself or to the end of the call;
-- a lock that isn't got leaves the thread where it was. What holds of all these places holds after the action.
use Rattle.brc_model.specs.declared.state.Exit.TheVariants.{Success, Fault}
use Rattle.std.proofs.Common.{◌≡◌, ◌≢◌, ℕ, zero, suc, ◌+◌, cond, Bool, false, List, [], Option, None, Some, refl, sym, ap, subst, arith, ◌<◌, length, ◌≤◌, ◌∷◌}
use Rattle.std.specs.Prelude.{◌==◌, nat_lt, slice_get, slice_set, is_some, count_by}
use Rattle.std.proofs.lemmas.Bool.{ltb-true}
use Rattle.std.proofs.lemmas.Option.{slice_get_within}
use Rattle.brc_lang.specs.declared.module.Instr.{Instr}
use Rattle.brc_lang.specs.declared.module.Instr.TheVariants.{Num, List as ListObject, NoneObject, Take, Newref, Move as MoveReference, Drop, Lock, Unlock, Borrow, Fetch, Set, Put, Goto, Again, Ret, Fail, As, Open, Connect, Read, Write, Call}
use Rattle.brc_lang.specs.Grammar.{LeadsForward}
use Rattle.brc_word.specs.Words.{free_word}
use Rattle.brc_model.specs.Kinds.{same_kind, kind_of_word}
use Rattle.brc_model.specs.Threads.{row_of, entry_variables}
use Rattle.brc_model.specs.declared.duty.Duty.{Duty}
use Rattle.brc_model.specs.declared.duty.Duty.TheVariants.{LockGate, KindLoad, CellLoad, ReleaseLoad, Settle}
use Rattle.brc_model.specs.declared.actor.Place.{Place}
use Rattle.brc_model.specs.declared.actor.Context.{Context}
use Rattle.brc_model.specs.declared.actor.Place.TheVariants.{Idle, InCall, Inside, Stopping, Exiting}
use Rattle.brc_model.specs.declared.actor.Stage.{Stage}
use Rattle.brc_model.specs.declared.actor.Stage.TheVariants.{InRange, OutOfRange, Found, Retained, Loaded, Lent, Called, Granted}
use Rattle.brc_model.specs.declared.state.Exit.{Exit}
use Rattle.brc_model.specs.Machine.{has_room}
use Rattle.brc_model.specs.Actions.{Action, Skip, Stuck, Silent, Calls, Does, with_row, by_range, by_item, birth_action, first_context, turns_at, with_turn, dispatch_instruction, dispatch_inside, number_word, list_word, grant_action, lend_action, stopping, holds_some, first_named, give_up_first, give_up, always, waiting_context, callee_context, ret_action, fail_action, passed_variables, argument_rows}
use Rattle.brc_model.specs.Dispatch.{dispatch}
use Rattle.brc_model.proofs.Basics.Lists.{either, none_some}
use Rattle.brc_model.proofs.Dispatch.Decided.{range_decides, item_decides, exit_decides}
use Rattle.brc_model.specs.Bounded.{times_of}
use Rattle.brc_model.specs.declared.layout.Layout.{Layout}
use Rattle.brc_model.specs.Layout.{none_row, row_at, first_immortal_list}
use Rattle.std.specs.List.{list_all, list_any}
use Rattle.std.proofs.lemmas.List.Sums.{sum_by-cons}
use Rattle.brc_model.specs.declared.duty.Holding.TheVariants.{ByVariable}
use Rattle.brc_model.specs.References.{one_if}
use Rattle.brc_model.specs.declared.actor.OpenCall.{OpenCall}
use Rattle.brc_lang.specs.declared.parameter.Argument.{Argument}

-- The property holds of the next place, if the duty goes on; a lock that isn't got leaves the thread at the place.
abbrev pub Leads : (Place → Type 0) → Place → Duty → ℕ → Place → Type 0
Leads P place (LockGate x) found next = (found ≡ free_word → P next) × ((found == free_word) ≡ false → next ≡ place)
Leads P place d found next = P next

-- The property holds of each place to which the action leads, unless the thread waits where it is.
abbrev pub LeadsTo : (Place → Type 0) → Place → Action → Type 0
LeadsTo P place Skip = ⊥
LeadsTo P place Stuck = Unit {0}
LeadsTo P place (Silent moves next) = P next
LeadsTo P place (Calls row next) = (exit : Exit) → P (next exit)
LeadsTo P place (Does d rest next) = (found : ℕ) → Leads P place d found (next found)

-- The property holds of each place to which the end of a call can lead: to the end of an outermost call, or on in the
-- call that has made it, past its instruction or at L.
abbrev pub HoldsAtEnd : (Place → Type 0) → ℕ → List OpenCall → Type 0
HoldsAtEnd P left [] = P (Idle left)
HoldsAtEnd P left (o ∷ outer) =
    ((row : ℕ) → P (InCall (waiting_context left o outer) (o.at + 1) (slice_set o.variables o.to (Some row))))
    × P (InCall (waiting_context left o outer) o.otherwise o.variables)

-- The property holds of each place to which an instruction at the point of a call can lead.
pub record HoldsAfter (P : Place → Type 0) (code : List Instr) (context : Context) (at : ℕ)
    (variables : List (Option ℕ)) : Type 0 where
  pub on : (next : ℕ) (later : List (Option ℕ)) → at < next → P (InCall context next later)
  pub back : (to : ℕ) (i : Instr) → slice_get code at ≡ Some i → turns_at context at < times_of i
      → P (InCall (with_turn context at) to variables)
  pub into : (stage : Stage) → P (Inside context at variables stage)
  pub calls : (to callee : ℕ) (arguments : List Argument) (otherwise : ℕ)
      → slice_get code at ≡ Some (Call to callee arguments otherwise)
      → P (InCall (callee_context context at variables to callee arguments otherwise) 0
      (passed_variables variables arguments))
  pub ends : HoldsAtEnd P context.left context.outer

-- The property holds of each place to which a thread inside an instruction can go.
pub record HoldsWithin (P : Place → Type 0) (context : Context) (at : ℕ) (variables : List (Option ℕ))
    (stage : Stage) : Type 0 where
  pub on : (next : ℕ) (later : List (Option ℕ)) → at < next → P (InCall context next later)
  pub into : (further : Stage) → further ≢ stage → P (Inside context at variables further)

module _ (P : Place → Type 0) (place : Place) where
  row_leads : (o : Option ℕ) (work : ℕ → Action) → ((row : ℕ) → LeadsTo P place (work row))
      → LeadsTo P place (with_row o work)
  row_leads None work each = tt
  row_leads (Some row) work each = each row

  -- A look at a list's kind word leads into the instruction, or past it.
  range_leads : (list : Option ℕ) (index : ℕ) (inside outside : Place) → P inside → P outside
      → LeadsTo P place (with_row list (λ row. Does (KindLoad row) [] (by_range index inside outside)))
  range_leads list index inside outside enters passes =
      row_leads list _ (λ row found. range_decides P inside outside index found (λ has. enters) passes)

  -- A look at a cell leads past the instruction, or to the place for the item found.
  cell_leads : (list : Option ℕ) (index : ℕ) (empty : Place) (holds : ℕ → Place) → P empty
      → ((item : ℕ) → P (holds item))
      → LeadsTo P place (with_row list (λ row. Does (CellLoad row index) [] (by_item empty holds)))
  cell_leads list index empty holds none some =
      row_leads list _ (λ row found. item_decides (λ word next. P next) empty holds none some found)

-- The end of a call leads to one of these places.
ret_leads : (P : Place → Type 0) (place : Place) (t left from row : ℕ) (outer : List OpenCall)
    → HoldsAtEnd P left outer → LeadsTo P place (ret_action t left from row outer)
ret_leads P place t left from row [] ends = λ found. ends
ret_leads P place t left from row (o ∷ outer) ends = ends.0 row

fail_leads : (P : Place → Type 0) (place : Place) (left : ℕ) (outer : List OpenCall)
    → HoldsAtEnd P left outer → LeadsTo P place (fail_action left outer)
fail_leads P place left [] ends = ends
fail_leads P place left (o ∷ outer) ends = ends.1

module _ (P : Place → Type 0) (place : Place) (code : List Instr) (forward : LeadsForward code) (context : Context)
    (at : ℕ) (variables : List (Option ℕ))
  where
    module _ (layout : Layout) (t used : ℕ) (holds : HoldsAfter P code context at variables) where
      birth_leads : (to word otherwise : ℕ) → at < otherwise
          → LeadsTo P place (birth_action layout t used context at variables to word otherwise)
      birth_leads to word otherwise ahead =
          either (LeadsTo P place) (has_room layout t used) _ _
          (λ room found. holds.on (at + 1) (slice_set variables to (Some (row_at layout t used))) (omega arith))
          (holds.on otherwise (slice_set variables to None) ahead)

      -- A thread that asks the host for a resource goes into the instruction, or on to the other point.
      grant_leads : (to otherwise : ℕ) → at < otherwise
          → LeadsTo P place (grant_action layout t used context at variables to otherwise)
      grant_leads to otherwise ahead =
          let refused = holds.on otherwise (slice_set variables to None) ahead in
          either (LeadsTo P place) (has_room layout t used) _ _
          (λ room. exit_decides P (Inside context at variables Granted)
          (InCall context otherwise (slice_set variables to None)) (holds.into Granted) refused) refused

      pub instruction_leads : (i : Option Instr) → slice_get code at ≡ i
          → LeadsTo P place (dispatch_instruction layout t used place context at variables i)
      instruction_leads None is = tt
      instruction_leads (Some (Num to value otherwise)) is =
          birth_leads to (number_word value) otherwise (forward at (Num to value otherwise) otherwise is refl).0
      instruction_leads (Some (ListObject to cells otherwise)) is =
          birth_leads to (list_word cells) otherwise (forward at (ListObject to cells otherwise) otherwise is refl).0
      instruction_leads (Some (NoneObject to)) is =
          holds.on (at + 1) (slice_set variables to (Some none_row)) (omega arith)
      instruction_leads (Some (Take to list)) is =
          holds.on (at + 1) (slice_set variables to (Some (first_immortal_list layout + list))) (omega arith)
      instruction_leads (Some (Newref to from)) is =
          row_leads P place (row_of variables from) _
          (λ row found. holds.on (at + 1) (slice_set variables to (Some row)) (omega arith))
      instruction_leads (Some (MoveReference to from)) is =
          row_leads P place (row_of variables from) _
          (λ row. holds.on (at + 1) (slice_set (slice_set variables from None) to (Some row)) (omega arith))
      instruction_leads (Some (Drop from)) is =
          row_leads P place (row_of variables from) _
          (λ row found. holds.on (at + 1) (slice_set variables from None) (omega arith))
      instruction_leads (Some (Lock object)) is =
          row_leads P place (row_of variables object) _ (λ row word. (
            λ free. subst P (sym (ap (λ (w : ℕ). cond (w == free_word) (InCall context (at + 1) variables) place)
                free))
                (holds.on (at + 1) variables (omega arith)),
            λ taken. ap (λ (b : Bool). cond b (InCall context (at + 1) variables) place) taken,
          ))
      instruction_leads (Some (Unlock object)) is =
          row_leads P place (row_of variables object) _ (λ row found. holds.on (at + 1) variables (omega arith))
      instruction_leads (Some (Borrow to list index otherwise)) is =
          range_leads P place (row_of variables list) index (Inside context at variables InRange)
          (InCall context otherwise (slice_set variables to None)) (holds.into InRange)
          (holds.on otherwise (slice_set variables to None)
          (forward at (Borrow to list index otherwise) otherwise is refl).0)
      instruction_leads (Some (Fetch to list index otherwise)) is =
          range_leads P place (row_of variables list) index (Inside context at variables InRange)
          (InCall context otherwise (slice_set variables to None)) (holds.into InRange)
          (holds.on otherwise (slice_set variables to None)
          (forward at (Fetch to list index otherwise) otherwise is refl).0)
      instruction_leads (Some (Set list index from otherwise)) is =
          range_leads P place (row_of variables list) index (Inside context at variables InRange)
          (Inside context at variables OutOfRange) (holds.into InRange) (holds.into OutOfRange)
      instruction_leads (Some (Put list index from otherwise)) is =
          range_leads P place (row_of variables list) index (Inside context at variables InRange)
          (InCall context otherwise variables) (holds.into InRange)
          (holds.on otherwise variables (forward at (Put list index from otherwise) otherwise is refl).0)
      instruction_leads (Some (Open to path mode otherwise)) is =
          grant_leads to otherwise (forward at (Open to path mode otherwise) otherwise is refl).0
      instruction_leads (Some (Connect to peer otherwise)) is =
          grant_leads to otherwise (forward at (Connect to peer otherwise) otherwise is refl).0
      instruction_leads (Some (Read to file most otherwise)) is =
          either (LeadsTo P place) (has_room layout t used) (lend_action context at variables file)
          (Silent [] (InCall context otherwise (slice_set variables to None)))
          (λ room. row_leads P place (row_of variables file) _ (λ row found. holds.into Lent))
          (holds.on otherwise (slice_set variables to None)
          (forward at (Read to file most otherwise) otherwise is refl).0)
      instruction_leads (Some (Write file number otherwise)) is =
          row_leads P place (row_of variables number) _ (λ row found. holds.into Loaded)
      instruction_leads (Some (As from kind otherwise)) is =
          row_leads P place (row_of variables from) _
          (λ row word. holds.on (cond (same_kind (kind_of_word word) kind) (at + 1) otherwise) variables
          (either (λ (next : ℕ). at < next) (same_kind (kind_of_word word) kind) (at + 1) otherwise
          (λ same. omega arith) (forward at (As from kind otherwise) otherwise is refl).0))
      instruction_leads (Some (Goto to)) is = holds.on to variables (forward at (Goto to) to is refl).0
      instruction_leads (Some (Again to times)) is =
          either P (nat_lt (turns_at context at) times) (InCall (with_turn context at) to variables)
          (InCall context (at + 1) variables)
          (λ more. holds.back to (Again to times) is (ltb-true (turns_at context at) times more))
          (holds.on (at + 1) variables (omega arith))
      instruction_leads (Some (Call to callee arguments otherwise)) is =
          either (LeadsTo P place) (list_all is_some (argument_rows variables arguments)) _ _
          (λ named. holds.calls to callee arguments otherwise is) tt
      instruction_leads (Some (Ret from)) is =
          row_leads P place (row_of variables from) _
          (λ row. ret_leads P place t context.left from row context.outer holds.ends)
      instruction_leads (Some Fail) is = fail_leads P place context.left context.outer holds.ends

    -- Inside an instruction too, each step leads on: to a later point, or further in.
    pub inside_leads : (layout : Layout) (t used : ℕ) (stage : Stage) (i : Option Instr) → slice_get code at ≡ i
        → HoldsWithin P context at variables stage
        → LeadsTo P place (dispatch_inside layout t used context at variables stage i)
    inside_leads layout t used InRange (Some (Borrow to list index otherwise)) is holds =
        cell_leads P place (row_of variables list) index (InCall context otherwise (slice_set variables to None))
        (λ item. InCall context (at + 1) (slice_set variables to (Some item)))
        (holds.on otherwise (slice_set variables to None)
        (forward at (Borrow to list index otherwise) otherwise is refl).0)
        (λ item. holds.on (at + 1) (slice_set variables to (Some item)) (omega arith))
    inside_leads layout t used InRange (Some (Fetch to list index otherwise)) is holds =
        cell_leads P place (row_of variables list) index (InCall context otherwise (slice_set variables to None))
        (λ item. Inside context at variables (Found item))
        (holds.on otherwise (slice_set variables to None)
        (forward at (Fetch to list index otherwise) otherwise is refl).0) (λ item. holds.into (Found item) (λ e. cc))
    inside_leads layout t used (Found item) (Some (Fetch to list index otherwise)) is holds =
        λ found. holds.on (at + 1) (slice_set variables to (Some item)) (omega arith)
    inside_leads layout t used InRange (Some (Set list index from otherwise)) is holds =
        row_leads P place (row_of variables list) _ (λ row. row_leads P place (row_of variables from) _
        (λ item found. holds.on (at + 1) (slice_set variables from None) (omega arith)))
    inside_leads layout t used OutOfRange (Some (Set list index from otherwise)) is holds =
        row_leads P place (row_of variables from) _
        (λ item found. holds.on otherwise (slice_set variables from None)
        (forward at (Set list index from otherwise) otherwise is refl).0)
    inside_leads layout t used InRange (Some (Put list index from otherwise)) is holds =
        row_leads P place (row_of variables from) _ (λ item found. holds.into Retained (λ e. cc))
    inside_leads layout t used Retained (Some (Put list index from otherwise)) is holds =
        row_leads P place (row_of variables list) _ (λ row. row_leads P place (row_of variables from) _
        (λ item found. holds.on (at + 1) variables (omega arith)))
    inside_leads layout t used Granted (Some (Open to path mode otherwise)) is holds =
        λ found. holds.on (at + 1) (slice_set variables to (Some (row_at layout t used))) (omega arith)
    inside_leads layout t used Granted (Some (Connect to peer otherwise)) is holds =
        λ found. holds.on (at + 1) (slice_set variables to (Some (row_at layout t used))) (omega arith)
    inside_leads layout t used Lent (Some (Read to file most otherwise)) is holds =
        λ exit. holds.into (Called exit) (λ e. cc)
    inside_leads layout t used (Called Success) (Some (Read to file most otherwise)) is holds =
        row_leads P place (row_of variables file) _ (λ row found. holds.into Granted (λ e. cc))
    inside_leads layout t used (Called Fault) (Some (Read to file most otherwise)) is holds =
        row_leads P place (row_of variables file) _ (λ row found. holds.on otherwise (slice_set variables to None)
        (forward at (Read to file most otherwise) otherwise is refl).0)
    inside_leads layout t used Granted (Some (Read to file most otherwise)) is holds =
        λ found. holds.on (at + 1) (slice_set variables to (Some (row_at layout t used))) (omega arith)
    inside_leads layout t used Loaded (Some (Write file number otherwise)) is holds =
        row_leads P place (row_of variables file) _ (λ row found. holds.into Lent (λ e. cc))
    inside_leads layout t used Lent (Some (Write file number otherwise)) is holds =
        λ exit. holds.into (Called exit) (λ e. cc)
    inside_leads layout t used (Called Success) (Some (Write file number otherwise)) is holds =
        row_leads P place (row_of variables file) _ (λ row found. holds.on (at + 1) variables (omega arith))
    inside_leads layout t used (Called Fault) (Some (Write file number otherwise)) is holds =
        row_leads P place (row_of variables file) _ (λ row found. holds.on otherwise variables
        (forward at (Write file number otherwise) otherwise is refl).0)
    inside_leads layout t used stage i is holds = tt

-- The rows to which the calls of a stopped thread have still to give up references.
abbrev pub count_named : List (List (Option ℕ)) → ℕ
count_named [] = 0
count_named (rows ∷ outer) = count_by is_some rows + count_named outer

-- The property holds of each place to which the thread's dispatch can lead. Past the last instruction it leads nowhere.
abbrev pub HoldsBeyond : (Place → Type 0) → List Instr → Place → Type 0
HoldsBeyond P code Exiting = Unit {0}
HoldsBeyond P code (Idle zero) = P Exiting
HoldsBeyond P code (Idle (suc left)) = 0 < length code → HoldsAfter P code (first_context left) 0 entry_variables
HoldsBeyond P code (InCall context at variables) = at < length code → HoldsAfter P code context at variables
HoldsBeyond P code (Inside context at variables stage) = HoldsWithin P context at variables stage
HoldsBeyond P code (Stopping (Some row) calls) = P (stopping None calls)
HoldsBeyond P code (Stopping None calls) =
    (fewer : List (List (Option ℕ))) → count_named fewer < count_named calls → P (stopping None fewer)

count_some : (o : Option ℕ) (rows : List (Option ℕ))
    → count_by is_some (o ∷ rows) ≡ one_if (is_some o) + count_by is_some rows
count_some o rows = sum_by-cons (λ (x : Option ℕ). cond (is_some x) 1 0) o rows

-- One variable less names a row.
one_named_less : (rows : List (Option ℕ)) (v row : ℕ) → row_of rows v ≡ Some row
    → count_by is_some (slice_set rows v None) < count_by is_some rows
one_named_less [] v row is = absurd (none_some row is)
one_named_less (o ∷ rows) zero row is =
    let one : one_if (is_some o) ≡ 1 = ap (λ (x : Option ℕ). one_if (is_some x)) is in
    let left = count_some None rows in
    omega (arith, count_some o rows, left, one)
one_named_less (o ∷ rows) (suc v) row is =
    let left = count_some o (slice_set rows v None) in
    omega (arith, count_some o rows, left, one_named_less rows v row is)

-- Each release of a stopped thread leaves fewer references to give up.
give_up_leads : (P : Place → Type 0) (place : Place) (most : ℕ)
    → ((fewer : List (List (Option ℕ))) → count_named fewer < most → P (stopping None fewer))
    → (calls : List (List (Option ℕ))) → count_named calls ≤ most → LeadsTo P place (give_up calls)
give_up_leads P place most holds [] few = tt
give_up_leads P place most holds (rows ∷ outer) few =
    let v = first_named rows in
    let after = slice_set rows v None ∷ outer in
    let work : ℕ → Action = λ row. Does (ReleaseLoad row (ByVariable (length outer) v))
    (cond (holds_some after) [] (Settle ∷ [])) (always (stopping None after)) in
    let first : LeadsTo P place (give_up_first rows outer) =
    elim (row_of rows v) as (λ o. row_of rows v ≡ o → LeadsTo P place (with_row o work)) [
      | None ↦ λ is. tt
      | Some row ↦ λ is found. holds after (let less = one_named_less rows v row is in omega (arith, few, less))
    ] refl in
    either (LeadsTo P place) (list_any is_some rows) (give_up_first rows outer) (give_up outer) (λ names. first)
    (give_up_leads P place most holds outer (omega (arith, few)))

found_leads : (P : Place → Type 0) (place : Place) (code : List Instr) (context : Context) (at : ℕ)
    (variables : List (Option ℕ)) (layout : Layout) (t used : ℕ) (o : Option Instr) → LeadsForward code
    → (at < length code → HoldsAfter P code context at variables) → slice_get code at ≡ o
    → LeadsTo P place (dispatch_instruction layout t used place context at variables o)
found_leads P place code context at variables layout t used None forward holds is = tt
found_leads P place code context at variables layout t used (Some i) forward holds is =
    instruction_leads P place code forward context at variables layout t used (holds (slice_get_within code at i is))
    (Some i) is

pub dispatch_leads : (P : Place → Type 0) (layout : Layout) (t used : ℕ) (code : List Instr) (place : Place)
    → LeadsForward code → HoldsBeyond P code place → LeadsTo P place (dispatch layout t used code place)
dispatch_leads P layout t used code Exiting forward holds = tt
dispatch_leads P layout t used code (Idle zero) forward holds = λ found. holds
dispatch_leads P layout t used code (Idle (suc left)) forward holds =
    found_leads P (Idle (suc left)) code (first_context left) 0 entry_variables layout t used (slice_get code 0)
    forward holds refl
dispatch_leads P layout t used code (InCall context at variables) forward holds =
    found_leads P (InCall context at variables) code context at variables layout t used (slice_get code at)
    forward holds refl
dispatch_leads P layout t used code (Inside context at variables stage) forward holds =
    inside_leads P (Inside context at variables stage) code forward context at variables layout t used stage
    (slice_get code at)
    refl holds
dispatch_leads P layout t used code (Stopping (Some row) calls) forward holds = λ found. holds
dispatch_leads P layout t used code (Stopping None calls) forward holds =
    give_up_leads P (Stopping None calls) (count_named calls) holds calls (omega arith)
