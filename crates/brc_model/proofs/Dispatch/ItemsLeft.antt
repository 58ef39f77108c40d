-- What each instruction leaves in the variables: wherever one borrows, an item of the list that the thread has locked.
use Rattle.std.proofs.Common.{◌≡◌, ℕ, ◌+◌, ◌<◌, true, false, cond, List, [], ◌∷◌, ◌++◌, Option, None, Some, refl, sym, ap, ◌∙◌, subst, arith}
use Rattle.std.specs.Prelude.{◌==◌, nat_lt, slice_set}
use Rattle.std.proofs.lemmas.Bool.{not-false}
use Rattle.std.proofs.lemmas.List.{length-set}
use Rattle.brc_lang.specs.declared.kind.Kind.TheVariants as kinds
use Rattle.brc_lang.specs.declared.module.Instr.{Instr}
use Rattle.brc_lang.specs.declared.module.Instr.TheVariants.{Num, List as ListObject, NoneObject, Take, Newref, Move as MoveReference, Drop, As, Lock, Unlock, Borrow, Fetch, Set, Put, Goto, Again, Ret, Fail, Call, Open, Connect, Read, Write}
use Rattle.brc_word.specs.Words.{free_word}
use Rattle.brc_model.specs.declared.actor.Place.{Place}
use Rattle.brc_model.specs.declared.actor.Context.{Context}
use Rattle.brc_model.specs.declared.actor.Place.TheVariants.{InCall, Inside}
use Rattle.brc_model.specs.declared.actor.Stage.{Stage}
use Rattle.brc_model.specs.declared.actor.Stage.TheVariants.{InRange, OutOfRange, Found, Retained, Loaded, Lent, Called, Granted}
use Rattle.brc_model.specs.declared.address.Address.{Address}
use Rattle.brc_model.specs.declared.address.Address.TheVariants.{KindOf, Cell}
use Rattle.brc_model.specs.declared.duty.Duty.TheVariants.{KindLoad, CellLoad}
use Rattle.brc_model.specs.declared.state.Slot.{Slot}
use Rattle.brc_model.specs.declared.state.Slot.TheVariants.{Empty, Owned, Locked}
use Rattle.brc_model.specs.declared.state.State.{State}
use Rattle.brc_model.specs.declared.state.Exit.{Exit}
use Rattle.brc_model.specs.declared.state.Exit.TheVariants.{Success, Fault as FaultExit}
use Rattle.brc_model.specs.Kinds.{kind_of_word, same_kind}
use Rattle.brc_model.specs.SlotStates.{var_of, kind_of, names, put, after, target}
use Rattle.brc_model.specs.Threads.{row_of}
use Rattle.brc_model.specs.Layout.{none_row, row_at, first_immortal_list}
use Rattle.brc_model.specs.declared.layout.Layout.{Layout}
use Rattle.brc_model.specs.Duties.{cells_of}
use Rattle.brc_model.specs.Machine.{has_room}
use Rattle.brc_model.specs.Actions.{Action, Does, with_row, by_range, by_item, number_word, list_word, birth_action, dispatch_instruction, dispatch_inside, turns_at, with_turn, grant_action, granted_birth, return_action, lend_action, file_word, sock_word}
use Rattle.brc_model.specs.Items.{IsItem, borrows_item, HaveItems, HasCell, StageKnows}
use Rattle.brc_model.proofs.Basics.Lists.{some_is, either, first_false}
use Rattle.brc_model.proofs.Dispatch.Guards.{LocksAgree, guards_none, guards_row}
use Rattle.brc_model.proofs.Dispatch.Decided.{range_decides, item_decides, exit_decides}
use Rattle.brc_model.proofs.Dispatch.Items.{ItemsStay, all_stay, items_stay, cell_stays, knows_stay, items_put, needs_none, items_with_kind, BorrowsNone, none_borrowed, without_items_free, unlocked_items, ItemsAt}
use Rattle.brc_model.proofs.Dispatch.ItemsUsed.{LeavesItems, UsesAt}
use Rattle.brc_model.proofs.Dispatch.Programs.{Program}
use Rattle.brc_model.proofs.Dispatch.ItemsCalls.{call_uses, ret_uses, fail_uses}

module _ (program : Program) (memory : Address → ℕ) (locked : Option ℕ) (context : Context) (at : ℕ)
    (variables : List (Option ℕ))
    (s : State) where
  abbrev Here : Instr → Type 0
  Here i = UsesAt program context.outer memory locked at variables s i

  row_uses : (row : Option ℕ) (work : ℕ → Action)
      → ((x : ℕ) → row ≡ Some x → LeavesItems program memory locked (work x))
      → LeavesItems program memory locked (with_row row work)
  row_uses None work uses = tt
  row_uses (Some x) work uses = uses x refl

  -- ---- the next point

  -- Where the paths to the next point agree, what holds of the state after the exit holds of theirs.
  goes_on : (new : Address → ℕ) (lock : Option ℕ) (next : ℕ) (rows : List (Option ℕ)) (i : Instr) (exit : Exit)
      → (here : Here i) → target i exit at ≡ Some next → HaveItems new lock (after i exit s) rows
      → ItemsAt program new lock (InCall context next rows)
  goes_on new lock next rows i exit here to items = λ exits other arrived.
      subst (λ (state : State). HaveItems new lock state rows)
      (here.accepted.states_agree (here.inside.exits ++ exit ∷ []) exits next (after i exit s) other
      (here.leads exit next to) arrived) items

  -- The exit changes one variable.
  goes_on_put : (new : Address → ℕ) (next : ℕ) (i : Instr) (exit : Exit) (x : ℕ) (var : Slot) (row : Option ℕ)
      → ItemsStay memory new locked → (here : Here i) → target i exit at ≡ Some next → after i exit s ≡ put s x var
      → x < 16 → ((y : ℕ) → borrows_item var ≡ true → row ≡ Some y → IsItem new locked y)
      → ItemsAt program new locked (InCall context next (slice_set variables x row))
  goes_on_put new next i exit x var row stays here to is low item =
      goes_on new locked next (slice_set variables x row) i exit here to
      (subst (λ (state : State). HaveItems new locked state (slice_set variables x row)) (sym is)
      (items_put new locked s variables x var row (omega (arith, low, here.inside.slots))
      (omega (arith, low, here.inside.rows)) item (items_stay memory new locked stays s variables here.items)))

  -- The exit leaves in the variable what borrows nothing.
  goes_on_free : (new : Address → ℕ) (next : ℕ) (i : Instr) (exit : Exit) (x : ℕ) (var : Slot) (row : Option ℕ)
      → ItemsStay memory new locked → (here : Here i) → target i exit at ≡ Some next → after i exit s ≡ put s x var
      → x < 16 → borrows_item var ≡ false → ItemsAt program new locked
      (InCall context next (slice_set variables x row))
  goes_on_free new next i exit x var row stays here to is low free =
      goes_on_put new next i exit x var row stays here to is low (needs_none new locked var row free)

  -- The exit changes no variable.
  goes_on_same : (new : Address → ℕ) (next : ℕ) (i : Instr) (exit : Exit) → ItemsStay memory new locked
      → (here : Here i) → target i exit at ≡ Some next → after i exit s ≡ s
      → ItemsAt program new locked (InCall context next variables)
  goes_on_same new next i exit stays here to is =
      goes_on new locked next variables i exit here to
      (subst (λ (state : State). HaveItems new locked state variables) (sym is)
      (items_stay memory new locked stays s variables here.items))

  -- After the exit nothing is borrowed any more.
  goes_on_without : (new : Address → ℕ) (lock : Option ℕ) (next : ℕ) (rows : List (Option ℕ)) (i : Instr) (exit : Exit)
      → (here : Here i) → target i exit at ≡ Some next → BorrowsNone (after i exit s)
      → ItemsAt program new lock (InCall context next rows)
  goes_on_without new lock next rows i exit here to none =
      goes_on new lock next rows i exit here to (none_borrowed new lock (after i exit s) rows none)

  -- ---- inside the instruction

  goes_inside : (new : Address → ℕ) (stage : Stage) (i : Instr) → ItemsStay memory new locked → (here : Here i)
      → StageKnows new locked variables stage (Some i) → ItemsAt program new locked (Inside context at variables stage)
  goes_inside new stage i stays here knows = record {
    items = λ exits other arrived.
        subst (λ (state : State). HaveItems new locked state variables)
        (here.accepted.states_agree here.inside.exits exits at s other here.inside.arrived arrived)
        (items_stay memory new locked stays s variables here.items);
    cell = subst (StageKnows new locked variables stage) (sym here.found) knows;
  }

  -- The list has the cell, if the kind word that was found says so.
  has_cell : (new : Address → ℕ) (list index row found : ℕ) → ItemsStay memory new locked
      → row_of variables list ≡ Some row → found ≡ memory (KindOf row) → index < cells_of found
      → HasCell new variables list index
  has_cell new list index row found stays is seen within =
      cell_stays memory new locked stays variables list index
      (λ x this. subst (λ (w : ℕ). index < cells_of w)
      (seen ∙ ap (λ (y : ℕ). memory (KindOf y)) (some_is row x (sym is ∙ this)))
      within)

  -- The list that the instruction uses is the one that the thread has locked.
  locked_list : (list row : ℕ) → names s.locked list ≡ true → row_of variables list ≡ Some row
      → LocksAgree s variables locked → locked ≡ Some row
  locked_list list row named is guards = guards_row s variables list row s.locked locked named is guards

  -- ---- each instruction

  birth_uses : (layout : Layout) (t used : ℕ) (i : Instr) (to word otherwise : ℕ) (var : Slot) → (here : Here i)
      → to < 16 → borrows_item var ≡ false
      → target i Success at ≡ Some (at + 1) → after i Success s ≡ put s to var
      → target i FaultExit at ≡ Some otherwise → after i FaultExit s ≡ put s to Empty
      → LeavesItems program memory locked (birth_action layout t used context at variables to word otherwise)
  birth_uses layout t used i to word otherwise var here low free next owned else_at empty =
      either (LeavesItems program memory locked) (has_room layout t used) _ _
      (λ room new found done.
      goes_on_free new (at + 1) i Success to var (Some (row_at layout t used)) (done.keeps refl) here next owned low
      free)
      (goes_on_free memory otherwise i FaultExit to Empty None (all_stay memory locked) here else_at empty low refl)

  -- A thread that asks the host for a resource awaits its birth, or leaves the variable empty.
  grant_uses : (layout : Layout) (t used : ℕ) (i : Instr) (to otherwise : ℕ) → (here : Here i) → to < 16
      → StageKnows memory locked variables Granted (Some i)
      → target i FaultExit at ≡ Some otherwise → after i FaultExit s ≡ put s to Empty
      → LeavesItems program memory locked (grant_action layout t used context at variables to otherwise)
  grant_uses layout t used i to otherwise here low knows else_at empty =
      let refused : ItemsAt program memory locked (InCall context otherwise (slice_set variables to None)) =
      goes_on_free memory otherwise i FaultExit to Empty None (all_stay memory locked) here else_at empty low refl in
      either (LeavesItems program memory locked) (has_room layout t used) _ _
      (λ room. exit_decides (ItemsAt program memory locked) (Inside context at variables Granted)
      (InCall context otherwise (slice_set variables to None))
      (goes_inside memory Granted i (all_stay memory locked) here knows) refused) refused

  -- The birth that it awaits leaves in the variable what borrows nothing.
  granted_uses : (layout : Layout) (t used : ℕ) (i : Instr) (to word : ℕ) (var : Slot) → (here : Here i) → to < 16
      → borrows_item var ≡ false → target i Success at ≡ Some (at + 1) → after i Success s ≡ put s to var
      → LeavesItems program memory locked (granted_birth layout t used context at variables to word)
  granted_uses layout t used i to word var here low free next owned = λ new found done.
      goes_on_free new (at + 1) i Success to var (Some (row_at layout t used)) (done.keeps refl) here next owned low
      free

  -- A thread lends a resource inside an instruction.
  lend_uses : (i : Instr) (file : ℕ) → Here i → ((new : Address → ℕ) → StageKnows new locked variables Lent (Some i))
      → LeavesItems program memory locked (lend_action context at variables file)
  lend_uses i file here knows =
      row_uses (row_of variables file) _ (λ row is new found done.
      goes_inside new Lent i (done.keeps refl) here (knows new))

  -- It puts the resource back, and knows what it knows at the place where it then is.
  return_uses : (file : ℕ) (place : Place)
      → ((new : Address → ℕ) → ItemsStay memory new locked → ItemsAt program new locked place)
      → LeavesItems program memory locked (return_action variables file place)
  return_uses file place knows =
      row_uses (row_of variables file) _ (λ row is new found done. knows new (done.keeps refl))

  -- A look at the list's kind word leads into the instruction, if the list has the cell.
  range_uses : (i : Instr) (list index : ℕ) (stage : Stage) (outside : Place) → Here i
      → ((new : Address → ℕ) → HasCell new variables list index → StageKnows new locked variables stage (Some i))
      → ((new : Address → ℕ) → ItemsStay memory new locked → ItemsAt program new locked outside)
      → LeavesItems program memory locked
      (with_row (row_of variables list)
      (λ row. Does (KindLoad row) [] (by_range index (Inside context at variables stage) outside)))
  range_uses i list index stage outside here cell past =
      row_uses (row_of variables list) _ (λ row is new found done.
      let stays = done.keeps refl in
      range_decides (ItemsAt program new locked) (Inside context at variables stage) outside index found
      (λ within.
      goes_inside new stage i stays here (cell new (has_cell new list index row found stays is done.finds within)))
      (past new stays))

  -- A thread that doesn't get its lock stays at `before`. A thread that locks has locked nothing before, so it has
  -- borrowed nothing.
  lock_uses : (before : Place) (object : ℕ) → ItemsAt program memory locked before → Here (Lock object)
      → (layout : Layout) (t used : ℕ)
      → LeavesItems program memory locked
      (dispatch_instruction layout t used before context at variables (Some (Lock object)))
  lock_uses before object knew here layout t used =
      row_uses (row_of variables object) _ (λ row is new found done.
      let none = guards_none s variables s.locked locked (first_false _ _ here.met.first_lock) here.guards in
      elim (found == free_word) as
      (λ b. ItemsAt program new (cond b (Some row) locked) (cond b (InCall context (at + 1) variables) before)) [
        | true ↦
            goes_on new (Some row) (at + 1) variables (Lock object) Success here refl
            (unlocked_items memory new locked (Some row) s variables none here.items)
        | false ↦ knows_stay memory new locked (done.keeps refl) program before knew
      ])

  pub instruction_uses : (layout : Layout) (t used : ℕ) (before : Place) (i : Instr)
      → ItemsAt program memory locked before → Here i
      → LeavesItems program memory locked (dispatch_instruction layout t used before context at variables (Some i))
  instruction_uses layout t used before (Num to value otherwise) knew here =
      birth_uses layout t used (Num to value otherwise) to (number_word value) otherwise (Owned kinds.Num) here
      here.operands.0 refl refl refl refl refl
  instruction_uses layout t used before (ListObject to cells otherwise) knew here =
      birth_uses layout t used (ListObject to cells otherwise) to (list_word cells) otherwise (Owned kinds.List) here
      here.operands.0 refl refl refl refl refl
  instruction_uses layout t used before (NoneObject to) knew here =
      goes_on_free memory (at + 1) (NoneObject to) Success to (Owned kinds.None) (Some none_row)
      (all_stay memory locked) here refl refl here.operands refl
  instruction_uses layout t used before (Take to list) knew here =
      goes_on_free memory (at + 1) (Take to list) Success to (Owned kinds.List)
      (Some (first_immortal_list layout + list)) (all_stay memory locked) here refl refl here.operands.0 refl
  instruction_uses layout t used before (Newref to from) knew here =
      row_uses (row_of variables from) _ (λ row is new found done.
      goes_on_free new (at + 1) (Newref to from) Success to (Owned (kind_of (var_of s from))) (Some row)
      (done.keeps refl) here refl refl here.operands.0 refl)
  instruction_uses layout t used before (MoveReference to from) knew here =
      row_uses (row_of variables from) _ (λ row is.
      let var = Owned (kind_of (var_of s from)) in
      let emptied : HaveItems memory locked (put s from Empty) (slice_set variables from None) =
      items_put memory locked s variables from Empty None (omega (arith, here.operands.1, here.inside.slots))
      (omega (arith, here.operands.1, here.inside.rows)) (needs_none memory locked Empty None refl) here.items in
      goes_on memory locked (at + 1) (slice_set (slice_set variables from None) to (Some row)) (MoveReference to from)
      Success here refl
      (items_put memory locked (put s from Empty) (slice_set variables from None) to var (Some row)
      (omega (arith, here.operands.0, here.inside.slots, length-set s.slots from Empty))
      (omega (arith, here.operands.0, here.inside.rows, length-set variables from None))
      (needs_none memory locked var (Some row) refl) emptied))
  instruction_uses layout t used before (Drop from) knew here =
      row_uses (row_of variables from) _ (λ row is new found done.
      goes_on_free new (at + 1) (Drop from) Success from Empty None (done.keeps refl) here refl refl here.operands refl)
  instruction_uses layout t used before (Lock object) knew here = lock_uses before object knew here layout t used
  instruction_uses layout t used before (Unlock object) knew here =
      row_uses (row_of variables object) _ (λ row is new found done.
      goes_on_without new None (at + 1) variables (Unlock object) Success here refl (without_items_free s))
  instruction_uses layout t used before (Borrow to list index otherwise) knew here =
      range_uses (Borrow to list index otherwise) list index InRange
      (InCall context otherwise (slice_set variables to None)) here (λ new has. has)
      (λ new stays.
      goes_on_free new otherwise (Borrow to list index otherwise) FaultExit to Empty None stays here refl refl
      here.operands.0 refl)
  instruction_uses layout t used before (Fetch to list index otherwise) knew here =
      range_uses (Fetch to list index otherwise) list index InRange
      (InCall context otherwise (slice_set variables to None)) here (λ new has. has)
      (λ new stays.
      goes_on_free new otherwise (Fetch to list index otherwise) FaultExit to Empty None stays here refl refl
      here.operands.0 refl)
  instruction_uses layout t used before (Set list index from otherwise) knew here =
      range_uses (Set list index from otherwise) list index InRange (Inside context at variables OutOfRange) here
      (λ new has. has)
      (λ new stays. goes_inside new OutOfRange (Set list index from otherwise) stays here tt)
  instruction_uses layout t used before (Put list index from otherwise) knew here =
      range_uses (Put list index from otherwise) list index InRange (InCall context otherwise variables) here
      (λ new has. has)
      (λ new stays.
      goes_on_without new locked otherwise variables (Put list index from otherwise) FaultExit here refl
      (without_items_free s))
  instruction_uses layout t used before (Open to path mode otherwise) knew here =
      grant_uses layout t used (Open to path mode otherwise) to otherwise here here.operands.0 tt refl refl
  instruction_uses layout t used before (Connect to peer otherwise) knew here =
      grant_uses layout t used (Connect to peer otherwise) to otherwise here here.operands.0 tt refl refl
  instruction_uses layout t used before (Read to file most otherwise) knew here =
      either (LeavesItems program memory locked) (has_room layout t used) _ _
      (λ room. lend_uses (Read to file most otherwise) file here (λ new. tt))
      (goes_on_free memory otherwise (Read to file most otherwise) FaultExit to Empty None (all_stay memory locked) here
      refl refl here.operands.0 refl)
  instruction_uses layout t used before (Write file number otherwise) knew here =
      row_uses (row_of variables number) _ (λ row is new found done.
      goes_inside new Loaded (Write file number otherwise) (done.keeps refl) here tt)
  instruction_uses layout t used before (As from kind otherwise) knew here =
      row_uses (row_of variables from) _ (λ row is new found done.
      let stays = done.keeps refl in
      either (λ (next : ℕ). ItemsAt program new locked (InCall context next variables))
      (same_kind (kind_of_word found) kind) _ _
      (λ same.
      goes_on new locked (at + 1) variables (As from kind otherwise) Success here refl
      (items_with_kind new locked s variables from kind (omega (arith, here.operands.0, here.inside.slots))
      (items_stay memory new locked stays s variables here.items)))
      (goes_on_same new otherwise (As from kind otherwise) FaultExit stays here refl refl))
  instruction_uses layout t used before (Goto to) knew here =
      goes_on_same memory to (Goto to) Success (all_stay memory locked) here refl refl
  instruction_uses layout t used before (Again to times) knew here =
      either (ItemsAt program memory locked) (nat_lt (turns_at context at) times)
      (InCall (with_turn context at) to variables) (InCall context (at + 1) variables)
      (λ more. goes_on_same memory to (Again to times) FaultExit (all_stay memory locked) here refl refl)
      (goes_on_same memory (at + 1) (Again to times) Success (all_stay memory locked) here refl refl)
  instruction_uses layout t used before (Call to callee arguments otherwise) knew here =
      call_uses program memory locked t context at variables s to callee arguments otherwise here
  instruction_uses layout t used before (Ret from) knew here =
      row_uses (row_of variables from) _ (λ row is.
      ret_uses program memory locked t context.left from row context.outer here.sound here.inside.is_call.open_calls)
  instruction_uses layout t used before Fail knew here =
      fail_uses program memory locked context.left context.outer here.sound here.inside.is_call.open_calls

  -- ---- each step inside an instruction

  -- A look at a cell: an empty one ends the instruction, and in another the thread finds an item.
  cell_uses : (i : Instr) (list index : ℕ) (empty : Place) (holds : ℕ → Place) → Here i → names s.locked list ≡ true
      → ((new : Address → ℕ) → ItemsStay memory new locked → ItemsAt program new locked empty)
      → ((new : Address → ℕ) (item : ℕ) → ItemsStay memory new locked → IsItem new locked item
      → ItemsAt program new locked (holds item))
      → LeavesItems program memory locked
      (with_row (row_of variables list) (λ row. Does (CellLoad row index) [] (by_item empty holds)))
  cell_uses i list index empty holds here named none some =
      row_uses (row_of variables list) _ (λ row is new found done.
      let stays = done.keeps refl in
      let locks = locked_list list row named is here.guards in
      item_decides (λ word place. word ≡ memory (Cell row index) → ItemsAt program new locked place) empty holds
      (λ seen. none new stays)
      (λ item seen.
      some new item stays (record {
        list = row;
        cell = index;
        is_locked = locks;
        holds = stays.cells row index locks ∙ sym seen ∙ omega arith;
      })) found done.finds)

  pub inside_uses : (layout : Layout) (t used : ℕ) (stage : Stage) (i : Instr)
      → StageKnows memory locked variables stage (Some i) → Here i
      → LeavesItems program memory locked (dispatch_inside layout t used context at variables stage (Some i))
  inside_uses layout t used InRange (Borrow to list index otherwise) knows here =
      cell_uses (Borrow to list index otherwise) list index (InCall context otherwise (slice_set variables to None))
      (λ item. InCall context (at + 1) (slice_set variables to (Some item))) here
      (not-false (names s.locked list) (first_false _ _ here.met.has_lock))
      (λ new stays.
      goes_on_free new otherwise (Borrow to list index otherwise) FaultExit to Empty None stays here refl refl
      here.operands.0 refl)
      (λ new item stays there.
      goes_on_put new (at + 1) (Borrow to list index otherwise) Success to (Locked kinds.Any) (Some item) stays here
      refl refl here.operands.0 (λ x borrows is. subst (IsItem new locked) (some_is item x is) there))
  inside_uses layout t used InRange (Fetch to list index otherwise) knows here =
      cell_uses (Fetch to list index otherwise) list index (InCall context otherwise (slice_set variables to None))
      (λ item. Inside context at variables (Found item)) here
      (not-false (names s.locked list) (first_false _ _ here.met.has_lock))
      (λ new stays.
      goes_on_free new otherwise (Fetch to list index otherwise) FaultExit to Empty None stays here refl refl
      here.operands.0 refl)
      (λ new item stays there. goes_inside new (Found item) (Fetch to list index otherwise) stays here there)
  inside_uses layout t used (Found item) (Fetch to list index otherwise) knows here = λ new found done.
      goes_on_free new (at + 1) (Fetch to list index otherwise) Success to (Owned kinds.Any) (Some item)
      (done.keeps refl) here refl refl here.operands.0 refl
  inside_uses layout t used InRange (Set list index from otherwise) knows here =
      row_uses (row_of variables list) _ (λ row is.
      row_uses (row_of variables from) _ (λ item this new found done.
      goes_on_without new locked (at + 1) (slice_set variables from None) (Set list index from otherwise) Success here
      refl (without_items_free (put s from Empty))))
  inside_uses layout t used OutOfRange (Set list index from otherwise) knows here =
      row_uses (row_of variables from) _ (λ item this new found done.
      goes_on_without new locked otherwise (slice_set variables from None) (Set list index from otherwise) FaultExit
      here refl (without_items_free (put s from Empty)))
  inside_uses layout t used InRange (Put list index from otherwise) knows here =
      row_uses (row_of variables from) _ (λ item this new found done.
      let stays = done.keeps refl in
      goes_inside new Retained (Put list index from otherwise) stays here
      (cell_stays memory new locked stays variables list index knows))
  inside_uses layout t used Retained (Put list index from otherwise) knows here =
      row_uses (row_of variables list) _ (λ row is.
      row_uses (row_of variables from) _ (λ item this new found done.
      goes_on_without new locked (at + 1) variables (Put list index from otherwise) Success here refl
      (without_items_free s)))
  inside_uses layout t used Granted (Open to path mode otherwise) knows here =
      granted_uses layout t used (Open to path mode otherwise) to file_word (Owned kinds.File) here here.operands.0 refl
      refl refl
  inside_uses layout t used Granted (Connect to peer otherwise) knows here =
      granted_uses layout t used (Connect to peer otherwise) to sock_word (Owned kinds.Sock) here here.operands.0 refl
      refl refl
  inside_uses layout t used Lent (Read to file most otherwise) knows here = λ exit.
      goes_inside memory (Called exit) (Read to file most otherwise) (all_stay memory locked) here tt
  inside_uses layout t used (Called Success) (Read to file most otherwise) knows here =
      return_uses file (Inside context at variables Granted)
      (λ new stays. goes_inside new Granted (Read to file most otherwise) stays here tt)
  inside_uses layout t used (Called FaultExit) (Read to file most otherwise) knows here =
      return_uses file (InCall context otherwise (slice_set variables to None))
      (λ new stays. goes_on_free new otherwise (Read to file most otherwise) FaultExit to Empty None stays here refl
      refl
      here.operands.0 refl)
  inside_uses layout t used Granted (Read to file most otherwise) knows here =
      granted_uses layout t used (Read to file most otherwise) to (number_word 0) (Owned kinds.Num) here
      here.operands.0 refl refl refl
  inside_uses layout t used Loaded (Write file number otherwise) knows here =
      lend_uses (Write file number otherwise) file here (λ new. tt)
  inside_uses layout t used Lent (Write file number otherwise) knows here = λ exit.
      goes_inside memory (Called exit) (Write file number otherwise) (all_stay memory locked) here tt
  inside_uses layout t used (Called Success) (Write file number otherwise) knows here =
      return_uses file (InCall context (at + 1) variables)
      (λ new stays. goes_on_same new (at + 1) (Write file number otherwise) Success stays here refl refl)
  inside_uses layout t used (Called FaultExit) (Write file number otherwise) knows here =
      return_uses file (InCall context otherwise variables)
      (λ new stays. goes_on_same new otherwise (Write file number otherwise) FaultExit stays here refl refl)
  inside_uses layout t used stage i knows here = tt
