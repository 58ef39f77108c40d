-- What each instruction leaves in the variables: objects of the kinds that the checker says.
use Rattle.std.proofs.Common.{◌≡◌, ℕ, ◌+◌, ◌<◌, ◌≤◌, List, [], inl, inr, Option, None, Some, refl, sym, ap, ◌∙◌, subst, arith}
use Rattle.std.specs.Prelude.{◌==◌, nat_lt, slice_set}
use Rattle.std.proofs.lemmas.List.{length-set}
use Rattle.brc_lang.specs.declared.kind.Kind.{Kind}
use Rattle.brc_lang.specs.declared.kind.Kind.TheVariants as kinds
use Rattle.brc_lang.specs.declared.module.Instr.{Instr}
use Rattle.brc_lang.specs.declared.module.Instr.TheVariants.{Num, List as ListObject, NoneObject, Take, Newref, Move as MoveReference, Drop, As, Lock, Unlock, Borrow, Fetch, Set, Put, Goto, Again, Ret, Fail, Call, Open, Connect, Read, Write}
use Rattle.brc_word.specs.Words.{free_word, half, kind_part}
use Rattle.brc_model.specs.declared.actor.Place.{Place}
use Rattle.brc_model.specs.declared.actor.Context.{Context}
use Rattle.brc_model.specs.declared.actor.Place.TheVariants.{InCall, Inside}
use Rattle.brc_model.specs.declared.actor.Stage.{Stage}
use Rattle.brc_model.specs.declared.actor.Stage.TheVariants.{InRange, OutOfRange, Found, Retained, Loaded, Lent, Called, Granted}
use Rattle.brc_model.specs.declared.duty.Duty.TheVariants.{KindLoad, CellLoad}
use Rattle.brc_model.specs.declared.state.Slot.{Slot}
use Rattle.brc_model.specs.declared.state.Slot.TheVariants.{Empty, Owned, Locked}
use Rattle.brc_model.specs.declared.state.State.{State}
use Rattle.brc_model.specs.declared.state.Exit.{Exit}
use Rattle.brc_model.specs.declared.state.Exit.TheVariants.{Success, Fault as FaultExit}
use Rattle.brc_model.specs.Kinds.{kind_numbered, kind_of_word, same_kind}
use Rattle.brc_model.specs.SlotStates.{var_of, kind_of, put, after, target}
use Rattle.brc_model.specs.Threads.{row_of}
use Rattle.brc_model.specs.Layout.{none_row, row_at, first_immortal_list}
use Rattle.brc_model.specs.declared.layout.Layout.{Layout}
use Rattle.brc_model.specs.Machine.{has_room}
use Rattle.brc_model.specs.Actions.{Does, with_row, by_range, by_item, number_word, list_word, birth_action, dispatch_instruction, dispatch_inside, turns_at, with_turn, file_word, sock_word, grant_action, granted_birth, return_action}
use Rattle.brc_model.specs.KnownKinds.{IsTrueKind, HasTrueKind, HaveTrueKinds}
use Rattle.brc_model.proofs.Basics.Lists.{some_is, either}
use Rattle.brc_model.proofs.Dispatch.Decided.{range_decides, item_decides, exit_decides}
use Rattle.brc_model.proofs.Dispatch.Kinds.{true_put, empty_true, same_kind_is, true_with_kind, true_without_items, KnowsAll, KnowsLists}
use Rattle.brc_model.proofs.Dispatch.Programs.{Program}
use Rattle.brc_model.proofs.Dispatch.KindsKnown.{LeavesKinds, KnowsAt, goes_on, goes_on_put, knows_here, row_leaves}
use Rattle.brc_model.proofs.Dispatch.KindsCalls.{call_leaves, ret_leaves, fail_leaves}
use Rattle.brc_model.specs.Limits.{cell_limit}
use Rattle.brc_model.proofs.Dispatch.Allowed.{IsAllowedIn}

-- A look at a list's kind word leads into the instruction, or past it.
range_leaves : (program : Program) (words : ℕ → ℕ) (list : Option ℕ) (index : ℕ) (inside outside : Place)
    → KnowsAll program words inside → KnowsAll program words outside
    → LeavesKinds program words (with_row list (λ row. Does (KindLoad row) [] (by_range index inside outside)))
range_leaves program words list index inside outside enters passes =
    row_leaves program words list _ (λ row is found seen.
    range_decides (KnowsAll program words) inside outside index found (λ has. enters) passes)

-- A look at a cell leads past the instruction, or to the place for the item found.
cell_leaves : (program : Program) (words : ℕ → ℕ) (list : Option ℕ) (index : ℕ) (empty : Place) (holds : ℕ → Place)
    → KnowsAll program words empty → ((item : ℕ) → KnowsAll program words (holds item))
    → LeavesKinds program words (with_row list (λ row. Does (CellLoad row index) [] (by_item empty holds)))
cell_leaves program words list index empty holds none some =
    row_leaves program words list _ (λ row is found seen.
    item_decides (λ word. KnowsAll program words) empty holds none some found)

-- A birth leaves an object of its kind word's kind.
birth_leaves : (program : Program) (words : ℕ → ℕ) (layout : Layout) (t used : ℕ) (context : Context) (at : ℕ)
    (variables : List (Option ℕ))
    (s : State) (i : Instr) (to word otherwise : ℕ) (kind : Kind) → (here : KnowsAt program context.outer words at
    variables s i)
    → to < 16 → kind_of_word word ≡ kind
    → target i Success at ≡ Some (at + 1) → after i Success s ≡ put s to (Owned kind)
    → target i FaultExit at ≡ Some otherwise → after i FaultExit s ≡ put s to Empty
    → LeavesKinds program words (birth_action layout t used context at variables to word otherwise)
birth_leaves program words layout t used context at variables s i to word otherwise kind here low names next owned
    else_at
    empty =
    either (LeavesKinds program words) (has_room layout t used) _ _
    (λ room found stored.
    goes_on_put program words context at (at + 1) variables s i Success to (Owned kind) (Some (row_at layout t used))
    here
    next owned low
    (λ x is. inr (ap (λ (y : ℕ). kind_of_word (words y)) (sym (some_is (row_at layout t used) x is))
    ∙ ap kind_of_word stored ∙ names)))
    (goes_on_put program words context at otherwise variables s i FaultExit to Empty None here else_at empty low
    (empty_true words None))

-- A thread that asks the host for a resource awaits its birth, or leaves the variable empty.
grant_leaves : (program : Program) (words : ℕ → ℕ) (layout : Layout) (t used : ℕ) (context : Context) (at : ℕ)
    (variables : List (Option ℕ)) (s : State) (i : Instr) (to otherwise : ℕ)
    → (here : KnowsAt program context.outer words at variables s i)
    → to < 16 → target i FaultExit at ≡ Some otherwise → after i FaultExit s ≡ put s to Empty
    → LeavesKinds program words (grant_action layout t used context at variables to otherwise)
grant_leaves program words layout t used context at variables s i to otherwise here low else_at empty =
    let refused : KnowsAll program words (InCall context otherwise (slice_set variables to None)) =
    goes_on_put program words context at otherwise variables s i FaultExit to Empty None here else_at empty low
    (empty_true words None) in
    either (LeavesKinds program words) (has_room layout t used) _ _
    (λ room. exit_decides (KnowsAll program words) (Inside context at variables Granted)
    (InCall context otherwise (slice_set variables to None)) (knows_here program context.outer words at variables s i
    here) refused)
    refused

-- The birth that it awaits leaves an object of the kind word's kind.
granted_leaves : (program : Program) (words : ℕ → ℕ) (layout : Layout) (t used : ℕ) (context : Context) (at : ℕ)
    (variables : List (Option ℕ)) (s : State) (i : Instr) (to word : ℕ) (kind : Kind)
    → (here : KnowsAt program context.outer words at variables s i) → to < 16 → kind_of_word word ≡ kind
    → target i Success at ≡ Some (at + 1) → after i Success s ≡ put s to (Owned kind)
    → LeavesKinds program words (granted_birth layout t used context at variables to word)
granted_leaves program words layout t used context at variables s i to word kind here low names next owned =
    λ found stored.
    goes_on_put program words context at (at + 1) variables s i Success to (Owned kind) (Some (row_at layout t used))
    here
    next owned low
    (λ x is. inr (ap (λ (y : ℕ). kind_of_word (words y)) (sym (some_is (row_at layout t used) x is))
    ∙ ap kind_of_word stored ∙ names))

-- A thread that puts a resource back knows of the variables what it knows at the place where it then is.
return_leaves : (program : Program) (words : ℕ → ℕ) (variables : List (Option ℕ)) (file : ℕ) (place : Place)
    → KnowsAll program words place → LeavesKinds program words (return_action variables file place)
return_leaves program words variables file place knows =
    row_leaves program words (row_of variables file) _ (λ row is found seen. knows)

-- the kind of a number's kind word
number_kind : (value : ℕ) → value < half → kind_of_word (number_word value) ≡ kinds.Num
number_kind value low =
    let number : kind_part (number_word value) ≡ 2 = omega (arith, low) in
    ap kind_numbered number

-- the kind of a list's kind word
list_kind : (cells : ℕ) → cells ≤ cell_limit → kind_of_word (list_word cells) ≡ kinds.List
list_kind cells few =
    let number : kind_part (list_word cells) ≡ 3 = omega (arith, few) in
    ap kind_numbered number

-- A thread that doesn't get its lock stays at `before`, where it knew the kinds.
pub instruction_leaves : (program : Program) (words : ℕ → ℕ) (layout : Layout) (t used : ℕ) (before : Place)
    (context : Context) (at : ℕ)
    (variables : List (Option ℕ)) (s : State) (i : Instr) → KnowsAll program words before
    → KnowsLists layout words → IsAllowedIn layout i
    → KnowsAt program context.outer words at variables s i
    → LeavesKinds program words (dispatch_instruction layout t used before context at variables (Some i))
instruction_leaves program words layout t used before context at variables s (Num to value otherwise)
    knew lists allowed here =
    birth_leaves program words layout t used context at variables s (Num to value otherwise) to
    (number_word value) otherwise
    kinds.Num here here.operands.0 (number_kind value here.operands.1) refl refl refl refl
instruction_leaves program words layout t used before context at variables s (ListObject to cells otherwise)
    knew lists allowed here =
    birth_leaves program words layout t used context at variables s (ListObject to cells otherwise) to (list_word cells)
    otherwise kinds.List here here.operands.0 (list_kind cells (omega (arith, here.operands.2))) refl refl refl refl
instruction_leaves program words layout t used before context at variables s (NoneObject to) knew lists allowed here =
    goes_on_put program words context at (at + 1) variables s (NoneObject to) Success to (Owned kinds.None)
    (Some none_row)
    here refl refl here.operands
    (λ x is. inr (ap (λ (y : ℕ). kind_of_word (words y)) (sym (some_is none_row x is)) ∙ here.named.none))
instruction_leaves program words layout t used before context at variables s (Take to list) knew lists allowed here =
    let row = first_immortal_list layout + list in
    goes_on_put program words context at (at + 1) variables s (Take to list) Success to (Owned kinds.List) (Some row)
    here refl refl here.operands.0
    (λ x is. inr (ap (λ (y : ℕ). kind_of_word (words y)) (sym (some_is row x is)) ∙ lists list allowed))
instruction_leaves program words layout t used before context at variables s (Newref to from) knew lists allowed here =
    row_leaves program words (row_of variables from) _ (λ row is found stored.
    goes_on_put program words context at (at + 1) variables s (Newref to from) Success to
    (Owned (kind_of (var_of s from))) (Some row) here refl refl here.operands.0
    (λ x this. subst (λ (y : ℕ). IsTrueKind (kind_of (var_of s from)) (words y)) (some_is row x this)
    (here.known from row is)))
instruction_leaves program words layout t used before context at variables s (MoveReference to from)
    knew lists allowed here =
    row_leaves program words (row_of variables from) _ (λ row is.
    let emptied : HaveTrueKinds words (put s from Empty) (slice_set variables from None) =
    true_put words s variables from Empty None (omega (arith, here.operands.1, here.inside.slots))
    (omega (arith, here.operands.1, here.inside.rows)) (empty_true words None) here.known in
    goes_on program words context at (at + 1) variables (slice_set (slice_set variables from None) to (Some row)) s
    (MoveReference to from) Success here refl
    (true_put words (put s from Empty) (slice_set variables from None) to (Owned (kind_of (var_of s from)))
    (Some row)
    (omega (arith, here.operands.0, here.inside.slots, length-set s.slots from Empty))
    (omega (arith, here.operands.0, here.inside.rows, length-set variables from None))
    (λ x this. subst (λ (y : ℕ). IsTrueKind (kind_of (var_of s from)) (words y)) (some_is row x this)
    (here.known from row is)) emptied))
instruction_leaves program words layout t used before context at variables s (Drop from) knew lists allowed here =
    row_leaves program words (row_of variables from) _ (λ row is found stored.
    goes_on_put program words context at (at + 1) variables s (Drop from) Success from Empty None here refl refl
    here.operands (empty_true words None))
instruction_leaves program words layout t used before context at variables s (Lock object) knew lists allowed here =
    row_leaves program words (row_of variables object) _ (λ row is found seen.
    either (KnowsAll program words) (found == free_word) _ _
    (λ free. goes_on program words context at (at + 1) variables variables s (Lock object) Success here refl here.known)
    knew)
instruction_leaves program words layout t used before context at variables s (Unlock object) knew lists allowed here =
    row_leaves program words (row_of variables object) _ (λ row is found seen.
    goes_on program words context at (at + 1) variables variables s (Unlock object) Success here refl
    (true_without_items words s variables here.known))
instruction_leaves program words layout t used before context at variables s (Borrow to list index otherwise) knew
    lists allowed here =
    range_leaves program words (row_of variables list) index (Inside context at variables InRange)
    (InCall context otherwise (slice_set variables to None))
    (knows_here program context.outer words at variables s (Borrow to list index otherwise) here)
    (goes_on_put program words context at otherwise variables s
    (Borrow to list index otherwise) FaultExit to Empty None here
    refl refl here.operands.0 (empty_true words None))
instruction_leaves program words layout t used before context at variables s (Fetch to list index otherwise)
    knew lists allowed here =
    range_leaves program words (row_of variables list) index (Inside context at variables InRange)
    (InCall context otherwise (slice_set variables to None))
    (knows_here program context.outer words at variables s (Fetch to list index otherwise) here)
    (goes_on_put program words context at otherwise variables s
    (Fetch to list index otherwise) FaultExit to Empty None here
    refl refl here.operands.0 (empty_true words None))
instruction_leaves program words layout t used before context at variables s (Set list index from otherwise)
    knew lists allowed here =
    let within = knows_here program context.outer words at variables s (Set list index from otherwise) here in
    range_leaves program words (row_of variables list) index (Inside context at variables InRange)
    (Inside context at variables OutOfRange) within within
instruction_leaves program words layout t used before context at variables s (Put list index from otherwise)
    knew lists allowed here =
    range_leaves program words (row_of variables list) index (Inside context at variables InRange)
    (InCall context otherwise variables) (knows_here program context.outer words at variables s
    (Put list index from otherwise) here)
    (goes_on program words context at otherwise variables variables s (Put list index from otherwise) FaultExit here
    refl
    (true_without_items words s variables here.known))
instruction_leaves program words layout t used before context at variables s (Open to path mode otherwise)
    knew lists allowed here =
    grant_leaves program words layout t used context at variables s (Open to path mode otherwise) to otherwise here
    here.operands.0 refl refl
instruction_leaves program words layout t used before context at variables s (Connect to peer otherwise)
    knew lists allowed here =
    grant_leaves program words layout t used context at variables s (Connect to peer otherwise) to otherwise here
    here.operands.0 refl refl
instruction_leaves program words layout t used before context at variables s (Read to file most otherwise)
    knew lists allowed here =
    either (LeavesKinds program words) (has_room layout t used) _ _
    (λ room. row_leaves program words (row_of variables file) _ (λ row is found seen.
    knows_here program context.outer words at variables s (Read to file most otherwise) here))
    (goes_on_put program words context at otherwise variables s (Read to file most otherwise) FaultExit to Empty None
    here
    refl refl here.operands.0 (empty_true words None))
instruction_leaves program words layout t used before context at variables s (Write file number otherwise)
    knew lists allowed here =
    row_leaves program words (row_of variables number) _ (λ row is found seen.
    knows_here program context.outer words at variables s (Write file number otherwise) here)
instruction_leaves program words layout t used before context at variables s (As from kind otherwise)
    knew lists allowed here =
    row_leaves program words (row_of variables from) _ (λ row is found seen.
    either (λ (next : ℕ). KnowsAll program words (InCall context next variables))
    (same_kind (kind_of_word found) kind) _ _
    (λ same.
    goes_on program words context at (at + 1) variables variables s (As from kind otherwise) Success here refl
    (true_with_kind words s variables from kind (omega (arith, here.operands.0, here.inside.slots))
    (λ x this. inr (ap (λ (y : ℕ). kind_of_word (words y)) (some_is x row (sym this ∙ is)) ∙ ap kind_of_word (sym seen)
    ∙ same_kind_is (kind_of_word found) kind same)) here.known))
    (goes_on program words context at otherwise variables variables s (As from kind otherwise) FaultExit here refl
    here.known))
instruction_leaves program words layout t used before context at variables s (Goto to) knew lists allowed here =
    goes_on program words context at to variables variables s (Goto to) Success here refl here.known
instruction_leaves program words layout t used before context at variables s (Again to times) knew lists allowed here =
    either (KnowsAll program words) (nat_lt (turns_at context at) times) (InCall (with_turn context at) to variables)
    (InCall context (at + 1) variables)
    (λ more. goes_on program words (with_turn context at) at to variables variables s (Again to times) FaultExit here
    refl
    here.known)
    (goes_on program words context at (at + 1) variables variables s (Again to times) Success here refl here.known)
instruction_leaves program words layout t used before context at variables s (Call to callee arguments otherwise) knew
    lists allowed here =
    call_leaves program words t context at variables s to callee arguments otherwise here
instruction_leaves program words layout t used before context at variables s (Ret from) knew lists allowed here =
    row_leaves program words (row_of variables from) _ (λ row is.
    ret_leaves program words t context.left from row context.outer here.sound here.inside.is_call.open_calls
    here.open_known)
instruction_leaves program words layout t used before context at variables s Fail knew lists allowed here =
    fail_leaves program words context.left context.outer here.sound here.inside.is_call.open_calls here.open_known

-- ---- what a step inside an instruction leaves

-- `set` empties the variable whose reference it stores, and those that borrowed from the list.
set_leaves : (program : Program) (words : ℕ → ℕ) (context : Context) (at next : ℕ) (variables : List (Option ℕ))
    (s : State)
    (list index from otherwise : ℕ) (exit : Exit)
    → (here : KnowsAt program context.outer words at variables s (Set list index from otherwise))
    → target (Set list index from otherwise) exit at ≡ Some next
    → KnowsAll program words (InCall context next (slice_set variables from None))
set_leaves program words context at next variables s list index from otherwise exit here to =
    goes_on program words context at next variables (slice_set variables from None) s (Set list index from otherwise)
    exit
    here to
    (true_without_items words (put s from Empty) (slice_set variables from None)
    (true_put words s variables from Empty None (omega (arith, here.operands.0, here.inside.slots))
    (omega (arith, here.operands.0, here.inside.rows)) (empty_true words None) here.known))

-- A variable whose kind isn't known yet says nothing.
any_true : (words : ℕ → ℕ) (var : Slot) (row : Option ℕ) → kind_of var ≡ kinds.Any → HasTrueKind words var row
any_true words var row any x is = inl any

pub inside_leaves : (program : Program) (words : ℕ → ℕ) (layout : Layout) (t used : ℕ) (context : Context) (at : ℕ)
    (variables : List (Option ℕ))
    (stage : Stage)
    (s : State) (i : Instr) → KnowsAt program context.outer words at variables s i
    → LeavesKinds program words (dispatch_inside layout t used context at variables stage (Some i))
inside_leaves program words layout t used context at variables InRange s (Borrow to list index otherwise) here =
    cell_leaves program words (row_of variables list) index (InCall context otherwise (slice_set variables to None))
    (λ item. InCall context (at + 1) (slice_set variables to (Some item)))
    (goes_on_put program words context at otherwise variables s
    (Borrow to list index otherwise) FaultExit to Empty None here
    refl refl here.operands.0 (empty_true words None))
    (λ item.
    goes_on_put program words context at (at + 1) variables s (Borrow to list index otherwise) Success to
    (Locked kinds.Any)
    (Some item) here refl refl here.operands.0 (any_true words (Locked kinds.Any) (Some item) refl))
inside_leaves program words layout t used context at variables InRange s (Fetch to list index otherwise) here =
    cell_leaves program words (row_of variables list) index (InCall context otherwise (slice_set variables to None))
    (λ item. Inside context at variables (Found item))
    (goes_on_put program words context at otherwise variables s
    (Fetch to list index otherwise) FaultExit to Empty None here
    refl refl here.operands.0 (empty_true words None))
    (λ item. knows_here program context.outer words at variables s (Fetch to list index otherwise) here)
inside_leaves program words layout t used context at variables (Found item) s (Fetch to list index otherwise) here =
    λ found seen.
    goes_on_put program words context at (at + 1) variables s (Fetch to list index otherwise) Success to
    (Owned kinds.Any)
    (Some item) here refl refl here.operands.0 (any_true words (Owned kinds.Any) (Some item) refl)
inside_leaves program words layout t used context at variables InRange s (Set list index from otherwise) here =
    row_leaves program words (row_of variables list) _ (λ row is.
    row_leaves program words (row_of variables from) _ (λ item this found seen.
    set_leaves program words context at (at + 1) variables s list index from otherwise Success here refl))
inside_leaves program words layout t used context at variables OutOfRange s (Set list index from otherwise) here =
    row_leaves program words (row_of variables from) _ (λ item this found seen.
    set_leaves program words context at otherwise variables s list index from otherwise FaultExit here refl)
inside_leaves program words layout t used context at variables InRange s (Put list index from otherwise) here =
    row_leaves program words (row_of variables from) _ (λ item is found seen.
    knows_here program context.outer words at variables s (Put list index from otherwise) here)
inside_leaves program words layout t used context at variables Retained s (Put list index from otherwise) here =
    row_leaves program words (row_of variables list) _ (λ row is.
    row_leaves program words (row_of variables from) _ (λ item this found seen.
    goes_on program words context at (at + 1) variables variables s (Put list index from otherwise) Success here refl
    (true_without_items words s variables here.known)))
inside_leaves program words layout t used context at variables Granted s (Open to path mode otherwise) here =
    granted_leaves program words layout t used context at variables s (Open to path mode otherwise) to file_word
    kinds.File here here.operands.0 refl refl refl
inside_leaves program words layout t used context at variables Granted s (Connect to peer otherwise) here =
    granted_leaves program words layout t used context at variables s (Connect to peer otherwise) to sock_word
    kinds.Sock here here.operands.0 refl refl refl
inside_leaves program words layout t used context at variables Lent s (Read to file most otherwise) here = λ exit.
    knows_here program context.outer words at variables s (Read to file most otherwise) here
inside_leaves program words layout t used context at variables (Called Success) s (Read to file most otherwise) here =
    return_leaves program words variables file (Inside context at variables Granted)
    (knows_here program context.outer words at variables s (Read to file most otherwise) here)
inside_leaves program words layout t used context at variables (Called FaultExit) s (Read to file most otherwise) here =
    return_leaves program words variables file (InCall context otherwise (slice_set variables to None))
    (goes_on_put program words context at otherwise variables s (Read to file most otherwise) FaultExit to Empty None
    here
    refl refl here.operands.0 (empty_true words None))
inside_leaves program words layout t used context at variables Granted s (Read to file most otherwise) here =
    granted_leaves program words layout t used context at variables s (Read to file most otherwise) to (number_word 0)
    kinds.Num here here.operands.0 refl refl refl
inside_leaves program words layout t used context at variables Loaded s (Write file number otherwise) here =
    row_leaves program words (row_of variables file) _ (λ row is found seen.
    knows_here program context.outer words at variables s (Write file number otherwise) here)
inside_leaves program words layout t used context at variables Lent s (Write file number otherwise) here = λ exit.
    knows_here program context.outer words at variables s (Write file number otherwise) here
inside_leaves program words layout t used context at variables (Called Success) s (Write file number otherwise) here =
    return_leaves program words variables file (InCall context (at + 1) variables)
    (goes_on program words context at (at + 1) variables variables s (Write file number otherwise) Success here refl
    here.known)
inside_leaves program words layout t used context at variables (Called FaultExit) s (Write file number otherwise) here =
    return_leaves program words variables file (InCall context otherwise variables)
    (goes_on program words context at otherwise variables variables s (Write file number otherwise) FaultExit here refl
    here.known)
inside_leaves program words layout t used context at variables stage s i here = tt
