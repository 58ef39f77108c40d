-- What a thread of the step world remembers at a place, and that what it dispatches leads to where it remembers what it
-- needs then: the word that `write` sends, and the answer of the host of which `read` makes a number.
use Rattle.std.proofs.Common.{◌≡◌, ℕ, zero, suc, ◌+◌, Bool, true, false, cond, List, [], ◌∷◌, ◌++◌, Option, None, Some, append-nil, refl, sym, ap, ◌∙◌, subst}
use Rattle.std.specs.Prelude.{◌&&◌, ◌==◌, nat_lt, is_some, slice_get, slice_set}
use Rattle.std.specs.List.{list_all}
use Rattle.std.specs.Fmt.{decimal}
use Rattle.brc_word.specs.Words.{free_word, argument_part}
use Rattle.brc_host.specs.HostCalls.{HostCall}
use Rattle.brc_host.specs.HostCalls as asked
use Rattle.brc_lang.specs.declared.module.Instr.{Instr}
use Rattle.brc_lang.specs.declared.module.Instr.TheVariants.{Num, List as ListObject, NoneObject, Take, Newref, Move as MoveReference, Drop, Lock, Unlock, Borrow, Fetch, Set, Put, Goto, Again, Ret, Fail, As, Open, Connect, Read, Write, Call}
use Rattle.brc_model.specs.declared.actor.Context.{Context}
use Rattle.brc_model.specs.declared.actor.OpenCall.{OpenCall}
use Rattle.brc_model.specs.declared.actor.Place.{Place}
use Rattle.brc_model.specs.declared.actor.Place.TheVariants.{Idle, InCall, Inside, Stopping, Exiting}
use Rattle.brc_model.specs.declared.actor.Stage.{Stage}
use Rattle.brc_model.specs.declared.actor.Stage.TheVariants.{InRange, OutOfRange, Found, Retained, Loaded, Lent, Called, Granted}
use Rattle.brc_model.specs.declared.address.Address.TheVariants.{KindOf}
use Rattle.brc_model.specs.declared.duty.Duty.{Duty}
use Rattle.brc_model.specs.declared.duty.Duty.TheVariants.{KindLoad, LockGate, UnlockGate, CellLoad, LendField, ReturnField, ReleaseLoad, Settle}
use Rattle.brc_model.specs.declared.duty.Holding.TheVariants.{ByVariable}
use Rattle.brc_model.specs.declared.layout.Layout.{Layout}
use Rattle.brc_model.specs.declared.state.Exit.{Exit}
use Rattle.brc_model.specs.declared.state.Exit.TheVariants.{Success, Fault as FaultExit}
use Rattle.brc_model.specs.Actions.{Action, Skip, Stuck, Silent, Calls, Does, always, with_row, number_word, list_word, birth_action, lend_action, first_context, turns_at, with_turn, by_range, by_item, dispatch_instruction, dispatch_inside, argument_rows, ret_action, fail_action}
use Rattle.brc_model.specs.Layout.{row_at}
use Rattle.brc_model.specs.declared.actor.Actor.{Actor}
use Rattle.brc_model.specs.Machine.{has_room, actor_by}
use Rattle.brc_model.specs.Stops.{holds_some}
use Rattle.brc_model.specs.Threads.{row_of, entry_variables}
use Rattle.brc_model.proofs.Basics.Lists.{either}
use Rattle.brc_model.proofs.Dispatch.Decided.{range_decides, item_decides, stopping_decides, give_up_decides}
use Rattle.brc_model.specs.declared.event.WordEvent.{WordEvent}
use Rattle.brc_model.specs.Trace.{events_of}
use Rattle.brc_work.specs.Traces.{Program, function_under, dispatch_in, Requests, ForFile, ForPeer, ForBytes, ForLine, instruction_at, read_birth, exit_of, is_birth, is_read, has_read}
use Rattle.brc_work.specs.Automata.{is_inside}
use Rattle.brc_work.proofs.Traces.Duties.{no_duty}

-- ---- what a thread remembers

-- A thread so far inside the instruction has nothing else to do, and has just loaded the word that `write` sends, or
-- the host has just answered it what `read` makes a number of.
abbrev pub RemembersInside : List HostCall → List WordEvent → Actor → Stage → Option Instr → Type 0
RemembersInside cs es b Loaded (Some (Write file number otherwise)) =
    (b.agenda ≡ []) × (before : List WordEvent) × (last : WordEvent) × (es ≡ before ++ last ∷ [])
RemembersInside cs es b Lent (Some (Write file number otherwise)) =
    (b.agenda ≡ []) × (before : List WordEvent) × (last : WordEvent) × (es ≡ before ++ last ∷ [])
RemembersInside cs es b (Called Success) (Some (Read to file most otherwise)) =
    (b.agenda ≡ []) × (before : List HostCall) × (cs ≡ before ++ asked.Read most (Some 0) ∷ [])
RemembersInside cs es b Granted (Some (Read to file most otherwise)) =
    (b.agenda ≡ []) × (before : List HostCall) × (cs ≡ before ++ asked.Read most (Some 0) ∷ [])
RemembersInside cs es b stage i = Unit {0}

module _ (program : Program) where
  abbrev pub Remembers : List HostCall → List WordEvent → Actor → Place → Type 0
  Remembers cs es b (Idle left) = Unit {0}
  Remembers cs es b (InCall context at variables) = Unit {0}
  Remembers cs es b (Inside context at variables stage) = RemembersInside cs es b stage (slice_get
      (function_under program context.outer).code at)
  Remembers cs es b (Stopping locked calls) = Unit {0}
  Remembers cs es b Exiting = Unit {0}

  -- A thread outside of all instructions remembers nothing,
  pub nothing_outside : (cs : List HostCall) (es : List WordEvent) (b : Actor) (q : Place) → is_inside q ≡ false
      → Remembers cs es b q
  nothing_outside cs es b (Idle left) outside = tt
  nothing_outside cs es b (InCall context at variables) outside = tt
  nothing_outside cs es b (Inside context at variables stage) outside = absurd cc
  nothing_outside cs es b (Stopping locked calls) outside = tt
  nothing_outside cs es b Exiting outside = tt

-- nor does one that has something else to do.
nothing_inside : (cs ds : List HostCall) (es fs : List WordEvent) (b c : Actor) (d : Duty) (rest : List Duty)
    (stage : Stage) (i : Option Instr) → b.agenda ≡ d ∷ rest → RemembersInside cs es b stage i
    → RemembersInside ds fs c stage i
nothing_inside cs ds es fs b c d rest Loaded (Some (Write file number otherwise)) is has =
    absurd (let wrong : [] ≡ d ∷ rest = sym has.0 ∙ is in cc)
nothing_inside cs ds es fs b c d rest Lent (Some (Write file number otherwise)) is has =
    absurd (let wrong : [] ≡ d ∷ rest = sym has.0 ∙ is in cc)
nothing_inside cs ds es fs b c d rest (Called Success) (Some (Read to file most otherwise)) is has =
    absurd (let wrong : [] ≡ d ∷ rest = sym has.0 ∙ is in cc)
nothing_inside cs ds es fs b c d rest Granted (Some (Read to file most otherwise)) is has =
    absurd (let wrong : [] ≡ d ∷ rest = sym has.0 ∙ is in cc)
nothing_inside cs ds es fs b c d rest stage i is has = tt

pub nothing_busy : (program : Program) (cs ds : List HostCall) (es fs : List WordEvent) (b c : Actor) (d : Duty)
    (rest : List Duty) (q : Place)
    → b.agenda ≡ d ∷ rest → Remembers program cs es b q → Remembers program ds fs c q
nothing_busy program cs ds es fs b c d rest (Idle left) is has = tt
nothing_busy program cs ds es fs b c d rest (InCall context at variables) is has = tt
nothing_busy program cs ds es fs b c d rest (Inside context at variables stage) is has =
    nothing_inside cs ds es fs b c d rest stage (slice_get (function_under program context.outer).code at) is has
nothing_busy program cs ds es fs b c d rest (Stopping locked calls) is has = tt
nothing_busy program cs ds es fs b c d rest Exiting is has = tt

-- ---- what a thread dispatches

-- The duty is none that needs to remember something, or the birth of what `read` has read.
pub data IsKnown (layout : Layout) (t : ℕ) (program : Program) (cs : List HostCall) (b : Actor)
    : Place → Duty → List Duty → (ℕ → Place) → Type 0 where
  Other : {q : Place} {d : Duty} {rest : List Duty} {place : ℕ → Place} → (is_birth d && has_read program q) ≡ false
      → IsKnown layout t program cs b q d rest place
  OfRead : (context : Context) (at : ℕ) (variables : List (Option ℕ)) (to file most otherwise : ℕ)
      (before : List HostCall)
      → slice_get (function_under program context.outer).code at ≡ Some (Read to file most otherwise) → cs
      ≡ before ++ asked.Read most (Some 0) ∷ []
      → IsKnown layout t program cs b (Inside context at variables Granted) (read_birth layout t b context to 0) []
      (always (InCall context (at + 1) (slice_set variables to (Some (row_at layout t b.used)))))

module _ (layout : Layout) (t : ℕ) (program : Program) (cs : List HostCall) (es : List WordEvent) (b : Actor)
    (none : b.agenda ≡ []) (q : Place) where
  -- A hand's thread can make a call of the host that ends so, and remembers what it needs then.
  abbrev pub CanAsk : (Exit → Place) → Exit → Type 0
  CanAsk place exit =
      (i : Instr) × (call : HostCall) × (instruction_at program q ≡ Some i) × Requests es i call × (exit_of call ≡ exit)
      × Remembers program (cs ++ call ∷ []) es b (place exit)

  -- What the thread does a hand's thread can do, and the thread remembers afterwards what it needs then.
  abbrev pub Leads : Action → Type 0
  Leads Skip = Unit {0}
  Leads Stuck = Unit {0}
  Leads (Silent moves place) = Remembers program cs es b place
  Leads (Calls row place) = (exit : Exit) → CanAsk place exit
  Leads (Does d rest place) =
      (found : ℕ)
      → IsKnown layout t program cs b q d rest place
      × Remembers program cs (es ++ events_of layout t b d found) (actor_by layout t b d rest found) (place found)

  row_leads : (o : Option ℕ) (work : ℕ → Action) → ((row : ℕ) → Leads (work row)) → Leads (with_row o work)
  row_leads None work each = tt
  row_leads (Some row) work each = each row

  -- A duty other than a birth, after which the thread remembers what it needs wherever it is.
  does_leads : (d : Duty) (rest : List Duty) (place : ℕ → Place) → is_birth d ≡ false
      → ((ds : List HostCall) (fs : List WordEvent) (c : Actor) (found : ℕ) → Remembers program ds fs c (place found))
      → Leads (Does d rest place)
  does_leads d rest place other each = λ found. (
    Other (ap (λ (is : Bool). is && has_read program q) other),
    each cs (es ++ events_of layout t b d found) (actor_by layout t b d rest found) found,
  )

  birth_leads : (context : Context) (at : ℕ) (variables : List (Option ℕ)) (to word otherwise : ℕ)
      → has_read program q ≡ false
      → Leads (birth_action layout t b.used context at variables to word otherwise)
  birth_leads context at variables to word otherwise other =
      either Leads (has_room layout t b.used) _ _ (λ room found. (Other other, tt)) tt

  range_leads : (list : Option ℕ) (index : ℕ) (inside outside : Place)
      → ((ds : List HostCall) (fs : List WordEvent) (c : Actor) → Remembers program ds fs c inside)
      → ((ds : List HostCall) (fs : List WordEvent) (c : Actor) → Remembers program ds fs c outside)
      → Leads (with_row list (λ row. Does (KindLoad row) [] (by_range index inside outside)))
  range_leads list index inside outside enters passes =
      row_leads list _ (λ row. does_leads (KindLoad row) [] (by_range index inside outside) refl (λ ds fs c found.
      range_decides (Remembers program ds fs c) inside outside index found (λ has. enters ds fs c) (passes ds fs c)))

  cell_leads : (list : Option ℕ) (index : ℕ) (empty : Place) (holds : ℕ → Place)
      → ((ds : List HostCall) (fs : List WordEvent) (c : Actor) → Remembers program ds fs c empty)
      → ((ds : List HostCall) (fs : List WordEvent) (c : Actor) (item : ℕ) → Remembers program ds fs c (holds item))
      → Leads (with_row list (λ row. Does (CellLoad row index) [] (by_item empty holds)))
  cell_leads list index empty holds clear some =
      row_leads list _ (λ row. does_leads (CellLoad row index) [] (by_item empty holds) refl (λ ds fs c found.
      item_decides (λ word. Remembers program ds fs c) empty holds (clear ds fs c) (some ds fs c) found))

  -- The instruction's call of the host ends by either exit.
  answers : (place : Exit → Place) (i : Instr) (call : Bool → HostCall) → instruction_at program q ≡ Some i
      → ((failed : Bool) → Requests es i (call failed)) → exit_of (call false) ≡ Success
      → exit_of (call true) ≡ FaultExit
      → Remembers program (cs ++ call false ∷ []) es b (place Success)
      → Remembers program (cs ++ call true ∷ []) es b (place FaultExit)
      → (exit : Exit) → CanAsk place exit
  answers place i call here asks succeeds fails granted refused Success =
      (i, call false, here, asks false, succeeds, granted)
  answers place i call here asks succeeds fails granted refused FaultExit =
      (i, call true, here, asks true, fails, refused)

  -- The end of a call leads to the end of all calls, or on in the one around it.
  ret_leads : (left from row : ℕ) (outer : List OpenCall) → Leads (ret_action t left from row outer)
  ret_leads left from row [] = λ found. (Other refl, tt)
  ret_leads left from row (o ∷ outer) = tt

  fail_leads : (left : ℕ) (outer : List OpenCall) → Leads (fail_action left outer)
  fail_leads left [] = tt
  fail_leads left (o ∷ outer) = tt

  -- What a thread does at an instruction.
  instruction_leads : (context : Context) (at : ℕ) (variables : List (Option ℕ)) (i : Option Instr)
      → slice_get (function_under program context.outer).code at ≡ i → instruction_at program q ≡ i
      → has_read program q ≡ false
      → ((ds : List HostCall) (fs : List WordEvent) (c : Actor) → Remembers program ds fs c q)
      → Leads (dispatch_instruction layout t b.used q context at variables i)
  instruction_leads context at variables None is here other clear = tt
  instruction_leads context at variables (Some (Num to value otherwise)) is here other clear =
      birth_leads context at variables to (number_word value) otherwise other
  instruction_leads context at variables (Some (ListObject to cells otherwise)) is here other clear =
      birth_leads context at variables to (list_word cells) otherwise other
  instruction_leads context at variables (Some (NoneObject to)) is here other clear = tt
  instruction_leads context at variables (Some (Take to list)) is here other clear = tt
  instruction_leads context at variables (Some (Newref to from)) is here other clear =
      row_leads (row_of variables from) _ (λ row found. (Other refl, tt))
  instruction_leads context at variables (Some (MoveReference to from)) is here other clear =
      row_leads (row_of variables from) _ (λ row. tt)
  instruction_leads context at variables (Some (Drop from)) is here other clear =
      row_leads (row_of variables from) _ (λ row found. (Other refl, tt))
  instruction_leads context at variables (Some (Lock object)) is here other clear =
      row_leads (row_of variables object) _ (λ row.
      does_leads (LockGate row) [] _ refl (λ ds fs c found.
      either (Remembers program ds fs c) (found == free_word) (InCall context (at + 1) variables) q (λ free. tt)
      (clear ds fs c)))
  instruction_leads context at variables (Some (Unlock object)) is here other clear =
      row_leads (row_of variables object) _ (λ row found. (Other refl, tt))
  instruction_leads context at variables (Some (Borrow to list index otherwise)) is here other clear =
      range_leads (row_of variables list) index (Inside context at variables InRange)
      (InCall context otherwise (slice_set variables to None)) (λ ds fs c. tt) (λ ds fs c. tt)
  instruction_leads context at variables (Some (Fetch to list index otherwise)) is here other clear =
      range_leads (row_of variables list) index (Inside context at variables InRange)
      (InCall context otherwise (slice_set variables to None)) (λ ds fs c. tt) (λ ds fs c. tt)
  instruction_leads context at variables (Some (Set list index from otherwise)) is here other clear =
      range_leads (row_of variables list) index (Inside context at variables InRange)
      (Inside context at variables OutOfRange) (λ ds fs c. tt) (λ ds fs c. tt)
  instruction_leads context at variables (Some (Put list index from otherwise)) is here other clear =
      range_leads (row_of variables list) index (Inside context at variables InRange)
      (InCall context otherwise variables) (λ ds fs c. tt) (λ ds fs c. tt)
  instruction_leads context at variables (Some (Open to path mode otherwise)) is here other clear =
      either Leads (has_room layout t b.used) _ _
      (λ room. answers _ (Open to path mode otherwise) (asked.Open path mode) here (ForFile to path mode otherwise)
      refl refl
      (subst (RemembersInside (cs ++ asked.Open path mode false ∷ []) es b Granted) (sym is) tt) tt) tt
  instruction_leads context at variables (Some (Connect to peer otherwise)) is here other clear =
      either Leads (has_room layout t b.used) _ _
      (λ room. answers _ (Connect to peer otherwise) (asked.Connect peer) here (ForPeer to peer otherwise) refl refl
      (subst (RemembersInside (cs ++ asked.Connect peer false ∷ []) es b Granted) (sym is) tt) tt) tt
  instruction_leads context at variables (Some (Read to file most otherwise)) is here other clear =
      either Leads (has_room layout t b.used) (lend_action context at variables file)
      (Silent [] (InCall context otherwise (slice_set variables to None)))
      (λ room. row_leads (row_of variables file) _ (λ row.
      does_leads (LendField row) [] (always (Inside context at variables Lent)) refl (λ ds fs c found.
      subst (RemembersInside ds fs c Lent) (sym is) tt))) tt
  instruction_leads context at variables (Some (Write file number otherwise)) is here other clear =
      row_leads (row_of variables number) _ (λ row found. (
        Other refl,
        subst (RemembersInside cs (es ++ events_of layout t b (KindLoad row) found)
            (actor_by layout t b (KindLoad row) [] found) Loaded) (sym is)
            (no_duty b.head, es, record { address = KindOf row; found = found; left = found }, refl),
      ))
  instruction_leads context at variables (Some (As from kind otherwise)) is here other clear =
      row_leads (row_of variables from) _ (λ row found. (Other refl, tt))
  instruction_leads context at variables (Some (Call to callee arguments otherwise)) is here other clear =
      either Leads (list_all is_some (argument_rows variables arguments)) _ _ (λ named. tt) tt
  instruction_leads context at variables (Some (Goto to)) is here other clear = tt
  instruction_leads context at variables (Some (Again to times)) is here other clear =
      either (Remembers program cs es b) (nat_lt (turns_at context at) times) (InCall
      (with_turn context at) to variables)
      (InCall context (at + 1) variables) (λ more. tt) tt
  instruction_leads context at variables (Some (Ret from)) is here other clear =
      row_leads (row_of variables from) _ (λ row. ret_leads context.left from row context.outer)
  instruction_leads context at variables (Some Fail) is here other clear = fail_leads context.left context.outer

module _ (layout : Layout) (t : ℕ) (program : Program) (cs : List HostCall) (es : List WordEvent) (b : Actor)
    (none : b.agenda ≡ []) (context : Context) (at : ℕ) (variables : List (Option ℕ)) where
  abbrev LeadsFrom : Stage → Action → Type 0
  LeadsFrom stage = Leads layout t program cs es b none (Inside context at variables stage)

  -- What it does inside an instruction.
  inside_leads : (stage : Stage) (i : Option Instr) → slice_get (function_under program context.outer).code at ≡ i
      → RemembersInside cs es b stage i
      → LeadsFrom stage (dispatch_inside layout t b.used context at variables stage i)
  inside_leads InRange (Some (Borrow to list index otherwise)) is has =
      cell_leads layout t program cs es b none (Inside context at variables InRange) (row_of variables list) index
      (InCall context otherwise (slice_set variables to None))
      (λ item. InCall context (at + 1) (slice_set variables to (Some item))) (λ ds fs c. tt) (λ ds fs c item. tt)
  inside_leads InRange (Some (Fetch to list index otherwise)) is has =
      cell_leads layout t program cs es b none (Inside context at variables InRange) (row_of variables list) index
      (InCall context otherwise (slice_set variables to None)) (λ item. Inside context at variables (Found item))
      (λ ds fs c. tt) (λ ds fs c item. tt)
  inside_leads (Found item) (Some (Fetch to list index otherwise)) is has = λ found. (Other refl, tt)
  inside_leads InRange (Some (Set list index from otherwise)) is has =
      row_leads layout t program cs es b none (Inside context at variables InRange) (row_of variables list) _ (λ row.
      row_leads layout t program cs es b none (Inside context at variables InRange) (row_of variables from) _
      (λ item found. (Other refl, tt)))
  inside_leads OutOfRange (Some (Set list index from otherwise)) is has =
      row_leads layout t program cs es b none (Inside context at variables OutOfRange) (row_of variables from) _
      (λ item found. (Other refl, tt))
  inside_leads InRange (Some (Put list index from otherwise)) is has =
      row_leads layout t program cs es b none (Inside context at variables InRange) (row_of variables from) _
      (λ item found. (Other refl, tt))
  inside_leads Retained (Some (Put list index from otherwise)) is has =
      row_leads layout t program cs es b none (Inside context at variables Retained) (row_of variables list) _ (λ row.
      row_leads layout t program cs es b none (Inside context at variables Retained) (row_of variables from) _
      (λ item found. (Other refl, tt)))
  inside_leads Granted (Some (Open to path mode otherwise)) is has = λ found. (Other (ap is_read is), tt)
  inside_leads Granted (Some (Connect to peer otherwise)) is has = λ found. (Other (ap is_read is), tt)
  inside_leads Lent (Some (Read to file most otherwise)) is has =
      answers layout t program cs es b none (Inside context at variables Lent)
      (λ exit. Inside context at variables (Called exit)) (Read to file most otherwise)
      (λ failed. asked.Read most (cond failed None (Some 0))) is
      (λ failed. ForBytes to file most otherwise (cond failed None (Some 0))) refl refl
      (subst (RemembersInside (cs ++ asked.Read most (Some 0) ∷ []) es b (Called Success)) (sym is) (none, cs, refl)) tt
  inside_leads (Called Success) (Some (Read to file most otherwise)) is has =
      row_leads layout t program cs es b none (Inside context at variables (Called Success)) (row_of variables file) _
      (λ row found. (
        Other refl,
        subst (RemembersInside cs (es ++ events_of layout t b (ReturnField row) found)
            (actor_by layout t b (ReturnField row) [] found) Granted) (sym is) (no_duty b.head, has.1, has.2),
      ))
  inside_leads (Called FaultExit) (Some (Read to file most otherwise)) is has =
      row_leads layout t program cs es b none (Inside context at variables (Called FaultExit)) (row_of variables file) _
      (λ row found. (Other refl, tt))
  inside_leads Granted (Some (Read to file most otherwise)) is has =
      λ found. (OfRead context at variables to file most otherwise has.1 is has.2, tt)
  inside_leads Loaded (Some (Write file number otherwise)) is has =
      row_leads layout t program cs es b none (Inside context at variables Loaded) (row_of variables file) _
      (λ row found. (
        Other refl,
        subst (RemembersInside cs (es ++ events_of layout t b (LendField row) found)
            (actor_by layout t b (LendField row) [] found) Lent) (sym is)
            (no_duty b.head, has.1, has.2, append-nil es ∙ has.3),
      ))
  inside_leads Lent (Some (Write file number otherwise)) is has =
      answers layout t program cs es b none (Inside context at variables Lent)
      (λ exit. Inside context at variables (Called exit)) (Write file number otherwise)
      (asked.Write (decimal (argument_part has.2.found) ++ 10 ∷ [])) is
      (λ failed. ForLine file number otherwise has.1 has.2 failed has.3) refl refl
      (subst (RemembersInside (cs ++ asked.Write (decimal (argument_part has.2.found) ++ 10 ∷ []) false ∷ []) es b
      (Called Success)) (sym is) tt) tt
  inside_leads (Called Success) (Some (Write file number otherwise)) is has =
      row_leads layout t program cs es b none (Inside context at variables (Called Success)) (row_of variables file) _
      (λ row found. (Other refl, tt))
  inside_leads (Called FaultExit) (Some (Write file number otherwise)) is has =
      row_leads layout t program cs es b none (Inside context at variables (Called FaultExit)) (row_of variables file) _
      (λ row found. (Other refl, tt))
  inside_leads stage i is has = tt

module _ (layout : Layout) (t : ℕ) (program : Program) (cs : List HostCall) (es : List WordEvent) (b : Actor)
    (none : b.agenda ≡ []) where
  pub dispatch_leads : (q : Place) → Remembers program cs es b q
      → Leads layout t program cs es b none q (dispatch_in layout t b.used program q)
  dispatch_leads Exiting has = tt
  dispatch_leads (Stopping (Some row) calls) has = λ found. (
    Other refl,
    stopping_decides (Remembers program cs (es ++ events_of layout t b (UnlockGate row) found)
        (actor_by layout t b (UnlockGate row) [] found)) None calls tt tt,
  )
  dispatch_leads (Stopping None calls) has =
      give_up_decides (Leads layout t program cs es b none (Stopping None calls)) tt (λ row depth v after found.
      let d = ReleaseLoad row (ByVariable depth v) in
      let rest = cond (holds_some after) [] (Settle ∷ []) in (
        Other refl,
        stopping_decides (Remembers program cs (es ++ events_of layout t b d found)
            (actor_by layout t b d rest found)) None after tt tt,
      )) calls
  dispatch_leads (Idle zero) has = λ found. (Other refl, tt)
  dispatch_leads (Idle (suc left)) has =
      instruction_leads layout t program cs es b none (Idle (suc left)) (first_context left) 0 entry_variables
      (slice_get (function_under program []).code 0) refl refl refl (λ ds fs c. tt)
  dispatch_leads (InCall context at variables) has =
      instruction_leads layout t program cs es b none (InCall context at variables) context at variables
      (slice_get (function_under program context.outer).code at) refl refl refl (λ ds fs c. tt)
  dispatch_leads (Inside context at variables stage) has =
      inside_leads layout t program cs es b none context at variables stage (slice_get
      (function_under program context.outer).code at) refl has
