-- `borrow`, `fetch`, `set` and `put`. Each begins with a look at how many cells the list has.
use Rattle.std.proofs.Common.{◌≡◌, ℕ, zero, suc, ◌+◌, ◌<◌, ◌≤◌, Bool, true, false, cond, List, [], ◌∷◌, Option, None, Some, refl, sym, ap, ◌∙◌, subst, arith}
use Rattle.std.specs.Prelude.{nat_lt, slice_set}
use Rattle.std.proofs.lemmas.Bool.{lt-ltb, le-ltb}
use Rattle.brc_host.specs.HostCalls.{HostCall}
use Rattle.brc_lang.specs.declared.module.Instr.{Instr}
use Rattle.brc_lang.specs.declared.module.Instr.TheVariants as instructions
use Rattle.brc_model.specs.Actions.{Does, always, by_range, by_item, with_row, dispatch_instruction, dispatch_inside, by_variable}
use Rattle.brc_model.specs.Duties.{cells_of}
use Rattle.brc_model.specs.Threads.{row_of}
use Rattle.brc_model.specs.declared.actor.Context.{Context}
use Rattle.brc_model.specs.declared.actor.Place.{Place}
use Rattle.brc_model.specs.declared.actor.Place.TheVariants.{InCall, Inside}
use Rattle.brc_model.specs.declared.actor.Stage.{Stage}
use Rattle.brc_model.specs.declared.actor.Stage.TheVariants.{InRange, OutOfRange, Found, Retained}
use Rattle.brc_model.specs.declared.duty.Duty.TheVariants.{RetainLoad, KindLoad, CellLoad, CellSwap, Settle}
use Rattle.brc_model.specs.declared.duty.Holding.{Holding}
use Rattle.brc_model.specs.declared.duty.Holding.TheVariants.{InFlight}
use Rattle.brc_model.specs.declared.layout.Layout.{Layout}
use Rattle.brc_model.specs.declared.state.Exit.TheVariants.{Success, Fault}
use Rattle.brc_model.proofs.Basics.Lists.{some_is, none_some}
use Rattle.brc_table.specs.declared.view.View.{View}
use Rattle.brc_table.specs.Views.{view_after, asking, loading_cell}
use Rattle.brc_heap.specs.Calls.{retained}
use Rattle.brc_list.specs.Calls.{row_in}
use Rattle.brc_work.specs.Traces.{Program, MakesTrace}
use Rattle.brc_work.specs.Performs.{IsBefore, Performs, GivesUp, MakesSwap}
use Rattle.brc_work.proofs.Traces.Joining.{traces_then}
use Rattle.brc_work.proofs.Traces.Duties.{no_duty}
use Rattle.brc_work.proofs.Traces.Places.{begins_with, goes_on, goes_on_with, begins_one}
use Rattle.brc_work.proofs.Traces.Starting.{asks_kind, looks_in, retains}

-- ---- looks

-- The variable names the list, whose kind word says how many cells it has. The hand has loaded that word. The cell is
-- that of the instruction.
pub record HasSized (list row index cell size word : ℕ) (rows : List (Option ℕ)) (v u : View) : Type 0 where
  pub none : v.actor.agenda ≡ []
  pub names : row_of rows list ≡ Some row
  pub same : cell ≡ index
  pub size_is : size ≡ cells_of word
  pub view_is : u ≡ view_after (asking v row) word

-- The hand has loaded the list's cell, and found this item there, or none.
pub record HasFound (row cell word : ℕ) (item : Option ℕ) (v u : View) : Type 0 where
  pub view_is : u ≡ view_after (loading_cell v row cell) word
  pub item_is : row_in word ≡ item

-- The place that the word of a cell with an item decides,
at_item : (empty : Place) (holds : ℕ → Place) (word item : ℕ) → row_in word ≡ Some item
    → by_item empty holds word ≡ holds item
at_item empty holds zero item is = absurd (none_some item is)
at_item empty holds (suc x) item is = ap holds (some_is x item is)

-- and that of an empty one.
at_none : (empty : Place) (holds : ℕ → Place) (word : ℕ) → row_in word ≡ None → by_item empty holds word ≡ empty
at_none empty holds zero is = refl
at_none empty holds (suc x) is = absurd (none_some x (sym is))

module _ (list row index cell size word : ℕ) (rows : List (Option ℕ)) (v mid : View)
    (sized : HasSized list row index cell size word rows v mid) where
  -- After that look the hand has nothing to do.
  idle : mid.actor.agenda ≡ []
  idle = ap (λ (u : View). u.actor.agenda) sized.view_is ∙ no_duty v.actor.head

  module _ (i : Instr) (program : Program) (place : Place) (context : Context) (at : ℕ)
      (before : IsBefore i program place context at rows) (outside : Place) where
    -- where the thread is if the list has the cell
    abbrev inside : Place
    inside = Inside context at rows InRange

    -- The instruction begins with the look: without the cell the thread is outside.
    abbrev LooksFirst : Type 0
    LooksFirst = dispatch_instruction v.layout v.thread v.actor.used place context at rows (Some i)
        ≡ with_row (row_of rows list) (λ x. Does (KindLoad x) [] (by_range index inside outside))

    -- The instruction goes on with a look into the cell.
    abbrev LooksInto : (ℕ → Place) → Type 0
    LooksInto holds = dispatch_inside mid.layout mid.thread mid.actor.used context at rows InRange (Some i)
        ≡ with_row (row_of rows list) (λ x. Does (CellLoad x index) [] (by_item outside holds))

    -- The word found decides where the thread is.
    asks : (b : Bool) → nat_lt index (cells_of word) ≡ b → LooksFirst
        → MakesTrace 1 [] program place v (cond b inside outside) mid
    asks b answer is =
        let next = by_range index inside outside in
        subst (λ (q : Place). MakesTrace 1 [] program place v q mid) (ap (λ (c : Bool). cond c inside outside) answer)
        (subst (MakesTrace 1 [] program place v (next word)) (sym sized.view_is)
        (begins_one before (asks_kind program place next v sized.none row word
        (begins_with i program place context at rows before v.layout v.thread v.actor.used list row
        (λ x. Does (KindLoad x) [] next) is sized.names))))

    -- The list has no such cell,
    no_cell : size ≤ cell → LooksFirst → MakesTrace 1 [] program place v outside mid
    no_cell high is = asks false (le-ltb index (cells_of word) (omega (arith, sized.same, sized.size_is, high))) is

    -- or it has the cell.
    has_cell : cell < size → LooksFirst → MakesTrace 1 [] program place v inside mid
    has_cell low is = asks true (lt-ltb index (cells_of word) (omega (arith, sized.same, sized.size_is, low))) is

    -- With the cell the thread goes on, and the cell's word decides where it is then.
    looks : (w : ℕ) (u : View) (holds : ℕ → Place) → u ≡ view_after (loading_cell mid row cell) w → LooksInto holds
        → MakesTrace 0 [] program inside mid (by_item outside holds w) u
    looks w u holds view_is is =
        let next = by_item outside holds in
        subst (MakesTrace 0 [] program inside mid (next w))
        (sym (view_is ∙ ap (λ (n : ℕ). view_after (loading_cell mid row n) w) sized.same))
        (looks_in program inside next mid idle row index w
        (goes_on_with i program place context at rows before mid.layout mid.thread mid.actor.used InRange list row
        (λ x. Does (CellLoad x index) [] next) is sized.names))

    -- The cell is empty,
    finds_none : (w : ℕ) (u : View) (holds : ℕ → Place) → cell < size → HasFound row cell w None mid u → LooksFirst
        → LooksInto holds → MakesTrace 1 [] program place v outside u
    finds_none w u holds low found first then_into =
        traces_then program place inside outside [] [] [] v mid u (has_cell low first)
        (subst (λ (q : Place). MakesTrace 0 [] program inside mid q u) (at_none outside holds w found.item_is)
        (looks w u holds found.view_is then_into))

    -- or there is an item in it.
    finds_item : (w item : ℕ) (u : View) (holds : ℕ → Place) → cell < size → HasFound row cell w (Some item) mid u
        → LooksFirst → LooksInto holds → MakesTrace 1 [] program place v (holds item) u
    finds_item w item u holds low found first then_into =
        traces_then program place inside (holds item) [] [] [] v mid u (has_cell low first)
        (subst (λ (q : Place). MakesTrace 0 [] program inside mid q u) (at_item outside holds w item found.item_is)
        (looks w u holds found.view_is then_into))

  -- ---- items that are borrowed or fetched

  module _ (to otherwise : ℕ) (after_rows : List (Option ℕ)) where
    -- the place after an instruction that has found no item, and after one that has found it
    abbrev place_without : Context → Place
    place_without context = InCall context otherwise (slice_set rows to None)

    abbrev place_with : Context → ℕ → ℕ → Place
    place_with context at item = InCall context (at + 1) (slice_set rows to (Some item))

    -- `borrow`, of a cell that the list doesn't have,
    pub borrows_outside : size ≤ cell → after_rows ≡ slice_set rows to None
        → Performs [] (instructions.Borrow to list index otherwise) Fault rows v after_rows mid
    borrows_outside high named = λ program place context at before.
        subst (λ (rs : List (Option ℕ)). MakesTrace 1 [] program place v (InCall context otherwise rs) mid) (sym named)
        (no_cell (instructions.Borrow to list index otherwise) program place context at before (place_without context)
        high refl)

    -- of an empty cell,
    pub borrows_none : (w : ℕ) (u : View) → cell < size → HasFound row cell w None mid u
        → after_rows ≡ slice_set rows to None
        → Performs [] (instructions.Borrow to list index otherwise) Fault rows v after_rows u
    borrows_none w u low found named = λ program place context at before.
        subst (λ (rs : List (Option ℕ)). MakesTrace 1 [] program place v (InCall context otherwise rs) u) (sym named)
        (finds_none (instructions.Borrow to list index otherwise) program place context at before
        (place_without context)
        w u (place_with context at) low found refl refl)

    -- and of one with an item.
    pub borrows_item : (w item : ℕ) (u : View) → cell < size → HasFound row cell w (Some item) mid u
        → after_rows ≡ slice_set rows to (Some item)
        → Performs [] (instructions.Borrow to list index otherwise) Success rows v after_rows u
    borrows_item w item u low found named = λ program place context at before.
        subst (λ (rs : List (Option ℕ)). MakesTrace 1 [] program place v (InCall context (at + 1) rs) u) (sym named)
        (finds_item (instructions.Borrow to list index otherwise) program place context at before
        (place_without context)
        w item u (place_with context at) low found refl refl)

    -- `fetch`, of a cell that the list doesn't have,
    pub fetches_outside : size ≤ cell → after_rows ≡ slice_set rows to None
        → Performs [] (instructions.Fetch to list index otherwise) Fault rows v after_rows mid
    fetches_outside high named = λ program place context at before.
        subst (λ (rs : List (Option ℕ)). MakesTrace 1 [] program place v (InCall context otherwise rs) mid) (sym named)
        (no_cell (instructions.Fetch to list index otherwise) program place context at before (place_without context)
        high refl)

    -- of an empty cell,
    pub fetches_none : (w : ℕ) (u : View) → cell < size → HasFound row cell w None mid u
        → after_rows ≡ slice_set rows to None
        → Performs [] (instructions.Fetch to list index otherwise) Fault rows v after_rows u
    fetches_none w u low found named = λ program place context at before.
        subst (λ (rs : List (Option ℕ)). MakesTrace 1 [] program place v (InCall context otherwise rs) u) (sym named)
        (finds_none (instructions.Fetch to list index otherwise) program place context at before (place_without context)
        w u (λ item. Inside context at rows (Found item)) low found refl refl)

    -- and of one with an item, which is retained.
    pub fetches_item : (w item local shared : ℕ) (seen u : View) → cell < size
        → HasFound row cell w (Some item) mid seen → u ≡ retained seen item local shared
        → after_rows ≡ slice_set rows to (Some item)
        → Performs [] (instructions.Fetch to list index otherwise) Success rows v after_rows u
    fetches_item w item local shared seen u low found is named = λ program place context at before.
        let i = instructions.Fetch to list index otherwise in
        let holds = λ (x : ℕ). Inside context at rows (Found x) in
        let last = place_with context at item in
        subst (λ (rs : List (Option ℕ)). MakesTrace 1 [] program place v (InCall context (at + 1) rs) u) (sym named)
        (traces_then program place (holds item) last [] [] [] v seen u
        (finds_item i program place context at before (place_without context) w item seen holds low found refl refl)
        (subst (MakesTrace 0 [] program (holds item) seen last) (sym is)
        (retains program (holds item) (always last) seen (ap (λ (x : View). x.actor.agenda) found.view_is
        ∙ no_duty mid.actor.head)
        item local shared (by_variable context to)
        (goes_on i program place context at rows before seen.layout seen.thread seen.actor.used (Found item)))))

  -- ---- items that are stored

  module _ (from otherwise : ℕ) where
    -- `set`, of a cell that the list doesn't have: the reference is given up all the same.
    pub sets_outside : {cs : List HostCall} (after_rows : List (Option ℕ)) (u : View) → size ≤ cell
        → GivesUp cs from rows mid after_rows u → Performs cs (instructions.Set list index from otherwise) Fault rows v
        after_rows u
    sets_outside {cs} after_rows u high gives = λ program place context at before.
        let i = instructions.Set list index from otherwise in
        let outside = Inside context at rows OutOfRange in
        let last = InCall context otherwise (slice_set rows from None) in
        subst (λ (rs : List (Option ℕ)). MakesTrace 1 cs program place v (InCall context otherwise rs) u) (sym
        gives.emptied)
        (traces_then program place outside last [] [] [] v mid u
        (no_cell i program place context at before outside high refl)
        (gives.makes program outside last (by_variable context from)
        (λ layout t used. goes_on i program place context at rows before layout t used OutOfRange)))

    -- At the stage the thread puts the variable's item into the cell.
    puts_in : {cs : List HostCall} (i : Instr) (stage : Stage) (holding : Holding) (item : ℕ) (program : Program)
        (place last : Place)
        (context : Context) (at : ℕ) → IsBefore i program place context at rows → row_of rows from ≡ Some item
        → ((layout : Layout) (t used : ℕ) → dispatch_inside layout t used context at rows stage (Some i)
        ≡ with_row (row_of rows list)
        (λ x. with_row (row_of rows from) (λ y. Does (CellSwap x index y holding) (Settle ∷ []) (always last))))
        → (held u : View) → MakesSwap cs row cell item held u
        → MakesTrace 0 cs program (Inside context at rows stage) held last u
    puts_in {cs} i stage holding item program place last context at before is does held u swap =
        let puts = λ (x y : ℕ). Does (CellSwap x index y holding) (Settle ∷ []) (always last) in
        subst (λ (n : ℕ). MakesSwap cs row n item held u) sized.same swap program (Inside context at rows stage) last
        holding
        (λ layout t used.
        goes_on_with i program place context at rows before layout t used stage list row
        (λ x. with_row (row_of rows from) (puts x)) (does layout t used) sized.names
        ∙ ap (λ (o : Option ℕ). with_row o (puts row)) is)

    -- `set`, of a cell that the list has.
    pub sets_item : {cs : List HostCall} (after_rows : List (Option ℕ)) (item : ℕ) (u : View) → cell < size
        → row_of rows from ≡ Some item → MakesSwap cs row cell item mid u → after_rows ≡ slice_set rows from None
        → Performs cs (instructions.Set list index from otherwise) Success rows v after_rows u
    sets_item {cs} after_rows item u low is swap emptied = λ program place context at before.
        let i = instructions.Set list index from otherwise in
        let last = InCall context (at + 1) (slice_set rows from None) in
        subst (λ (rs : List (Option ℕ)). MakesTrace 1 cs program place v (InCall context (at + 1) rs) u) (sym emptied)
        (traces_then program place (Inside context at rows InRange) last [] [] [] v mid u
        (has_cell i program place context at before (Inside context at rows OutOfRange) low refl)
        (puts_in i InRange (by_variable context from) item program place last context at before is
        (λ layout t used. refl)
        mid u
        swap))

    -- `put`, of a cell that the list doesn't have,
    pub puts_outside : size ≤ cell → Performs [] (instructions.Put list index from otherwise) Fault rows v rows mid
    puts_outside high = λ program place context at before.
        no_cell (instructions.Put list index from otherwise) program place context at before
        (InCall context otherwise rows) high refl

    -- and of one that it has. The new reference is in flight until it is in the cell.
    pub puts_item : {cs : List HostCall} (item local shared : ℕ) (held u : View) → cell < size
        → row_of rows from ≡ Some item
        → held ≡ retained mid item local shared → MakesSwap cs row cell item held u
        → Performs cs (instructions.Put list index from otherwise) Success rows v rows u
    puts_item item local shared held u low is holds swap = λ program place context at before.
        let i = instructions.Put list index from otherwise in
        let in_range = Inside context at rows InRange in
        let holding = Inside context at rows Retained in
        let last = InCall context (at + 1) rows in
        traces_then program place in_range last [] [] [] v mid u
        (has_cell i program place context at before (InCall context otherwise rows) low refl)
        (traces_then program in_range holding last [] [] [] mid held u
        (subst (MakesTrace 0 [] program in_range mid holding) (sym holds)
        (retains program in_range (always holding) mid idle item local shared InFlight
        (goes_on_with i program place context at rows before mid.layout mid.thread mid.actor.used InRange from item
        (λ y. Does (RetainLoad y InFlight) [] (always holding)) refl is)))
        (puts_in i Retained InFlight item program place last context at before is (λ layout t used. refl) held u swap))
