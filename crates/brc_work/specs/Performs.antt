-- What each part of a worker's call adds to the trace of its hand, wherever in a program it is.
use Rattle.std.specs.Prelude.{◌≡◌, false, ℕ, ◌+◌, ◌<◌, ◌≤◌, List, [], ◌∷◌, Option, None, Some, slice_get, slice_set}
use Rattle.brc_lang.specs.Limits.{instruction_limit}
use Rattle.brc_lang.specs.declared.module.Instr.{Instr}
use Rattle.brc_lang.specs.declared.module.Instr.TheVariants as instructions
use Rattle.brc_lang.specs.declared.module.Instr.TheVariants.{Again}
use Rattle.brc_host.specs.HostCalls.{HostCall}
use Rattle.brc_host.specs.HostCalls as asked
use Rattle.brc_model.specs.declared.actor.Context.{Context}
use Rattle.brc_model.specs.declared.actor.OpenCall.{OpenCall}
use Rattle.brc_model.specs.declared.actor.Place.{Place}
use Rattle.brc_model.specs.declared.actor.Place.TheVariants.{Idle, InCall, Inside}
use Rattle.brc_model.specs.declared.actor.Stage.TheVariants.{Granted}
use Rattle.brc_model.specs.declared.duty.Duty.TheVariants.{ReleaseLoad, BirthKind, CellSwap, Settle}
use Rattle.brc_model.specs.declared.duty.Holding.{Holding}
use Rattle.brc_model.specs.declared.layout.Layout.{Layout}
use Rattle.brc_model.specs.declared.state.Exit.{Exit}
use Rattle.brc_model.specs.Actions.{Does, always, with_row, number_word, dispatch_instruction}
use Rattle.brc_model.specs.SlotStates.{target}
use Rattle.brc_model.specs.Threads.{row_of}
use Rattle.brc_table.specs.declared.view.View.{View}
use Rattle.brc_table.specs.Views.{next_row}
use Rattle.brc_work.specs.Traces.{Program, function_under, dispatch_in, Traces, MakesTrace, instruction_at, has_read, begun_at}

-- ---- places

-- A thread at the place begins the instruction at the point next, in this context and variables.
pub record DispatchesAt (program : Program) (place : Place) (context : Context) (at : ℕ) (rows : List (Option ℕ))
    : Type 0
  where
    pub does : (layout : Layout) (t used : ℕ) → dispatch_in layout t used program place
        ≡ dispatch_instruction layout t used place context at rows
        (slice_get (function_under program context.outer).code at)
    pub names : instruction_at program place ≡ slice_get (function_under program context.outer).code at
    pub begins : has_read program place ≡ false
    pub begun : begun_at place ≡ 1

-- The instruction at the point is this one.
pub record IsBefore (i : Instr) (program : Program) (place : Place) (context : Context) (at : ℕ)
    (rows : List (Option ℕ))
    : Type 0 where
  pub comes : DispatchesAt program place context at rows
  pub found : slice_get (function_under program context.outer).code at ≡ Some i
  pub low : at < instruction_limit

-- The place after an instruction that leads to the next point, or ends an outermost call.
abbrev pub place_after : Context → Option ℕ → List (Option ℕ) → Place
place_after context None rows = Idle context.left
place_after context (Some next) rows = InCall context next rows

-- ---- instructions

-- The hand has made the events of the instruction, with these calls of the host, and has gone on by this exit. No other
-- instruction has begun.
abbrev pub Performs : List HostCall → Instr → Exit → List (Option ℕ) → View → List (Option ℕ) → View → Type 0
Performs calls i exit rows v after_rows u = (program : Program) (place : Place) (context : Context) (at : ℕ)
    → IsBefore i program place context at rows
    → MakesTrace 1 calls program place v (place_after context (target i exit at) after_rows) u

-- The same at this point, where the instruction may count how often it has gone back.
abbrev pub PerformsAt : List HostCall → ℕ → Instr → Exit → List ℕ → List (Option ℕ) → View → List ℕ → List (Option ℕ)
    → View → Type 0
PerformsAt calls at i exit turns rows v after_turns after_rows u = (program : Program) (place : Place) (left : ℕ)
    (outer : List OpenCall)
    → IsBefore i program place (record { left = left; turns = turns; outer = outer }) at rows
    → MakesTrace 1 calls program place v
    (place_after (record { left = left; turns = after_turns; outer = outer }) (target i exit at) after_rows) u

-- The instruction `again` at the point makes no event. It counts in the turns if it has gone back.
abbrev pub CountsTurn : ℕ → ℕ → Exit → List ℕ → List ℕ → Type 0
CountsTurn at times exit turns after_turns = (to : ℕ) (rows : List (Option ℕ)) (v : View)
    → PerformsAt [] at (Again to times) exit turns rows v after_turns rows v

-- The hand has tried to do the instruction, which hasn't begun: the thread is where it was.
abbrev pub Waits : Instr → List (Option ℕ) → View → View → Type 0
Waits i rows v u = (program : Program) (place : Place) (context : Context) (at : ℕ)
    → IsBefore i program place context at rows → MakesTrace 0 [] program place v place u

-- The hand has made the events of the instruction at the point, which leads to the next point of the same call.
abbrev pub StepsTo : List HostCall → Instr → ℕ → List ℕ → List (Option ℕ) → View → ℕ → List ℕ → List (Option ℕ)
    → View → Type 0
StepsTo calls i at turns rows v next after_turns after_rows u = (program : Program) (place : Place) (left : ℕ)
    (outer : List OpenCall)
    → IsBefore i program place (record { left = left; turns = turns; outer = outer }) at rows
    → MakesTrace 1 calls program place v
    (InCall (record { left = left; turns = after_turns; outer = outer }) next after_rows) u

-- ---- parts of instructions

-- The hand has given up a reference to the row's object, and settled. So does its thread, whether an instruction begins
-- with it or it is what comes next.
pub record MakesRelease (calls : List HostCall) (row : ℕ) (v u : View) : Type 0 where
  pub first : (program : Program) (place next : Place) (holding : Holding)
      → ((layout : Layout) (t used : ℕ) → dispatch_in layout t used program place
      ≡ Does (ReleaseLoad row holding) (Settle ∷ []) (always next))
      → MakesTrace (begun_at place) calls program place v next u
  pub next : (program : Program) (place : Place) (holding : Holding)
      → Traces 0 calls program place (ReleaseLoad row holding ∷ Settle ∷ []) v place [] u

-- Where a thread gives up the variable's reference and settles, the hand has done so.
pub record GivesUp (calls : List HostCall) (from : ℕ) (rows : List (Option ℕ)) (v : View)
    (after_rows : List (Option ℕ)) (u : View) : Type 0 where
  pub emptied : after_rows ≡ slice_set rows from None
  pub makes : (program : Program) (place next : Place) (holding : Holding)
      → ((layout : Layout) (t used : ℕ) → dispatch_in layout t used program place
      ≡ with_row (row_of rows from) (λ row. Does (ReleaseLoad row holding) (Settle ∷ []) (always next)))
      → MakesTrace (begun_at place) calls program place v next u

-- Where a thread puts the item into the cell and settles, the hand has done so.
abbrev pub MakesSwap : List HostCall → ℕ → ℕ → ℕ → View → View → Type 0
MakesSwap calls row cell item v u = (program : Program) (place next : Place) (holding : Holding)
    → ((layout : Layout) (t used : ℕ) → dispatch_in layout t used program place
    ≡ Does (CellSwap row cell item holding) (Settle ∷ []) (always next))
    → MakesTrace (begun_at place) calls program place v next u

-- The variable names the object that the hand has given birth to. Where a thread makes an object with this kind word,
-- or the number of what the host has just said that it has read, the hand has done so.
pub record MakesBirth (to word : ℕ) (rows : List (Option ℕ)) (v : View) (after_rows : List (Option ℕ)) (u : View)
    : Type 0 where
  pub named : after_rows ≡ slice_set rows to (Some (next_row v))
  pub first : (program : Program) (place next : Place) (holding : Holding)
      → dispatch_in v.layout v.thread v.actor.used program place ≡ Does (BirthKind (next_row v) holding word) []
      (always next)
      → has_read program place ≡ false → MakesTrace (begun_at place) [] program place v next u
  pub read : (program : Program) (place : Place) (context : Context) (at file most otherwise count : ℕ)
      → slice_get (function_under program context.outer).code at ≡ Some (instructions.Read to file most otherwise)
      → count ≤ most → word ≡ number_word count
      → MakesTrace 1 (asked.Read most (Some count) ∷ []) program place v (Inside context at rows Granted) v
      → MakesTrace 1 (asked.Read most (Some count) ∷ []) program place v (InCall context (at + 1) after_rows) u
