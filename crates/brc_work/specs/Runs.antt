-- A worker's run, by a hand that may begin a number of instructions. The hand makes all its calls, or it stops where it
-- has begun as many and an instruction or a call is left to begin.
use Rattle.std.specs.Prelude.{◌≡◌, ℕ, ◌+◌, ◌<◌, ◌≤◌, Bool, true, false, List, ◌∷◌, ◌++◌, Option, Some, replicate}
use Rattle.brc_host.specs.HostCalls.{HostCall}
use Rattle.brc_lang.specs.declared.module.Function.{Function}
use Rattle.brc_lang.specs.declared.module.Instr.{Instr}
use Rattle.brc_lang.specs.declared.module.Instr.TheVariants.{Ret, Fail}
use Rattle.brc_model.specs.declared.actor.Context.{Context}
use Rattle.brc_model.specs.declared.actor.Place.{Place}
use Rattle.brc_model.specs.declared.actor.Place.TheVariants.{Idle, InCall}
use Rattle.brc_model.specs.declared.state.State.{State}
use Rattle.brc_model.specs.Stops.{row_locked, owned_rows, stopping}
use Rattle.brc_model.specs.Tables.{Reaches}
use Rattle.brc_model.specs.Threads.{number_under, row_of}
use Rattle.brc_table.specs.declared.view.View.{View}
use Rattle.brc_queue.specs.Scans.{HasScanned, words_used}
use Rattle.brc_work.specs.declared.end.End.{End}
use Rattle.brc_work.specs.declared.end.End.TheVariants.{Returned, Failed, Stopped}
use Rattle.brc_work.specs.Performs.{DispatchesAt, IsBefore}
use Rattle.brc_work.specs.Stopping.{GivesUpTo, OuterGiveUp}
use Rattle.brc_work.specs.Traces.{Program, function_under, MakesTrace, MakesCalls}

-- ---- where a call begins, and where a hand stops

-- A thread in a call: its place, the call's context and variables, and how many instructions its hand may begin from
-- here on.
pub record Configuration : Type 0 where
  pub place : Place
  pub context : Context
  pub variables : List (Option ℕ)
  pub may : ℕ

-- The thread is about to run a call of the function of this number. If its hand may begin no instruction, it is inside
-- the call.
pub record IsAboutTo (program : Program) (number : ℕ) (c : Configuration) : Type 0 where
  pub comes : DispatchesAt program c.place c.context 0 c.variables
  pub calls : number_under program.first c.context.outer ≡ number
  pub turns : c.context.turns ≡ replicate 256 0
  pub inside : c.may ≡ 0 → c.place ≡ InCall c.context 0 c.variables

-- A point at which a hand stops: before an instruction of the innermost call, in a state in which paths reach it.
pub record StopPoint (program : Program) : Type 0 where
  pub context : Context
  pub at : ℕ
  pub variables : List (Option ℕ)
  pub state : State
  pub reaches : Reaches (function_under program context.outer) at state

-- the place of a thread that is there
abbrev pub place_of : {program : Program} → StopPoint program → Place
place_of point = InCall point.context point.at point.variables

-- The place of a thread that has stopped there. It unlocks what is locked in that state, and gives up what the
-- variables own in it; then what these calls own, the innermost first.
abbrev pub stopping_at : {program : Program} → StopPoint program → List (List (Option ℕ)) → Place
stopping_at point outer =
    stopping (row_locked point.state.locked point.variables) (owned_rows point.state.slots point.variables ∷ outer)

-- ---- one call, whichever function makes it

-- The call that began in the configuration has come to the instruction, which ends it: the next one to begin.
pub record ComesTo (i : Instr) (program : Program) (c : Configuration) (begun : ℕ) (calls : List HostCall) (v : View)
    (variables : List (Option ℕ)) (u : View) : Type 0 where
  pub there : Place
  pub turns : List ℕ
  pub at : ℕ
  pub comes : IsBefore i program there
      (record { left = c.context.left; turns = turns; outer = c.context.outer }) at variables
  pub makes : MakesTrace begun calls program c.place v there u

-- In the call that began in the configuration, or in one that it has made, the hand has begun as many instructions as
-- it might, and has stopped. It has given up what the innermost call owns, and what each call around that one owns, out
-- to this one. What the calls further out own is left, whatever that is, and the hand hasn't settled.
pub record StopsWithin (program : Program) (c : Configuration) (calls : List HostCall) (v u : View) : Type 0 where
  pub point : StopPoint program
  -- the hand there
  pub there : View
  pub comes : MakesTrace c.may calls program c.place v (place_of point) there
  -- what the calls own that are open around the innermost, out to this one
  pub between : List (List (Option ℕ))
  pub owes : (further : List (List (Option ℕ))) → OuterGiveUp program c.context.outer further
      → OuterGiveUp program point.context.outer (between ++ further)
  pub gives_up : (further : List (List (Option ℕ))) → GivesUpTo program (stopping_at point (between ++ further)) there
      further u

-- The hand's thread has run the call up to its end, and its hand may begin `left` instructions after it. The one that
-- ends the call has begun too.
abbrev pub RunsTo : Program → Configuration → ℕ → End → List HostCall → View → View → Type 0
RunsTo program c left (Returned row) calls v u =
    (begun from : ℕ) × (variables : List (Option ℕ)) × (begun + 1 + left ≡ c.may)
    × (row_of variables from ≡ Some row) × ComesTo (Ret from) program c begun calls v variables u
RunsTo program c left Failed calls v u =
    (begun : ℕ) × (variables : List (Option ℕ)) × (begun + 1 + left ≡ c.may)
    × ComesTo Fail program c begun calls v variables u
RunsTo program c left Stopped calls v u = StopsWithin program c calls v u

-- The hand has run a call of the function of this number that begins with these variables, and in which it might begin
-- `may` instructions, wherever its thread makes it.
abbrev pub Runs : List Function → ℕ → List (Option ℕ) → ℕ → ℕ → End → List HostCall → View → View → Type 0
Runs functions number rows may left end calls v u = (first : ℕ) (place : Place) (context : Context)
    → let program : Program = record { functions = functions; first = first } in
    let c : Configuration = record { place = place; context = context; variables = rows; may = may } in
    IsAboutTo program number c → RunsTo program c left end calls v u

-- ---- an outermost call

-- The hand has begun a call of the program's function, and has stopped in it after it has begun this many instructions.
-- It has done all that its thread does that stops there, has settled, and is at the end of its calls.
pub record StopsInCall (program : Program) (begun : ℕ) (calls : List HostCall) (v u : View) : Type 0 where
  pub some : 0 < begun
  pub point : StopPoint program
  -- what the calls own that are open around the innermost
  pub further : List (List (Option ℕ))
  pub owes : OuterGiveUp program point.context.outer further
  -- the hand there
  pub there : View
  pub before : List HostCall
  pub closes : List HostCall
  pub calls_are : calls ≡ before ++ closes
  pub comes : MakesTrace begun before program (Idle 1) v (place_of point) there
  pub gives_up : MakesTrace 0 closes program (stopping_at point further) there (Idle 0) u

-- A call by a hand that may begin `may` instructions, and `left` after the call. It has ended, or the hand has stopped
-- in it.
abbrev pub CallsOnce : Program → ℕ → ℕ → Bool → List HostCall → View → View → Type 0
CallsOnce program may left true calls v u =
    (begun : ℕ) × (begun + left ≡ may) × MakesTrace begun calls program (Idle 1) v (Idle 0) u
CallsOnce program may left false calls v u = StopsInCall program may calls v u

-- The same of a call before which the hand has looked through its queue.
pub record LooksAndCalls (program : Program) (may left : ℕ) (ended : Bool) (calls : List HostCall) (v u : View)
    : Type 0 where
  pub looked : View
  pub closes : List HostCall
  pub within : List HostCall
  pub calls_are : calls ≡ closes ++ within
  pub looks : HasScanned v (words_used v.actor.used) closes looked
  pub called : CallsOnce program may left ended within looked u

-- ---- a run

-- The hand, which may begin this many instructions, has stopped with fewer calls made than it was to make.
pub data StopsBy (program : Program) (times steps : ℕ) (v : View) : List HostCall → View → Type 0 where
  -- between two calls, or before the first: it hasn't looked through its queue for the next one
  Between : (made : ℕ) (calls : List HostCall) (u : View) → made < times → MakesCalls program v made steps calls u
      → StopsBy program times steps v calls u
  -- in a call
  Within : (made begun more : ℕ) (calls closes within : List HostCall) (u w x : View) → made < times
      → MakesCalls program v made begun calls u → HasScanned u (words_used u.actor.used) closes w
      → begun + more ≡ steps → StopsInCall program more within w x
      → StopsBy program times steps v (calls ++ (closes ++ within)) x

-- What the hand has made in a run, with these calls of the host. It was to make `times` calls of the program's
-- function, and may begin `steps` instructions in all of them together. It has made all, or has stopped.
abbrev pub RanBy : Program → ℕ → ℕ → Bool → List HostCall → View → View → Type 0
RanBy program times steps true calls v u = (begun : ℕ) × (begun ≤ steps) × MakesCalls program v times begun calls u
RanBy program times steps false calls v u = StopsBy program times steps v calls u
