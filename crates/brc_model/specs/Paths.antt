-- Paths through a function, and what the checker accepts: a function in which no path reports an error, and any two
-- paths to one point reach it in equal states.
use Rattle.std.specs.Prelude.{◌≡◌, ℕ, nat_lt, if◌then◌else◌, List, length, Option, None, Some, slice_get, fold}
use Rattle.std.specs.List.{AllByRecursion}
use Rattle.brc_lang.specs.declared.module.Instr.{Instr}
use Rattle.brc_lang.specs.declared.module.Function.{Function}
use Rattle.brc_lang.specs.declared.module.Module.{Module}
use Rattle.brc_lang.specs.declared.check_code.CheckCode.{CheckCode}
use Rattle.brc_lang.specs.declared.check_code.CheckCode.TheVariants.{RunsOff}
use Rattle.brc_model.specs.declared.state.State.{State}
use Rattle.brc_model.specs.declared.state.Exit.{Exit}
use Rattle.brc_model.specs.SlotStates.{lowest, after, target, entry_of}

-- the end of a path: a point in a state, the end of the call, or an error code that applies at a point
pub data PathEnd : Type 0 where
  At : ℕ → State → PathEnd
  Ended : PathEnd
  Reports : ℕ → CheckCode → PathEnd

-- the path goes on to the next point, ends, or runs off past the last instruction
abbrev pub arrives : List Instr → ℕ → Option ℕ → State → PathEnd
arrives code at None s = Ended
arrives code at (Some next) s = if nat_lt next (length code) then At next s else Reports at RunsOff

-- the path reports the code at the point, if there is one
abbrev pub unless_reported : ℕ → Option CheckCode → PathEnd → PathEnd
unless_reported at None place = place
unless_reported at (Some code) place = Reports at code

-- the path takes one instruction, by one of its exits
abbrev pub passes : List Instr → ℕ → Option Instr → Exit → State → PathEnd
passes code at None exit s = Reports at RunsOff
passes code at (Some i) exit s = unless_reported at (lowest i s) (arrives code at (target i exit at) (after i exit s))

-- the path goes on by one exit; a path that has ended, or has reported a code, stays where it is
abbrev pub follow : List Instr → PathEnd → Exit → PathEnd
follow code (At at s) exit = passes code at (slice_get code at) exit s
follow code Ended exit = Ended
follow code (Reports at c) exit = Reports at c

-- the end of the path that takes these exits, one after another, from the function's entry
abbrev pub path_end : Function → List Exit → PathEnd
path_end f exits = fold (follow f.code) (At 0 (entry_of f.parameters)) exits

-- some path reports the code at the point
pub record ReportsCode (f : Function) (at : ℕ) (reported : CheckCode) : Type 0 where
  pub exits : List Exit
  pub reports : path_end f exits ≡ Reports at reported

-- no path reports an error, and any two paths to one point reach it in equal states
pub record IsAcceptableFunction (f : Function) : Type 0 where
  pub reports_none : (at : ℕ) (reported : CheckCode) → ReportsCode f at reported → ⊥
  pub states_agree : (exits others : List Exit) (at : ℕ) (s t : State) → path_end f exits ≡ At at s
      → path_end f others ≡ At at t → s ≡ t

abbrev pub IsAcceptable : Module → Type 0
IsAcceptable m = AllByRecursion IsAcceptableFunction m.functions
