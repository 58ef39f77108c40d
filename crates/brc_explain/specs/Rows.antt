-- The rows of an explanation: those of a listing, one for each instruction of a function, and those of a path, one for
-- each of its steps.
use Rattle.std.specs.Prelude.{◌≡◌, ℕ, zero, suc, ◌==◌, Bool, false, List, [], ◌∷◌, ◌++◌, length, Option, None, Some}
use Rattle.std.specs.Prelude.{codes, Contains, take, slice_get, slice_index_or}
use Rattle.brc_lang.specs.declared.check_code.CheckCode.{CheckCode}
use Rattle.brc_lang.specs.declared.module.Function.{Function}
use Rattle.brc_lang.specs.declared.module.Instr.{Instr}
use Rattle.brc_lang.specs.declared.module.Instr.TheVariants.{Goto, Again}
use Rattle.brc_lang.specs.Grammar.{jump}
use Rattle.brc_model.specs.declared.state.Slot.{Slot}
use Rattle.brc_model.specs.declared.state.Slot.TheVariants.{Empty, Owned, Caller, Locked}
use Rattle.brc_model.specs.declared.state.State.{State}
use Rattle.brc_model.specs.declared.state.Exit.{Exit}
use Rattle.brc_model.specs.declared.state.Exit.TheVariants.{Success, Fault as FaultExit}
use Rattle.brc_model.specs.Paths.{PathEnd, At, Ended, Reports, follow, path_end}
use Rattle.brc_check.specs.declared.path.Path.{Path}
use Rattle.brc_check.specs.declared.path.Path.TheVariants as paths
use Rattle.brc_check.specs.declared.refused.Refused.{Refused}
use Rattle.brc_check.specs.Filling.{entry_at, AreReached}
use Rattle.brc_check.specs.PathTo.{IsPathTo}
use Rattle.brc_explain.specs.declared.rows.Row.{Row}
use Rattle.brc_explain.specs.declared.rows.StepRow.{StepRow}
use Rattle.brc_explain.specs.declared.rows.StepRows.{StepRows}
use Rattle.brc_explain.specs.declared.rows.StepRows.TheVariants.{One, Two}
use Rattle.brc_explain.specs.declared.rows.Way.{Way}
use Rattle.brc_explain.specs.declared.rows.Way.TheVariants.{Onward, Otherwise, Back}

-- ---- a listing

-- the point is the one at fault
abbrev pub is_point : Option ℕ → ℕ → Bool
is_point None at = false
is_point (Some point) at = point == at

-- the row of the instruction at a point: the state before it, and whether it is at fault
abbrev pub row : List (Option State) → Option ℕ → ℕ → Row
row entries fault at = record { at = at; before = entry_at entries at; is_marked = is_point fault at }

-- the rows of the first instructions, in order
abbrev pub first_rows : List (Option State) → Option ℕ → ℕ → List Row
first_rows entries fault zero = []
first_rows entries fault (suc count) = first_rows entries fault count ++ row entries fault count ∷ []

-- A row for each instruction, with the state in which some path reaches it. The mark is at the point at fault alone.
pub record IsListing (f : Function) (fault : Option ℕ) (rows : List Row) : Type 0 where
  pub entries : List (Option State)
  pub reached : AreReached f entries
  pub listed : rows ≡ first_rows entries fault (length f.code)

-- ---- a path

-- which way it leads to end an instruction by the fault exit, if that has a target of its own
abbrev pub other_way : Option ℕ → Way
other_way None = Onward
other_way (Some target) = Otherwise

-- which way the exit of the instruction leads: on, to its other target, or back
abbrev pub way_of : Instr → Exit → Way
way_of i Success = Onward
way_of (Goto to) FaultExit = Onward
way_of (Again to times) FaultExit = Back
way_of i FaultExit = other_way (jump i)

-- the word of a way
abbrev pub way_word : Way → List ℕ
way_word Onward = codes "ok"
way_word Otherwise = codes "else"
way_word Back = codes "back"

-- the state in which a path ends at a point
abbrev pub state_of : PathEnd → Option State
state_of (At at s) = Some s
state_of Ended = None
state_of (Reports at reported) = None

-- the code that a path reports
abbrev pub reported_by : PathEnd → Option CheckCode
reported_by (At at s) = None
reported_by Ended = None
reported_by (Reports at reported) = Some reported

-- the row of the step from a point, if there is an instruction, to this end
abbrev pub step_row : ℕ → Option Instr → Exit → PathEnd → List StepRow
step_row at None exit end = []
step_row at (Some i) exit end =
    record { at = at; way = way_of i exit; after = state_of end; reported = reported_by end } ∷ []

-- the row of the step by the exit from where a path stands, if it hasn't ended
abbrev pub step_rows : List Instr → PathEnd → Exit → List StepRow
step_rows code (At at s) exit = step_row at (slice_get code at) exit (follow code (At at s) exit)
step_rows code Ended exit = []
step_rows code (Reports at reported) exit = []

-- the rows of the path's first steps, in order
abbrev pub first_steps : Function → List Exit → ℕ → List StepRow
first_steps f exits zero = []
first_steps f exits (suc count) =
    first_steps f exits count
    ++ step_rows f.code (path_end f (take count exits)) (slice_index_or exits count Success)

-- a row for each step of the path that takes these exits
abbrev pub path_rows : Function → List Exit → List StepRow
path_rows f exits = first_steps f exits (length exits)

-- the rows of the one path that reports a code, or of the two that differ
abbrev pub AreRowsOf : Function → Path → StepRows → Type 0
AreRowsOf f (paths.Reports exits) (One rows) = rows ≡ path_rows f exits
AreRowsOf f (paths.Differ exits others) (Two rows more) =
    (rows ≡ path_rows f exits) × (more ≡ path_rows f others)
AreRowsOf f path rows = ⊥

-- ---- a refusal

-- the function is one of these, and has the name
abbrev pub IsNamed : List Function → List ℕ → Function → Type 0
IsNamed functions name f = Contains functions f × (f.name ≡ name)

abbrev pub NoneNamed : List Function → List ℕ → Type 0
NoneNamed functions name = (f : Function) → IsNamed functions name f → ⊥

-- What is shown of a refusal: the function at fault, its listing with a mark at the point at fault, and the steps of a
-- path that leads to the fault, or of the two paths that differ there.
pub record ShowsRefusal (functions : List Function) (r : Refused) (function : Function) (listing : List Row)
    (path : Path) (steps : StepRows) : Type 0 where
  pub named : IsNamed functions r.function function
  pub listed : IsListing function (Some r.at) listing
  pub leads : IsPathTo functions r path
  pub walked : AreRowsOf function path steps

-- The steps are those of a path that leads to the refusal in its function, or of the two paths that differ there.
pub record LeadToRefusal (functions : List Function) (r : Refused) (steps : StepRows) : Type 0 where
  pub function : Function
  pub path : Path
  pub named : IsNamed functions r.function function
  pub leads : IsPathTo functions r path
  pub walked : AreRowsOf function path steps

-- ---- a variable

-- whether a variable's reference is its own, in a word
abbrev pub holding_word : Slot → List ℕ
holding_word Empty = []
holding_word (Owned kind) = codes "owned "
holding_word (Caller kind) = codes "borrowed "
holding_word (Locked kind) = codes "borrowed "
