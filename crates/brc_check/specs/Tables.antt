-- Tables. A table keeps the entries of the points where paths meet; the instructions between make the other states.
use Rattle.std.specs.Prelude.{◌≡◌, ◌==◌, ℕ, zero, suc, ◌+◌, Bool, false, ◌||◌, if◌then◌else◌, List, [], ◌∷◌, length}
use Rattle.std.specs.Prelude.{map}
use Rattle.std.specs.Prelude.{Option, None, Some, slice_get, filter, find}
use Rattle.std.specs.List.{slice_index_or, list_any, range_with_len}
use Rattle.brc_lang.specs.declared.module.Instr.{Instr}
use Rattle.brc_lang.specs.declared.module.Function.{Function}
use Rattle.brc_lang.specs.declared.module.Module.{Module}
use Rattle.brc_lang.specs.Grammar.{jump, turn}
use Rattle.brc_model.specs.declared.state.State.{State}
use Rattle.brc_model.specs.declared.state.Exit.TheVariants.{Success}
use Rattle.brc_model.specs.Paths.{PathEnd, At, Ended, Reports, follow}
use Rattle.brc_model.specs.Tables.{AreTrueStates, AreTrueWhereReached}
use Rattle.brc_check.specs.declared.kept_entry.KeptEntry.{KeptEntry}

-- ---- the points that are kept

-- whether the target, if there is one, is the point
abbrev pub is_target : ℕ → Option ℕ → Bool
is_target point None = false
is_target point (Some target) = target == point

-- an `else`, a `goto` or an `again` leads to the point
abbrev pub leads_to : ℕ → Instr → Bool
leads_to point i = is_target point (jump i) || is_target point (turn i)

-- the point is the function's first, or the target of some instruction
abbrev pub is_kept : List Instr → ℕ → Bool
is_kept code point = point == 0 || list_any (leads_to point) code

-- the points of the function that are kept, by rising number
abbrev pub kept_points : List Instr → List ℕ
kept_points code = filter (is_kept code) (range_with_len 0 (length code))

-- ---- the entries that are kept

-- the entries that a table keeps of a function
abbrev pub entries_of : List (List KeptEntry) → ℕ → List KeptEntry
entries_of table function = slice_index_or table function []

abbrev pub point_of : KeptEntry → ℕ
point_of e = e.at

abbrev pub is_of : ℕ → KeptEntry → Bool
is_of point e = e.at == point

-- the entry of the point, if it is kept
abbrev pub kept_at : List KeptEntry → ℕ → Option KeptEntry
kept_at kept point = find (is_of point) kept

-- the entries after that of one point has another state
abbrev pub with_state : List KeptEntry → ℕ → Option State → List KeptEntry
with_state [] point state = []
with_state (e ∷ es) point state =
    if e.at == point then record { at = point; state = state } ∷ es else e ∷ with_state es point state

-- the table keeps the first point and the targets of each function, and no other point
pub record HasShape (functions : List Function) (table : List (List KeptEntry)) : Type 0 where
  pub lists : length table ≡ length functions
  pub points : (number : ℕ) (f : Function) → slice_get functions number ≡ Some f
      → map point_of (entries_of table number) ≡ kept_points f.code

-- ---- the states of all points

-- the state in which the path is at the point, if it is there
abbrev pub state_there : ℕ → PathEnd → Option State
state_there point (At next s) = if next == point then Some s else None
state_there point Ended = None
state_there point (Reports at code) = None

-- the state in which the success exit of a point, from its state, leads to the next point
abbrev pub passed : List Instr → ℕ → Option State → Option State
passed code at None = None
passed code at (Some s) = state_there (at + 1) (follow code (At at s) Success)

-- the state of the point's entry, or the other one if the point isn't kept
abbrev pub kept_or : Option KeptEntry → Option State → Option State
kept_or None other = other
kept_or (Some e) other = e.state

-- The state of a point: that of its entry if it is kept; else what the point before passes on to it.
abbrev pub state_at : List Instr → List KeptEntry → ℕ → Option State
state_at code kept zero = kept_or (kept_at kept 0) None
state_at code kept (suc at) = kept_or (kept_at kept (suc at)) (passed code at (state_at code kept at))

abbrev pub states_in : Option Function → List KeptEntry → ℕ → Option State
states_in None kept at = None
states_in (Some f) kept at = state_at f.code kept at

-- the states that a table gives the points of a module's functions
abbrev pub states_of : Module → List (List KeptEntry) → ℕ → ℕ → Option State
states_of m table function at = states_in (slice_get m.functions function) (entries_of table function) at

-- ---- true tables

-- each state that the table gives is true
pub record IsTrueTable (m : Module) (table : List (List KeptEntry)) : Type 0 where
  pub shape : HasShape m.functions table
  pub states : AreTrueStates m (states_of m table)

-- the table gives each point that a path reaches the path's state
pub record IsTrueWhereReached (m : Module) (table : List (List KeptEntry)) : Type 0 where
  pub shape : HasShape m.functions table
  pub states : AreTrueWhereReached m (states_of m table)
