-- The entries of a function, filled in as paths find its points.
use Rattle.std.specs.Prelude.{◌≡◌, ◌<◌, ◌-◌, ℕ, List, [], ◌∷◌, ◌++◌, length, map}
use Rattle.std.specs.Prelude.{replicate, Option, None, Some, is_none, is_some, slice_get, slice_set, if◌then◌else◌}
use Rattle.std.specs.List.{count_by, slice_index_or}
use Rattle.brc_lang.specs.declared.module.Function.{Function}
use Rattle.brc_lang.specs.declared.module.Instr.{Instr}
use Rattle.brc_model.specs.declared.state.State.{State}
use Rattle.brc_model.specs.SlotStates.{entry_of}
use Rattle.brc_model.specs.Paths.{PathEnd, At, Ended, Reports, IsAcceptableFunction}
use Rattle.brc_model.specs.Tables.{Reaches, IsTrueEntry}
use Rattle.brc_check.specs.declared.filling.Filling.{Filling}
use Rattle.brc_check.specs.declared.kept_entry.KeptEntry.{KeptEntry}
use Rattle.brc_check.specs.Entries.{IsClosedAt}
use Rattle.brc_check.specs.Tables.{kept_points, point_of, state_at}

-- the entry of a point, or none past the last point
abbrev pub entry_at : List (Option State) → ℕ → Option State
entry_at entries at = slice_index_or entries at None

-- what is known of a function of this many instructions at first: its first point is found, in the state in which the
-- function begins
abbrev pub first_filling : State → ℕ → Filling
first_filling entry count = record { entries = Some entry ∷ replicate (count - 1) None; order = 0 ∷ [] }

-- the state becomes the entry of a point that has none: the point is found
abbrev pub settled : Filling → ℕ → State → Filling
settled filling at s =
    if is_none (entry_at filling.entries at)
    then record { entries = slice_set filling.entries at (Some s); order = filling.order ++ at ∷ [] }
    else filling

abbrev pub settled_at : Filling → PathEnd → Filling
settled_at filling (At at s) = settled filling at s
settled_at filling Ended = filling
settled_at filling (Reports at code) = filling

-- the points found are those that have an entry, and none is found twice
pub record IsInOrder (filling : Filling) : Type 0 where
  pub found : (k : ℕ) (s : State) → entry_at filling.entries k ≡ Some s
      → (turn : ℕ) × (slice_get filling.order turn ≡ Some k)
  pub known : (turn k : ℕ) → slice_get filling.order turn ≡ Some k
      → (s : State) × (entry_at filling.entries k ≡ Some s)
  pub once : length filling.order ≡ count_by is_some filling.entries

-- the point was found at this turn, and has this entry
pub record IsFoundAt (filling : Filling) (turn at : ℕ) (s : State) : Type 0 where
  pub found : slice_get filling.order turn ≡ Some at
  pub known : entry_at filling.entries at ≡ Some s

-- each entry is the state in which some path reaches the point, and the points of the first turns are closed
pub record IsFilledTo (f : Function) (filling : Filling) (turns : ℕ) : Type 0 where
  pub same_length : length filling.entries ≡ length f.code
  pub begins : entry_at filling.entries 0 ≡ Some (entry_of f.parameters)
  pub reached : (k : ℕ) (s : State) → entry_at filling.entries k ≡ Some s → Reaches f k s
  pub in_order : IsInOrder filling
  pub closed : (turn k : ℕ) → turn < turns → slice_get filling.order turn ≡ Some k
      → IsClosedAt f.code (entry_at filling.entries) k

-- each entry is the state in which some path reaches the point, and the first point has one
pub record AreReached (f : Function) (entries : List (Option State)) : Type 0 where
  pub same_length : length entries ≡ length f.code
  pub begins : entry_at entries 0 ≡ Some (entry_of f.parameters)
  pub reached : (at : ℕ) (s : State) → entry_at entries at ≡ Some s → Reaches f at s

-- each entry is a state exactly if some path reaches the point in that state
abbrev pub AreTrue : Function → List (Option State) → Type 0
AreTrue f entries = (at : ℕ) → IsTrueEntry f at (entry_at entries at)

-- the entries are true, and the function is acceptable
pub record IsFilled (f : Function) (entries : List (Option State)) : Type 0 where
  pub same_length : length entries ≡ length f.code
  pub truth : AreTrue f entries
  pub acceptable : IsAcceptableFunction f

-- ---- what a table keeps of them

abbrev pub entry_from : List (Option State) → ℕ → KeptEntry
entry_from entries at = record { at = at; state = entry_at entries at }

-- the entries of the kept points
abbrev pub kept_entries : List Instr → List (Option State) → List KeptEntry
kept_entries code entries = map (entry_from entries) (kept_points code)

-- the entries are those of the kept points, the states that they give are true, and the function is acceptable
pub record IsInferred (f : Function) (kept : List KeptEntry) : Type 0 where
  pub points : map point_of kept ≡ kept_points f.code
  pub truth : (at : ℕ) → IsTrueEntry f at (state_at f.code kept at)
  pub acceptable : IsAcceptableFunction f
