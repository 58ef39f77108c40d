-- Entries looked up: where a point's entry is among those kept, which is the nearest before a point, and whether the
-- state in which a path reaches a point is that of the point's entry.
use Rattle.std.specs.Prelude.{◌≡◌, ◌≢◌, ◌<◌, ◌≤◌, ℕ, List, Option, None, Some, slice_get, slice_set}
use Rattle.std.specs.List.{slice_index_or}
use Rattle.brc_lang.specs.declared.module.Instr.{Instr}
use Rattle.brc_lang.specs.declared.check_code.CheckCode.{CheckCode}
use Rattle.brc_lang.specs.declared.check_code.CheckCode.TheVariants.{StatesDiffer}
use Rattle.brc_lang.specs.Limits.{instruction_limit}
use Rattle.brc_model.specs.declared.state.State.{State}
use Rattle.brc_model.specs.declared.state.Exit.TheVariants.{Success, Fault}
use Rattle.brc_model.specs.SlotStates.{after, target}
use Rattle.brc_model.specs.Paths.{PathEnd, At, Ended, Reports}
use Rattle.brc_check.specs.declared.kept_entry.KeptEntry.{KeptEntry}
use Rattle.brc_check.specs.Tables.{kept_at, kept_or, state_at, with_state}

-- the number is that of the point's entry, or the point isn't kept
abbrev pub IsNumberOf : List KeptEntry → ℕ → Option ℕ → Type 0
IsNumberOf kept at None = kept_at kept at ≡ None
IsNumberOf kept at (Some number) =
    (e : KeptEntry) × (slice_get kept number ≡ Some e) × (kept_at kept at ≡ Some e)

-- for each number that a point may have, the number of its entry
abbrev pub AreNumbers : List KeptEntry → List (Option ℕ) → Type 0
AreNumbers kept numbers = (at : ℕ) → at < instruction_limit → IsNumberOf kept at (slice_index_or numbers at None)

-- to give the point another state is to replace the entry of this number
abbrev pub IsReplacedAt : List KeptEntry → ℕ → ℕ → Type 0
IsReplacedAt kept at number =
    (s : Option State) → with_state kept at s ≡ slice_set kept number (record { at = at; state = s })

-- it is the entry of the last kept point up to this one, if there is one
abbrev pub IsNearest : List KeptEntry → ℕ → Option KeptEntry → Type 0
IsNearest kept at None = (point : ℕ) → point ≤ at → kept_at kept point ≡ None
IsNearest kept at (Some e) =
    (e.at ≤ at) × (kept_at kept e.at ≡ Some e) × ((point : ℕ) → e.at < point → point ≤ at → kept_at kept point ≡ None)

-- ---- a path that reaches a point

-- both exits of the instruction lead to the same point in the same state
abbrev pub HasOneExit : Instr → Type 0
HasOneExit i = (at : ℕ) (s : State) → (target i Fault at ≡ target i Success at) × (after i Fault s ≡ after i Success s)

-- the state that a point has, if this is what the point before passes on to it
abbrev pub HasState : List Instr → List KeptEntry → ℕ → Option State → Type 0
HasState code kept at arriving = kept_or (kept_at kept at) arriving ≡ state_at code kept at

abbrev pub LeadsWithin : ℕ → PathEnd → Type 0
LeadsWithin count (At next s) = next < count
LeadsWithin count Ended = Unit {0}
LeadsWithin count (Reports at code) = Unit {0}

-- the path reaches a point that isn't kept, or a kept one in the state of its entry, or ends the call
abbrev pub MeetsKept : List KeptEntry → PathEnd → Type 0
MeetsKept kept (At next s) = kept_or (kept_at kept next) (Some s) ≡ Some s
MeetsKept kept Ended = Unit {0}
MeetsKept kept (Reports at code) = ⊥

-- the code that keeps a path end from that, and its point
abbrev pub IsBlockedKept : List KeptEntry → PathEnd → ℕ → CheckCode → Type 0
IsBlockedKept kept (At next s) at reported =
    (next ≡ at) × (reported ≡ StatesDiffer) × (kept_or (kept_at kept next) (Some s) ≢ Some s)
IsBlockedKept kept Ended at reported = ⊥
IsBlockedKept kept (Reports point code) at reported = (point ≡ at) × (code ≡ reported)
