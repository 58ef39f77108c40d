-- The search for a path to a refusal.
use Rattle.std.specs.Prelude.{◌≡◌, ◌<◌, ◌≤◌, ◌-◌, ℕ, suc, List, [], ◌∷◌}
use Rattle.std.specs.Prelude.{◌++◌, length, replicate, None, Some, is_none, slice_get, slice_set, if◌then◌else◌}
use Rattle.std.specs.List.{slice_index_or}
use Rattle.brc_lang.specs.declared.module.Function.{Function}
use Rattle.brc_lang.specs.declared.module.Instr.{Instr}
use Rattle.brc_lang.specs.declared.check_code.CheckCode.{CheckCode}
use Rattle.brc_lang.specs.declared.check_code.CheckCode.TheVariants.{StatesDiffer}
use Rattle.brc_model.specs.declared.state.State.{State}
use Rattle.brc_model.specs.declared.state.Exit.{Exit}
use Rattle.brc_model.specs.declared.state.Exit.TheVariants.{Success}
use Rattle.brc_model.specs.SlotStates.{entry_of}
use Rattle.brc_model.specs.Paths.{PathEnd, At, Ended, Reports, follow}
use Rattle.brc_check.specs.declared.visits.Visit.{Visit}
use Rattle.brc_check.specs.declared.visits.Visits.{Visits}

-- the visit of the entry of a function that begins in this state
abbrev pub first_visit : State → Visit
first_visit entry = record { at = 0; state = entry; before = 0; exit = Success }

-- the visits of a search through this many instructions at first
abbrev pub first_visits : State → ℕ → Visits
first_visits entry count = record { list = first_visit entry ∷ []; firsts = Some 0 ∷ replicate (count - 1) None }

-- one visit more
abbrev pub added : Visits → Visit → Visits
added visits v = record {
  list = visits.list ++ v ∷ [];
  firsts =
      if is_none (slice_index_or visits.firsts v.at None)
      then slice_set visits.firsts v.at (Some (length visits.list)) else visits.firsts;
}

-- the visit is to the point in the state
pub record IsVisit (v : Visit) (at : ℕ) (s : State) : Type 0 where
  pub same_point : v.at ≡ at
  pub same_state : v.state ≡ s

-- a visit is to the point in the state
pub record IsVisited (list : List Visit) (at : ℕ) (s : State) : Type 0 where
  pub number : ℕ
  pub visit : Visit
  pub listed : slice_get list number ≡ Some visit
  pub is : IsVisit visit at s

-- each point's first visit is known
pub record AreFirsts (visits : Visits) : Type 0 where
  pub known : (at number : ℕ) → slice_get visits.firsts at ≡ Some (Some number)
      → (v : Visit) × (slice_get visits.list number ≡ Some v) × (v.at ≡ at)
  pub unknown : (at number : ℕ) (v : Visit) → slice_get visits.firsts at ≡ Some None
      → slice_get visits.list number ≡ Some v → v.at ≡ at → ⊥

-- no visit is to the point, or a second state there isn't what is wanted
abbrev pub IsUnrivalled : List Visit → ℕ → CheckCode → ℕ → Type 0
IsUnrivalled list at reported point =
    reported ≡ StatesDiffer → point ≡ at → (s : State) → IsVisited list point s → ⊥

-- the visit is to the point, and a second state there is what is wanted
pub record IsRival (list : List Visit) (at : ℕ) (reported : CheckCode) (point number : ℕ) : Type 0 where
  pub differ : reported ≡ StatesDiffer
  pub same_point : point ≡ at
  pub within : number < length list
  pub visit : Visit
  pub listed : slice_get list number ≡ Some visit
  pub there : visit.at ≡ point

-- each visit but the first comes after another one
abbrev pub IsChained : List Visit → Type 0
IsChained list = (number : ℕ) (v : Visit) → slice_get list (suc number) ≡ Some v → v.before ≤ number

-- the exit of the visit leads to it from the visit before
pub record IsLinked (code : List Instr) (list : List Visit) (v : Visit) : Type 0 where
  pub from : Visit
  pub listed : slice_get list v.before ≡ Some from
  pub leads : follow code (At from.at from.state) v.exit ≡ At v.at v.state

-- the first visit is that of the function's entry, and the exits of the others lead to them
pub record AreLinked (f : Function) (list : List Visit) : Type 0 where
  pub begins : slice_get list 0 ≡ Some (first_visit (entry_of f.parameters))
  pub linked : (number : ℕ) (v : Visit) → slice_get list (suc number) ≡ Some v → IsLinked f.code list v

-- ---- what the search has gone past

-- the path end is visited, or ends the call, or isn't what the search is for
abbrev pub IsPassed : List Visit → ℕ → CheckCode → PathEnd → Type 0
IsPassed list at reported (At next s) = IsVisited list next s
IsPassed list at reported Ended = Unit {0}
IsPassed list at reported (Reports point code) = point ≡ at → code ≡ reported → ⊥

-- both exits of the first visits, as many as there were turns, are passed, and nothing that is wanted is found
pub record IsSearchedTo (f : Function) (at : ℕ) (reported : CheckCode) (visits : Visits) (turns : ℕ) : Type 0 where
  pub same_length : length visits.firsts ≡ length f.code
  pub within : (number : ℕ) (v : Visit) → slice_get visits.list number ≡ Some v → v.at < length f.code
  pub firsts : AreFirsts visits
  pub chained : IsChained visits.list
  pub linked : AreLinked f visits.list
  pub alike : reported ≡ StatesDiffer → (s t : State) → IsVisited visits.list at s → IsVisited visits.list at t → s ≡ t
  pub passed : (turn : ℕ) (v : Visit) (exit : Exit) → turn < turns → slice_get visits.list turn ≡ Some v
      → IsPassed visits.list at reported (follow f.code (At v.at v.state) exit)

-- one exit of the visit of this turn is passed too, and every visit is kept
pub record HasPassed (f : Function) (at : ℕ) (reported : CheckCode) (old new : Visits) (turn : ℕ)
    (exit : Exit) : Type 0 where
  pub searched : IsSearchedTo f at reported new turn
  pub kept : (number : ℕ) (v : Visit) → slice_get old.list number ≡ Some v → slice_get new.list number ≡ Some v
  pub passed : (v : Visit) → slice_get old.list turn ≡ Some v
      → IsPassed new.list at reported (follow f.code (At v.at v.state) exit)
