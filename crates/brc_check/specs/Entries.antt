-- The states of one function's points compared with the steps of its paths.
use Rattle.std.specs.Prelude.{◌≡◌, ◌≢◌, ◌⊎◌, ℕ, List, Option, Some}
use Rattle.brc_lang.specs.declared.module.Function.{Function}
use Rattle.brc_lang.specs.declared.module.Instr.{Instr}
use Rattle.brc_lang.specs.declared.check_code.CheckCode.{CheckCode}
use Rattle.brc_lang.specs.declared.check_code.CheckCode.TheVariants.{StatesDiffer}
use Rattle.brc_model.specs.declared.state.State.{State}
use Rattle.brc_model.specs.declared.state.Exit.{Exit}
use Rattle.brc_model.specs.SlotStates.{entry_of}
use Rattle.brc_model.specs.Paths.{PathEnd, At, Ended, Reports, follow}
use Rattle.brc_check.specs.declared.step.Step.{Step}
use Rattle.brc_check.specs.declared.step.Step.TheVariants.{To, Ends, Error}
use Rattle.brc_check.specs.declared.step.StepEnd.{StepEnd}
use Rattle.brc_check.specs.declared.step.StepEnd.TheVariants.{To as ToPoint, Ends as CallEnds, Error as Code}

-- the end of the step from a point
abbrev pub end_of : ℕ → Step → PathEnd
end_of at (To next s) = At next s
end_of at Ends = Ended
end_of at (Error code) = Reports at code

-- the same where the state is apart
abbrev pub end_in : ℕ → StepEnd → State → PathEnd
end_in at (ToPoint next) s = At next s
end_in at CallEnds s = Ended
end_in at (Code code) s = Reports at code

-- the path ends at a point that has its state, or ends the call
abbrev pub StaysOn : (ℕ → Option State) → PathEnd → Type 0
StaysOn states (At at s) = states at ≡ Some s
StaysOn states Ended = Unit {0}
StaysOn states (Reports at code) = ⊥

-- from the state of the point each exit leads to the state of its target
abbrev pub IsClosedAt : List Instr → (ℕ → Option State) → ℕ → Type 0
IsClosedAt code states at = (s : State) (exit : Exit) → states at ≡ Some s → StaysOn states (follow code (At at s) exit)

-- the first point has the state in which the function begins, and each point is closed
pub record IsClosed (f : Function) (states : ℕ → Option State) : Type 0 where
  pub begins : states 0 ≡ Some (entry_of f.parameters)
  pub goes_on : (at : ℕ) → IsClosedAt f.code states at

-- ---- what breaks it

-- the instruction at the point reports the code in the point's state
pub record ReportsFrom (code : List Instr) (states : ℕ → Option State) (at : ℕ) (reported : CheckCode) : Type 0 where
  pub state : State
  pub exit : Exit
  pub is_given : states at ≡ Some state
  pub reports : follow code (At at state) exit ≡ Reports at reported

-- an exit of a point leads to another in a state that isn't the one there
pub record DiffersFrom (code : List Instr) (states : ℕ → Option State) (at : ℕ) : Type 0 where
  pub before : ℕ
  pub state : State
  pub exit : Exit
  pub arriving : State
  pub is_given : states before ≡ Some state
  pub leads : follow code (At before state) exit ≡ At at arriving
  pub apart : states at ≢ Some arriving

-- the first point hasn't the state in which the function begins
abbrev pub DiffersAtEntry : Function → (ℕ → Option State) → ℕ → Type 0
DiffersAtEntry f states at = (at ≡ 0) × (states 0 ≢ Some (entry_of f.parameters))

-- the code with which the states are refused at a point
abbrev pub IsErrorAt : Function → (ℕ → Option State) → ℕ → CheckCode → Type 0
IsErrorAt f states at reported =
    ReportsFrom f.code states at reported
    ⊎ ((reported ≡ StatesDiffer) × (DiffersFrom f.code states at ⊎ DiffersAtEntry f states at))

-- ---- one end of a path

-- the code that keeps a path end from agreeing with the states, and its point
abbrev pub IsBlocked : (ℕ → Option State) → PathEnd → ℕ → CheckCode → Type 0
IsBlocked states (At next s) at reported = (next ≡ at) × (reported ≡ StatesDiffer) × (states next ≢ Some s)
IsBlocked states Ended at reported = ⊥
IsBlocked states (Reports point code) at reported = (point ≡ at) × (code ≡ reported)
