-- The meaning of a refusal.
use Rattle.std.specs.Prelude.{◌≡◌, ◌⊎◌, ℕ, List, Contains, Some, slice_get}
use Rattle.brc_lang.specs.declared.module.Function.{Function}
use Rattle.brc_lang.specs.declared.check_code.CheckCode.{CheckCode}
use Rattle.brc_lang.specs.declared.check_code.CheckCode.TheVariants.{StatesDiffer, NoMemory}
use Rattle.brc_model.specs.Paths.{ReportsCode}
use Rattle.brc_model.specs.Tables.{StatesDifferAt}
use Rattle.brc_check.specs.declared.kept_entry.KeptEntry.{KeptEntry}
use Rattle.brc_check.specs.declared.refused.Refused.{Refused}
use Rattle.brc_check.specs.Entries.{IsErrorAt}
use Rattle.brc_check.specs.Tables.{HasShape, entries_of, state_at}

-- a path reports the code at the point, or two paths reach the point in different states
abbrev pub IsReported : Function → ℕ → CheckCode → Type 0
IsReported f at reported = ReportsCode f at reported ⊎ ((reported ≡ StatesDiffer) × StatesDifferAt f at)

-- it names a function, and what is reported in that function
pub record IsRefusedFor (functions : List Function) (r : Refused) : Type 0 where
  pub function : Function
  pub listed : Contains functions function
  pub named : function.name ≡ r.function
  pub reported : IsReported function r.at r.code

abbrev pub IsForMemory : Refused → Type 0
IsForMemory r = r.code ≡ NoMemory

-- memory was refused, or a code is reported
abbrev pub IsRefusal : List Function → Refused → Type 0
IsRefusal functions r = IsForMemory r ⊎ IsRefusedFor functions r

-- ---- tables

-- it names the first function and its first point
pub record IsShapeError (functions : List Function) (table : List (List KeptEntry)) (r : Refused) : Type 0 where
  pub other_shape : HasShape functions table → ⊥
  pub first : Function
  pub listed : slice_get functions 0 ≡ Some first
  pub named : first.name ≡ r.function
  pub begins : r.at ≡ 0
  pub code : r.code ≡ StatesDiffer

-- the shape is right; it names a function, and the error in the states of its points
pub record IsFunctionError (functions : List Function) (table : List (List KeptEntry)) (r : Refused) : Type 0 where
  pub shape : HasShape functions table
  pub number : ℕ
  pub function : Function
  pub listed : slice_get functions number ≡ Some function
  pub named : function.name ≡ r.function
  pub error : IsErrorAt function (state_at function.code (entries_of table number)) r.at r.code

abbrev pub IsTableError : List Function → List (List KeptEntry) → Refused → Type 0
IsTableError functions table r = IsShapeError functions table r ⊎ IsFunctionError functions table r
