-- The paths that lead to a refusal.
use Rattle.std.specs.Prelude.{◌≡◌, ◌≢◌, ℕ, List, Contains}
use Rattle.brc_lang.specs.declared.module.Function.{Function}
use Rattle.brc_lang.specs.declared.check_code.CheckCode.{CheckCode}
use Rattle.brc_lang.specs.declared.check_code.CheckCode.TheVariants.{StatesDiffer}
use Rattle.brc_model.specs.declared.state.State.{State}
use Rattle.brc_model.specs.declared.state.Exit.{Exit}
use Rattle.brc_model.specs.Paths as paths
use Rattle.brc_check.specs.declared.path.Path.{Path}
use Rattle.brc_check.specs.declared.path.Path.TheVariants.{Reports, Differ}
use Rattle.brc_check.specs.declared.refused.Refused.{Refused}

-- the two paths reach the point in different states
pub record PathsDiffer (f : Function) (exits others : List Exit) (at : ℕ) : Type 0 where
  pub one : State
  pub other : State
  pub first : paths.path_end f exits ≡ paths.At at one
  pub second : paths.path_end f others ≡ paths.At at other
  pub apart : one ≢ other

-- the path reports the code at the point, or the two paths reach the point in different states
abbrev pub LeadsTo : Function → ℕ → CheckCode → Path → Type 0
LeadsTo f at reported (Reports exits) = paths.path_end f exits ≡ paths.Reports at reported
LeadsTo f at reported (Differ exits others) = (reported ≡ StatesDiffer) × PathsDiffer f exits others at

-- in a function of the refusal's name, the path leads to what is refused
pub record IsPathTo (functions : List Function) (r : Refused) (path : Path) : Type 0 where
  pub function : Function
  pub listed : Contains functions function
  pub named : function.name ≡ r.function
  pub leads : LeadsTo function r.at r.code path
