-- What a hand does that executes its first duties, one by one, while others come later: which duties are left, and what
-- stays as it was.
use Rattle.std.specs.Prelude.{◌≡◌, Bool, true, if◌then◌else◌, ℕ, List, ◌∷◌, Some}
use Rattle.brc_word.specs.Words.{free_word}
use Rattle.brc_model.specs.declared.duty.Duty.{Duty}
use Rattle.brc_model.specs.declared.duty.Duty.TheVariants.{TakeField}
use Rattle.brc_model.specs.Duties.{ready}
use Rattle.brc_table.specs.declared.view.View.{View}
use Rattle.brc_table.specs.KnownWords.{knows_kind, known_cell}
use Rattle.brc_table.specs.Views.{view_after}

-- What no such work changes. The hand has seen the kinds that it had seen, and of the cells of the list that it has
-- locked what it had seen. A call that changes more says which hand it is as if this one had been: `v` with other
-- references, say.
pub record Keeps (v u : View) : Type 0 where
  pub layout : u.layout ≡ v.layout
  pub thread : u.thread ≡ v.thread
  pub status : u.actor.status ≡ v.actor.status
  pub references : u.references ≡ v.references
  pub aside : u.actor.aside ≡ v.actor.aside
  pub used : u.actor.used ≡ v.actor.used
  pub locked : u.actor.locked ≡ v.actor.locked
  pub in_field : u.in_field ≡ v.in_field
  pub given : u.given ≡ v.given
  pub kinds : (x word : ℕ) → knows_kind x word v ≡ true → knows_kind x word u ≡ true
  pub cells : (x i : ℕ) → v.actor.locked ≡ Some x → known_cell x i u ≡ known_cell x i v

-- The first duty takes no resource out of a field.
abbrev pub TakesNothing : List Duty → Type 0
TakesNothing (TakeField x ∷ rest) = ⊥
TakesNothing _ = Unit {0}

-- The hand has done duty after duty, none of which takes a resource out of a field.
pub data Steps (v : View) : View → Type 0 where
  Refl : Steps v v
  Next : (u : View) (found : ℕ) → Steps v u → TakesNothing u.actor.agenda → Steps v (view_after u found)

-- The hand has done so, and these duties are left, but for those that need no step.
pub record HasStepped (v : View) (ds : List Duty) (u : View) : Type 0 where
  pub agenda : u.actor.agenda ≡ ready u.actor.head ds
  pub steps : Steps v u
  pub keeps : Keeps v u

-- If the object dies, the hand has chained it.
abbrev pub ended : Bool → View → View
ended dies v = if dies then view_after v free_word else v
