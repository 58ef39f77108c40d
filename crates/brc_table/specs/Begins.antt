-- Changes of a hand's view at which no word changes: taking work up, and turning to other work.
use Rattle.std.specs.Prelude.{◌≡◌, ◌⊎◌, ℕ, Option, List, Some, slice_set}
use mathlib.Core.Option.{some}
use lib.ListN.{get_elem?}
use Rattle.brc_model.specs.declared.address.Address.TheVariants.{Field}
use Rattle.brc_model.specs.Machine.{Machine}
use Rattle.brc_model.specs.FieldLaws.{UsesField}
use Rattle.brc_table.specs.Plan.{Plan}
use Rattle.brc_table.specs.declared.view.View.{View}
use Rattle.brc_table.specs.Views.{with_work}
use Rattle.brc_table.specs.Rule.{Stands}
use Rattle.brc_table.specs.Homes.{times_in}

-- The rule holds with these words and views, and no field changes but those that the hand has taken for a birth or a
-- deallocation.
pub record Passes (plan : Plan) (words : List ℕ) (views : List View) (taken : List ℕ) (locked : Option ℕ)
    (before : Machine)
    : Type 0 where
  pub stands : Stands plan words views
  pub fields : (x : ℕ) → (times_in x taken ≡ 0) ⊎ (locked ≡ Some x)
      → stands.machine.memory (Field x) ≡ before.memory (Field x)

-- The hand is as before, but for its work, its references and what it knows of the field of its lock.
abbrev pub KeepsButWork : View → View → Type 0
KeepsButWork v u =
    u ≡ record (with_work v u.actor.agenda u.actor.aside) { references = u.references; in_field = u.in_field }

-- In each table that meets the rule, a hand with the one view may have the other. It has the fields that it had, and
-- uses each that it used.
pub record Becomes (plan : Plan) (v u : View) : Type 0 where
  pub passes : (words : List ℕ) (views : List View) (id : ℕ) (stands : Stands plan words views)
      → get_elem? views id ≡ some v → Passes plan words (slice_set views id u) v.taken v.actor.locked stands.machine
  pub same : KeepsButWork v u
  pub in_field : (x : ℕ) → v.actor.locked ≡ Some x → u.in_field ≡ v.in_field
  pub uses : (x : ℕ) → UsesField v.actor x → UsesField u.actor x
