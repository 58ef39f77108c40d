-- Where the field of each row is: at home in the table, with the resource of the row's object if it has one, or with
-- the one hand that has taken it.
use Rattle.std.specs.Prelude.{◌≡◌, ℕ, ◌<◌, ◌≤◌, ◌==◌, Option, None, Some, List, [], ◌∷◌, length, count_by}
use mathlib.Core.Option as home
use lib.ListN.{get_elem?}
use Rattle.brc_model.specs.declared.address.Address.TheVariants.{Field}
use Rattle.brc_model.specs.Layout.{row_count}
use Rattle.brc_model.specs.Machine.{Machine}
use Rattle.brc_model.specs.FieldLaws.{UsesField}
use Rattle.brc_table.specs.Plan.{Plan}
use Rattle.brc_table.specs.declared.view.View.{View}
use Rattle.brc_table.specs.Views.{main_view}
use Rattle.brc_table.specs.Opening.{AreFirst}
use Rattle.brc_table.specs.Rule.{Stands}

-- ---- fields

-- how many resources a field holds
abbrev pub resources : {T : Type 0} → Option T → ℕ
resources None = 0
resources (Some r) = 1

-- the rows whose fields a hand has, and what these hold
abbrev pub rows_of : {T : Type 0} → List (ℕ × Option T) → List ℕ
rows_of [] = []
rows_of (p ∷ ps) = p.0 ∷ rows_of ps

abbrev pub held_in : {T : Type 0} → List (ℕ × Option T) → List (ℕ × ℕ)
held_in [] = []
held_in (p ∷ ps) = (p.0, resources p.1) ∷ held_in ps

-- how often the row is one of these
abbrev pub times_in : ℕ → List ℕ → ℕ
times_in x rows = count_by (λ y. y == x) rows

-- how often the hand has taken the row's field
abbrev pub times_taken : ℕ → View → ℕ
times_taken x v = times_in x v.taken

-- No hand has taken the row's field.
abbrev pub IsHome : List View → ℕ → Type 0
IsHome views x = (id : ℕ) (v : View) → get_elem? views id ≡ home.some v → times_taken x v ≡ 0

-- ---- the rule

-- The row's field is at home, and holds as many resources as the counting machine says.
pub record HoldsHome {T : Type 0} (m : Machine) (homes : List (home.Option (Option T))) (x : ℕ) : Type 0 where
  pub field : Option T
  pub there : get_elem? homes x ≡ home.some (home.some field)
  pub holds : resources field ≡ m.memory (Field x)

-- What holds of all fields, between any two steps.
pub record FieldsStand {T : Type 0} (m : Machine) (homes : List (home.Option (Option T))) (views : List View)
    : Type 0 where
  pub rows : length homes ≡ row_count m.layout
  -- a field that no hand has taken is at home
  pub at_home : (x : ℕ) → x < row_count m.layout → IsHome views x → HoldsHome m homes x
  -- a hand has taken a field once, and alone, and uses it
  pub once : (id x : ℕ) (v : View) → get_elem? views id ≡ home.some v → times_taken x v ≤ 1
  pub alone : (id other x : ℕ) (v w : View) → get_elem? views id ≡ home.some v → get_elem? views other ≡ home.some w
      → 1 ≤ times_taken x v → 1 ≤ times_taken x w → id ≡ other
  pub used : (id x : ℕ) (v : View) → get_elem? views id ≡ home.some v → 1 ≤ times_taken x v → UsesField v.actor x
  -- a hand that has locked an object has its field, and knows what this held
  pub locked : (id x : ℕ) (v : View) → get_elem? views id ≡ home.some v → v.actor.locked ≡ Some x
      → (1 ≤ times_taken x v) × (m.memory (Field x) ≡ v.in_field)

-- The whole rule: what holds of words and views, and of fields. As long as main's hand is the only one, and has made no
-- step, the words are the first words of a table of this plan.
pub record TableStands {T : Type 0} (plan : Plan) (words : List ℕ) (homes : List (home.Option (Option T)))
    (views : List View)
    : Type 0 where
  pub stands : Stands plan words views
  pub fields : FieldsStand stands.machine homes views
  pub first : views ≡ main_view plan.layout ∷ [] → AreFirst plan.lines plan.layout words

-- While the hand with this view is the table's only one, the words are those of the table before any step: main runs,
-- the workers aren't started, the root's cells are empty, and those of each immortal list name the numbers of its line,
-- in order. `T` is the type of the table's resources.
abbrev pub HoldsFirstWords : Type 0 → Plan → View → Type 0
HoldsFirstWords T plan v =
    (words : List ℕ) (homes : List (home.Option (Option T))) → TableStands plan words homes (v ∷ [])
    → AreFirst plan.lines plan.layout words
