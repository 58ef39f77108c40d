-- Outlines, their paths, and when a function of a module has exactly these.
use Rattle.std.specs.Prelude.{◌≡◌, ◌⊎◌, ℕ, List, Option, None, Some, slice_get}
use Rattle.std.specs.List.{fold}
use Rattle.brc_lang.specs.declared.module.Function.{Function}
use Rattle.brc_lang.specs.declared.module.Module.{Module}
use Rattle.brc_lang.specs.declared.check_code.CheckCode.{CheckCode}
use Rattle.brc_model.specs.declared.state.State.{State}
use Rattle.brc_model.specs.declared.state.Exit.{Exit}
use Rattle.brc_model.specs.SlotStates.{entry_of}
use Rattle.brc_model.specs.Paths.{PathEnd, At, Ended, Reports, follow}
use Rattle.brc_c_outline.specs.declared.outline.Broken.{Broken}
use Rattle.brc_c_outline.specs.declared.outline.Outline.{Outline}
use Rattle.brc_c_outline.specs.declared.outline.Point.{Point}
use Rattle.brc_c_outline.specs.declared.walks.Label.{Label}
use Rattle.brc_c_outline.specs.declared.places.Place.{Place}
use Rattle.brc_c_outline.specs.declared.places.Place.TheVariants as places

abbrev pub end_of : Place → PathEnd
end_of (places.At at s) = At at s
end_of places.Ended = Ended
end_of (places.Reports at code) = Reports at code

-- ---- the paths of an outline

abbrev pub point_at : Outline → ℕ → Option Point
point_at o p = slice_get o.points.items p

-- the point to which a choice leads from this one
abbrev pub goes_from : Option Point → ℕ → Option ℕ
goes_from None choice = None
goes_from (Some point) choice = slice_get point.ways.items choice

abbrev pub goes : Outline → Option ℕ → ℕ → Option ℕ
goes o None choice = None
goes o (Some p) choice = goes_from (point_at o p) choice

-- the point to which choices lead, one after another, from the first one
abbrev pub led_to : Outline → List ℕ → Option ℕ
led_to o choices = fold (goes o) (Some 0) choices

abbrev pub broken_in : Option Point → Option Broken
broken_in None = None
broken_in (Some point) = point.broken

-- it is this rule, and this instruction reports it
abbrev pub IsThat : Option Broken → ℕ → CheckCode → Type 0
IsThat None at code = ⊥
IsThat (Some broken) at code = (broken.at ≡ at) × (broken.code ≡ code)

-- the point breaks a rule, which this instruction reports
abbrev pub Breaks : Outline → ℕ → ℕ → CheckCode → Type 0
Breaks o p at code = IsThat (broken_in (point_at o p)) at code

-- a path leads to a point that breaks this rule, which this instruction reports
pub record IsBroken (o : Outline) (at : ℕ) (code : CheckCode) : Type 0 where
  pub choices : List ℕ
  pub p : ℕ
  pub leads : led_to o choices ≡ Some p
  pub breaks : Breaks o p at code

-- no path leads to a point that breaks a rule
abbrev pub IsUnbroken : Outline → Type 0
IsUnbroken o = (at : ℕ) (code : CheckCode) → IsBroken o at code → ⊥

-- ---- what a function of a module shows

abbrev pub walk : Function → Point → List Exit → PathEnd
walk f point exits = fold (follow f.code) (At point.start point.state) exits

-- the place is the first instruction of the point, in its state
abbrev pub IsStartOf : Option Point → PathEnd → Type 0
IsStartOf None end = ⊥
IsStartOf (Some point) end = end ≡ At point.start point.state

-- by these exits the module goes from the point to another one
abbrev pub GoesBy : Function → Outline → Point → ℕ → List Exit → Type 0
GoesBy f o point to exits = IsStartOf (point_at o to) (walk f point exits)

-- by these exits the module goes from the point to the report of what is broken there
abbrev pub ReportsBy : Function → Point → Broken → List Exit → Type 0
ReportsBy f point broken exits = walk f point exits ≡ Reports broken.at broken.code

abbrev pub HasWay : Function → Outline → Point → ℕ → Type 0
HasWay f o point to = (exits : List Exit) × GoesBy f o point to exits

abbrev pub ShowsBroken : Function → Point → Option Broken → Type 0
ShowsBroken f point None = Unit {0}
ShowsBroken f point (Some broken) = (exits : List Exit) × ReportsBy f point broken exits

-- the module has each way of the point, and reports what is broken there
pub record ShowsPoint (f : Function) (o : Outline) (point : Point) : Type 0 where
  pub ways : (choice to : ℕ) → slice_get point.ways.items choice ≡ Some to → HasWay f o point to
  pub broken : ShowsBroken f point point.broken

-- ---- to which points the instructions belong

abbrev pub Labels : Type 0
Labels = List (Option Label)

abbrev pub label_in : Option (Option Label) → Option Label
label_in None = None
label_in (Some label) = label

-- the label of an instruction
abbrev pub label_at : Labels → ℕ → Option Label
label_at l at = label_in (slice_get l at)

-- the point is this one, or a choice leads to it
abbrev pub IsWithin : Outline → ℕ → ℕ → Type 0
IsWithin o p q = (q ≡ p) ⊎ ((choice : ℕ) × (goes o (Some p) choice ≡ Some q))

-- from an instruction of the point the module goes on within it, or along one of its ways, ends the call, or reports
-- what is broken there
abbrev pub StaysIn : Outline → Labels → ℕ → PathEnd → Type 0
StaysIn o l p (At at s) = (q : ℕ) × (label_at l at ≡ Some (record { point = q; state = s })) × IsWithin o p q
StaysIn o l p Ended = Unit {0}
StaysIn o l p (Reports at code) = Breaks o p at code

abbrev pub IsClosed : Function → Outline → Labels → ℕ → Option Label → Type 0
IsClosed f o l at None = Unit {0}
IsClosed f o l at (Some label) = (exit : Exit) → StaysIn o l label.point (follow f.code (At at label.state) exit)

-- the first point begins the function
pub record Begins (f : Function) (o : Outline) (l : Labels) : Type 0 where
  pub starts : IsStartOf (point_at o 0) (At 0 (entry_of f.parameters))
  pub labelled : label_at l 0 ≡ Some (record { point = 0; state = entry_of f.parameters })

-- the function of a module has exactly the paths of the outline
pub record IsImage (f : Function) (o : Outline) : Type 0 where
  pub labels : Labels
  pub begins : Begins f o labels
  pub shows : (p : ℕ) (point : Point) → point_at o p ≡ Some point → ShowsPoint f o point
  pub closed : (at : ℕ) → IsClosed f o labels at (label_at labels at)

-- a function of the module has exactly the paths of the outline
pub record Shows (m : Module) (o : Outline) : Type 0 where
  pub number : ℕ
  pub function : Function
  pub listed : slice_get m.functions number ≡ Some function
  pub image : IsImage function o
