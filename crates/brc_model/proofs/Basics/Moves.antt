-- A step moves references to its duty's object, and those that go into a list's cell or out of it. A lemma about all
-- moves of a step matches on the sort of move.
use Rattle.std.proofs.Common.{◌≡◌, ℕ, zero, suc, Bool, true, false, cond, List, [], ◌∷◌, Some, refl, sym, ◌∙◌}
use Rattle.std.specs.Prelude.{◌==◌, ◌&&◌}
use Rattle.std.proofs.lemmas.Bool.{eq-eqb, false≢true}
use Rattle.std.specs.List.{AllByRecursion}
use Rattle.brc_word.specs.Words.{is_immortal_word}
use Rattle.brc_model.specs.Kinds.{kind_of_word}
use Rattle.brc_lang.specs.declared.kind.Kind.{Kind}
use Rattle.brc_model.specs.AbstractState.{AbstractState, Move, Born, Gain, Lose, PassOn, Finalise, move, moved, ByThread, ByCell}
use Rattle.brc_model.specs.declared.duty.Holding.{Holding}
use Rattle.brc_model.specs.declared.duty.Holding.TheVariants.{ByVariable, AsCaller, InFlight}
use Rattle.brc_model.specs.declared.duty.Reason.TheVariants.{Own}
use Rattle.brc_model.specs.declared.duty.Duty.{Duty}
use Rattle.brc_model.specs.declared.duty.Duty.TheVariants.{RetainLoad, RetainStore, RetainAdd, ReleaseLoad, ReleaseStore, SharedExchange, SettleCell, SettleEnd, BirthLocal, CellSwap}
use Rattle.brc_model.specs.declared.address.Address.{Address}
use Rattle.brc_model.specs.declared.address.Address.TheVariants.{KindOf}
use Rattle.brc_model.specs.Moves.{reference_effects}
use Rattle.brc_model.specs.Machine.{ended_row, born_row}
use Rattle.brc_model.specs.References.{reference_of, cell_reference}
use Rattle.brc_model.specs.OpenWork.{is_about}

-- ---- the sorts of moves

-- The duty is about the row.
abbrev IsOf : ℕ → Duty → Type 0
IsOf x d = (y : ℕ) → is_about y d ≡ (x == y)

-- Says whether the duty may change the row's cell.
abbrev pub changes_cell : ℕ → ℕ → Duty → Bool
changes_cell x i (SettleCell y j n) = (y == x) && (j == i)
changes_cell x i (CellSwap y j z h) = (y == x) && (j == i)
changes_cell x i _ = false

pub data MoveOf (t found : ℕ) (d : Duty) : Move → Type 0 where
  Gains : (x : ℕ) (h : Holding) → IsOf x d → MoveOf t found d (Gain (reference_of t h x))
  PutsInFlight : (x : ℕ) (h : Holding) → IsOf x d → MoveOf t found d (PassOn (reference_of t h x) (ByThread t InFlight))
  Loses : (x : ℕ) → IsOf x d → MoveOf t found d (Lose (reference_of t InFlight x))
  PutsIn : (x i y : ℕ) (h : Holding) → changes_cell x i d ≡ true
      → MoveOf t found d (PassOn (reference_of t h y) (ByCell x i))
  TakesOut : (x i y : ℕ) → changes_cell x i d ≡ true
      → MoveOf t found d (PassOn (cell_reference x i y) (ByThread t InFlight))
  Finalises : (x : ℕ) → IsOf x d → ended_row d ≡ Some x → MoveOf t found d (Finalise x)
  Bears : (x : ℕ) (h : Holding) (kind : Kind) → IsOf x d → born_row d ≡ Some x
      → MoveOf t found d (Born (reference_of t h x) kind)

-- by a test of the step
on : (P : Move → Type 0) (b : Bool) (moves : List Move) → AllByRecursion P moves → AllByRecursion P (cond b moves [])
on P true moves all = all
on P false moves all = tt

same_cell : (x i : ℕ) → ((x == x) && (i == i)) ≡ true
same_cell x i = rw (eq-eqb x x refl, eq-eqb i i refl) refl

effects_are : (memory : Address → ℕ) (t : ℕ) (d : Duty) (found : ℕ)
    → AllByRecursion (MoveOf t found d) (reference_effects memory t d found)
effects_are memory t (RetainLoad x h) found = on _ (is_immortal_word found) _ (Gains x h (λ y. refl), tt)
effects_are memory t (RetainStore x h w) found = (Gains x h (λ y. refl), tt)
effects_are memory t (RetainAdd x h) found = (Gains x h (λ y. refl), tt)
effects_are memory t (ReleaseLoad x (ByVariable depth v)) found =
    (PutsInFlight x (ByVariable depth v) (λ y. refl), on _ (is_immortal_word found) _ (Loses x (λ y. refl), tt))
effects_are memory t (ReleaseLoad x AsCaller) found =
    (PutsInFlight x AsCaller (λ y. refl), on _ (is_immortal_word found) _ (Loses x (λ y. refl), tt))
effects_are memory t (ReleaseLoad x InFlight) found = on _ (is_immortal_word found) _ (Loses x (λ y. refl), tt)
effects_are memory t (ReleaseStore x w) found = (Loses x (λ y. refl), tt)
effects_are memory t (SharedExchange x Own w) found = on _ (found == w) _ (Loses x (λ y. refl), tt)
effects_are memory t (SettleCell x i n) zero = tt
effects_are memory t (SettleCell x i n) (suc y) = (TakesOut x i y (same_cell x i), tt)
effects_are memory t (SettleEnd x) found = (Finalises x (λ y. refl) refl, tt)
effects_are memory t (BirthLocal x h) found =
    (Bears x h (kind_of_word (memory (KindOf x))) (λ y. refl) refl, tt)
effects_are memory t (CellSwap x i y h) zero = (PutsIn x i y h (same_cell x i), tt)
effects_are memory t (CellSwap x i y h) (suc z) =
    (PutsIn x i y h (same_cell x i), (TakesOut x i z (same_cell x i), tt))
effects_are memory t _ found = tt

-- ---- what holds of each sort holds of all moves of a step

all_moves : (P Q : Move → Type 0) → ((mv : Move) → P mv → Q mv) → (mvs : List Move) → AllByRecursion P mvs
    → AllByRecursion Q mvs
all_moves P Q each [] all = tt
all_moves P Q each (mv ∷ mvs) all = (each mv all.0, all_moves P Q each mvs all.1)

pub each_effect : (P : Move → Type 0) (memory : Address → ℕ) (t : ℕ) (d : Duty) (found : ℕ)
    → ((mv : Move) → MoveOf t found d mv → P mv) → AllByRecursion P (reference_effects memory t d found)
each_effect P memory t d found each =
    all_moves (MoveOf t found d) P each (reference_effects memory t d found) (effects_are memory t d found)

-- What each move leaves unchanged, all moves do.
pub moved_keeps : {A : Type 0} (part : AbstractState → A) (P : Move → Type 0)
    → ((p : AbstractState) (mv : Move) → P mv → part (move p mv) ≡ part p)
    → (p : AbstractState) (mvs : List Move) → AllByRecursion P mvs → part (moved p mvs) ≡ part p
moved_keeps part P each p [] all = refl
moved_keeps part P each p (mv ∷ mvs) all = moved_keeps part P each (move p mv) mvs all.1 ∙ each p mv all.0

-- ---- references to other objects

abbrev pub object_of : Move → ℕ
object_of (Born r kind) = r.object
object_of (Gain r) = r.object
object_of (Lose r) = r.object
object_of (PassOn r h) = r.object
object_of (Finalise x) = x

-- The move is of a reference to another object.
abbrev pub IsOfOther : ℕ → Move → Type 0
IsOfOther x mv = (object_of mv == x) ≡ false

effect_elsewhere : {t found : ℕ} (d : Duty) (x : ℕ) (mv : Move) → is_about x d ≡ false
    → ((y i : ℕ) → changes_cell y i d ≡ false) → MoveOf t found d mv → IsOfOther x mv
effect_elsewhere d x mv other off (Gains y h of) = sym (of x) ∙ other
effect_elsewhere d x mv other off (PutsInFlight y h of) = sym (of x) ∙ other
effect_elsewhere d x mv other off (Loses y of) = sym (of x) ∙ other
effect_elsewhere d x mv other off (PutsIn z i y h this) = absurd (false≢true (sym (off z i) ∙ this))
effect_elsewhere d x mv other off (TakesOut z i y this) = absurd (false≢true (sym (off z i) ∙ this))
effect_elsewhere d x mv other off (Finalises y of ended) = sym (of x) ∙ other
effect_elsewhere d x mv other off (Bears y h kind of born) = sym (of x) ∙ other

-- A step that changes no cell moves references to its duty's object alone.
pub effects_elsewhere : (memory : Address → ℕ) (t : ℕ) (d : Duty) (found x : ℕ) → is_about x d ≡ false
    → ((y i : ℕ) → changes_cell y i d ≡ false)
    → AllByRecursion (IsOfOther x) (reference_effects memory t d found)
effects_elsewhere memory t d found x other off =
    each_effect (IsOfOther x) memory t d found (λ mv sort. effect_elsewhere d x mv other off sort)
