-- A step moves references of its own thread alone. The references of other threads don't change, nor do those of cells,
-- but for the cell that the step changes.
use Rattle.std.proofs.Common.{◌≡◌, ◌≢◌, ℕ, true, false, cond, List, [], ◌∷◌, refl, sym, ap, ◌∙◌, arith}
use Rattle.std.specs.Prelude.{◌==◌}
use Rattle.std.proofs.lemmas.Bool.{eqb-true, false≢true}
use Rattle.brc_model.proofs.Basics.Lists.{and_first, and_second}
use Rattle.brc_model.specs.declared.duty.Holding.{Holding}
use Rattle.brc_model.specs.declared.duty.Holding.TheVariants.{InFlight}
use Rattle.brc_model.specs.AbstractState.{Reference, AbstractState, same, without, Move, Born, Gain, Lose, PassOn, Finalise, move, moved, Holder, ByThread, ByCell, same_holder}
use Rattle.brc_model.specs.declared.duty.Duty.{Duty}
use Rattle.brc_model.specs.declared.address.Address.{Address}
use Rattle.brc_model.specs.Moves.{reference_effects}
use Rattle.std.specs.List.{AllByRecursion}
use Rattle.brc_model.proofs.Basics.Moves.{MoveOf, Gains, PutsInFlight, Loses, PutsIn, TakesOut, Finalises, Bears, changes_cell, each_effect, moved_keeps}
use Rattle.brc_model.proofs.Basics.Bag.{same-true, held-cons, same-other_holder, other_thread}
use Rattle.brc_model.specs.References.{held, one_if, cell_reference, reference_of}

-- Removing another reference doesn't change how often this one is in the bag.
pub held-without_apart : (x r : Reference) (bag : List Reference) → same x r ≡ false
    → held x (without r bag) ≡ held x bag
held-without_apart x r [] apart = refl
held-without_apart x r (q ∷ qs) apart =
    elim (same r q) as (λ b. same r q ≡ b → held x (cond b qs (q ∷ without r qs)) ≡ held x (q ∷ qs)) [
      | true ↦ λ e.
          let none : one_if (same x q) ≡ 0 = ap one_if (ap (same x) (sym (same-true r q e)) ∙ apart) in
          omega (arith, held-cons x q qs, none)
      | false ↦ λ e. omega (arith, held-cons x q qs, held-cons x q (without r qs), held-without_apart x r qs apart)
    ] refl

held-cons_apart : (x r : Reference) (bag : List Reference) → same x r ≡ false → held x (r ∷ bag) ≡ held x bag
held-cons_apart x r bag apart =
    let none : one_if (same x r) ≡ 0 = ap one_if apart in omega (arith, held-cons x r bag, none)

-- The move changes no reference of the holder.
abbrev pub IsAside : Holder → Move → Type 0
IsAside h (Born r kind) = same_holder h r.holder ≡ false
IsAside h (Gain r) = same_holder h r.holder ≡ false
IsAside h (Lose r) = same_holder h r.holder ≡ false
IsAside h (PassOn r k) = (same_holder h r.holder ≡ false) × (same_holder h k ≡ false)
IsAside h (Finalise x) = Unit {0}

abbrev pub AreAside : Holder → List Move → Type 0
AreAside h mvs = AllByRecursion (IsAside h) mvs

move_aside : (p : AbstractState) (x : Reference) (mv : Move) → IsAside x.holder mv
    → held x (move p mv).references ≡ held x p.references
move_aside p x (Born r kind) aside = held-cons_apart x r p.references (same-other_holder x r aside)
move_aside p x (Gain r) aside = held-cons_apart x r p.references (same-other_holder x r aside)
move_aside p x (Lose r) aside = held-without_apart x r p.references (same-other_holder x r aside)
move_aside p x (PassOn r h) aside =
    let q : Reference = record { holder = h; object = r.object } in
    held-cons_apart x q (without r p.references) (same-other_holder x q aside.1)
    ∙ held-without_apart x r p.references (same-other_holder x r aside.0)
move_aside p x (Finalise y) aside = refl

pub moved_aside : (p : AbstractState) (x : Reference) (mvs : List Move) → AreAside x.holder mvs
    → held x (moved p mvs).references ≡ held x p.references
moved_aside p x mvs aside =
    moved_keeps (λ q. held x q.references) (IsAside x.holder) (λ q mv. move_aside q x mv) p mvs aside

-- The holder isn't the thread, in any of the thread's ways of holding a reference.
abbrev pub IsNoWayOf : ℕ → Holder → Type 0
IsNoWayOf t h = (k : Holding) → same_holder h (ByThread t k) ≡ false

effect_aside : {t found : ℕ} (d : Duty) (h : Holder) (mv : Move) → IsNoWayOf t h
    → ((x i : ℕ) → changes_cell x i d ≡ true → same_holder h (ByCell x i) ≡ false)
    → MoveOf t found d mv → IsAside h mv
effect_aside d h mv other cell (Gains x k of) = other k
effect_aside d h mv other cell (PutsInFlight x k of) = (other k, other InFlight)
effect_aside d h mv other cell (Loses x of) = other InFlight
effect_aside d h mv other cell (PutsIn x i y k this) = (other k, cell x i this)
effect_aside d h mv other cell (TakesOut x i y this) = (cell x i this, other InFlight)
effect_aside d h mv other cell (Finalises x of ended) = tt
effect_aside d h mv other cell (Bears x k kind of born) = other k

-- A step changes no reference of a holder that isn't its thread and isn't the cell that it changes.
pub moves_aside : (memory : Address → ℕ) (h : Holder) (t : ℕ) (d : Duty) (found : ℕ) → IsNoWayOf t h
    → ((x i : ℕ) → changes_cell x i d ≡ true → same_holder h (ByCell x i) ≡ false)
    → AreAside h (reference_effects memory t d found)
moves_aside memory h t d found other cell =
    each_effect (IsAside h) memory t d found (λ mv sort. effect_aside d h mv other cell sort)

pub moves_apart : (memory : Address → ℕ) (p : AbstractState) (u t : ℕ) (k : Holding) (object : ℕ) (d : Duty)
    (found : ℕ) → u ≢ t
    → held (reference_of u k object) (moved p (reference_effects memory t d found)).references
    ≡ held (reference_of u k object) p.references
moves_apart memory p u t k object d found ne =
    moved_aside p (reference_of u k object) (reference_effects memory t d found)
    (moves_aside memory (ByThread u k) t d found (λ h. other_thread u t k h ne) (λ x i this. refl))

-- The cell that a step changes is another one.
other_cell : (d : Duty) (x i y j : ℕ) → changes_cell x i d ≡ false → changes_cell y j d ≡ true
    → same_holder (ByCell x i) (ByCell y j) ≡ false
other_cell d x i y j off this =
    elim (same_holder (ByCell x i) (ByCell y j)) as
    (λ b. same_holder (ByCell x i) (ByCell y j) ≡ b → same_holder (ByCell x i) (ByCell y j) ≡ false) [
      | true ↦ λ e.
          let lists : x ≡ y = eqb-true x y (and_first (x == y) (i == j) e) in
          let cells : i ≡ j = eqb-true i j (and_second (x == y) (i == j) e) in
          let same : changes_cell x i d ≡ changes_cell y j d = λ k. changes_cell (lists k) (cells k) d in
          absurd (false≢true (sym off ∙ same ∙ this))
      | false ↦ λ e. e
    ] refl

-- A step doesn't change what a cell holds, but for the cell that it changes.
pub moves_off_cell : (memory : Address → ℕ) (p : AbstractState) (x i object t : ℕ) (d : Duty) (found : ℕ)
    → changes_cell x i d ≡ false
    → held (cell_reference x i object) (moved p (reference_effects memory t d found)).references
    ≡ held (cell_reference x i object) p.references
moves_off_cell memory p x i object t d found off =
    moved_aside p (cell_reference x i object) (reference_effects memory t d found)
    (moves_aside memory (ByCell x i) t d found (λ h. refl) (λ y j this. other_cell d x i y j off this))
