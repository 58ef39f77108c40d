-- A step that neither moves a row's resource nor settles the row leaves the resource where it is.
use Rattle.std.proofs.Common.{◌≡◌, ◌≢◌, ℕ, ◌≤◌, Bool, true, false, cond, List, Option, Some, refl, sym, ap, ◌∙◌, subst, arith}
use Rattle.std.specs.Prelude.{◌==◌}
use Rattle.std.proofs.lemmas.Bool.{eq-eqb, ne_eqb, eqb-false}
use Rattle.brc_word.specs.declared.values.TheConstants.{FULL}
use Rattle.brc_model.specs.declared.duty.Duty.{Duty}
use Rattle.brc_model.specs.declared.duty.Duty.TheVariants.{SettleKind, SettleCell, TakeField, CloseResource, SettleEnd, BirthField, BirthLocal, LendField, ReturnField}
use Rattle.brc_model.specs.declared.address.Address.TheVariants.{KindOf, Field, Resource}
use Rattle.brc_model.specs.SlotStates.{names}
use Rattle.brc_model.specs.Duties.{has_resource, resources_of}
use Rattle.brc_model.specs.declared.actor.Actor.{Actor}
use Rattle.brc_model.specs.Machine.{Life, Unborn, Live, Dying, Closed, Machine, ended_row, born_row, actor_by, machine_by_duty}
use Rattle.brc_model.specs.References.{one_if}
use Rattle.brc_model.specs.Accounts.{Accounts}
use Rattle.brc_model.specs.OpenWork.{dies_by}
use Rattle.brc_model.specs.Invariant.{AtDuty}
use Rattle.brc_model.specs.Resources.{lends, closing, ending, Resources, resources_at, IsPlaced, IsSettling, ResourcesFit}
use Rattle.brc_model.proofs.Basics.Lists.{some_is, none_some, either}
use Rattle.brc_model.proofs.Basics.Written.{written_apart}
use Rattle.brc_model.proofs.Frame.Items.{word_stays}
use Rattle.brc_model.proofs.Frame.Leaves.{head_of}
use Rattle.brc_model.proofs.Stepping.FitsAfter.{found_by, memory_by}
use Rattle.brc_model.proofs.Objects.Closing.{GoesOn, BeginsToDie, IsClosed, IsBorn, life_step}
use Rattle.brc_model.proofs.Objects.Finalisers.{unfinalised}
use Rattle.brc_model.proofs.Objects.Lenders.{none_named, lenders-set, none_lent}
use Rattle.brc_model.proofs.Objects.SettlingWeights.{settles, settles_row, finalises, of_closing, of_ending, settling_kept}

-- ---- numbers

pub resources_low : (word : ℕ) → resources_of word ≤ 1
resources_low word = elim (has_resource word) as (λ b. cond b 1 0 ≤ 1) [
  | true ↦ omega arith
  | false ↦ omega arith
]

-- The numbers stay, but for the kind of a row that isn't born.
record SameNumbers (l : Life) (old new : Resources) : Type 0 where
  all : (l ≢ Unborn) → new.all ≡ old.all
  field : new.field ≡ old.field
  lent : new.lent ≡ old.lent
  closing : new.closing ≡ old.closing
  closed : new.closed ≡ old.closed
  ending : new.ending ≡ old.ending

same_placed : (l : Life) (old new : Resources) → SameNumbers l old new → (l ≢ Unborn) → IsPlaced old → IsPlaced new
same_placed l old new same born placed =
    omega (arith, placed, same.all born, same.field, same.lent, same.closing, same.closed)

same_settling : (l : Life) (old new : Resources) → SameNumbers l old new → (l ≢ Unborn) → IsSettling old
    → IsSettling new
same_settling l old new same born fit = record {
  placed = same_placed l old new same born fit.placed;
  unclosed = λ none.
      let was = fit.unclosed (omega (arith, none, same.ending)) in
      omega (arith, was, same.closed);
  shut = λ some.
      let was = fit.shut (omega (arith, some, same.ending)) in
      omega (arith, was, same.closed, same.all born);
}

same_fits : (l : Life) (old new : Resources) → SameNumbers l old new → ResourcesFit l old → ResourcesFit l new
same_fits Unborn old new same fit = omega (arith, fit, same.closed)
same_fits Live old new same fit =
    (same_placed Live old new same (λ e. cc) fit.0, omega (arith, fit.1, same.closed))
same_fits (Dying t) old new same fit = same_settling (Dying t) old new same (λ e. cc) fit
same_fits Closed old new same fit =
    let born : Closed ≢ Unborn = λ e. cc in (
      same_placed Closed old new same born fit.0,
      omega (arith, fit.1, same.closed, same.all born),
    )

-- ---- steps that leave the resource where it is

-- Says whether the duty moves the row's resource, or settles the row.
abbrev pub moves_resource : Duty → ℕ → Bool
moves_resource (SettleKind y) x = y == x
moves_resource (SettleCell y i n) x = y == x
moves_resource (TakeField y) x = y == x
moves_resource (CloseResource y) x = y == x
moves_resource (SettleEnd y) x = y == x
moves_resource (BirthField y h) x = y == x
moves_resource (LendField y) x = y == x
moves_resource (ReturnField y) x = y == x
moves_resource _ x = false

no_settling : (d : Duty) (x : ℕ) → moves_resource d x ≡ false → settles_row d x ≡ false
no_settling (SettleKind y) x e = e
no_settling _ x e = cc

no_step : (d : Duty) (x : ℕ) → moves_resource d x ≡ false → settles d x ≡ false
no_step (SettleCell y i n) x e = e
no_step _ x e = cc

module _ (p : Accounts) (n : ℕ) (m : Machine) (t : ℕ) (a : Actor) where
  field_same : (d : Duty) (x : ℕ) → moves_resource d x ≡ false → memory_by m t a d (Field x) ≡ m.memory (Field x)
  field_same (TakeField y) x e = written_apart m.memory (Field y) (Field x) 0 e
  field_same (BirthField y h) x e = written_apart m.memory (Field y) (Field x) 1 e
  field_same (LendField y) x e = written_apart m.memory (Field y) (Field x) 0 e
  field_same (ReturnField y) x e = written_apart m.memory (Field y) (Field x) 1 e
  field_same _ x e = refl

  closed_same : (d : Duty) (x : ℕ) → moves_resource d x ≡ false
      → memory_by m t a d (Resource x) ≡ m.memory (Resource x)
  closed_same (CloseResource y) x e = written_apart m.memory (Resource y) (Resource x) _ e
  closed_same _ x e = refl

  turned : (y x : ℕ) → (y == x) ≡ false → one_if (x == y) ≡ 0
  turned y x e = ap one_if (ne_eqb x y (λ same. eqb-false y x e (sym same)))

  lends_same : (d : Duty) (rest : List Duty) (x : ℕ) → AtDuty p n m t a d rest → moves_resource d x ≡ false
      → lends x (actor_by m.layout t a d rest (found_by m t a d)) ≡ lends x a
  lends_same (LendField y) rest x here e =
      let none = none_named a.lent x (head_of here).2 in
      either (λ (o : Option ℕ). one_if (names o x) ≡ one_if (names a.lent x)) (m.memory (Field y) == FULL) (Some y)
      a.lent (λ found. turned y x e ∙ sym none) refl
  lends_same (ReturnField y) rest x here e =
      let lent : a.lent ≡ Some y = head_of here in
      sym (ap (λ (o : Option ℕ). one_if (names o x)) lent ∙ turned y x e)
  lends_same _ rest x here e = refl

  same_numbers : (d : Duty) (rest : List Duty) (x : ℕ) → AtDuty p n m t a d rest → moves_resource d x ≡ false
      → SameNumbers (m.life x) (resources_at m x) (resources_at (machine_by_duty m t a d rest) x)
  same_numbers d rest x here e =
      let row = no_settling d x e in
      let not = no_step d x e in
      let after = actor_by m.layout t a d rest (found_by m t a d) in
      record {
        all = λ born. ap resources_of (word_stays p n m t a d rest x here born);
        field = field_same d x e;
        lent = omega (arith, lenders-set x m.actors t a after here.found, lends_same d rest x here e);
        closing = settling_kept x (closing x) (of_closing x) p n m t a d rest here row not;
        closed = closed_same d x e;
        ending = settling_kept x (ending x) (of_ending x) p n m t a d rest here row not;
      }

  -- A row that begins to die has no duty yet that settles it.
  begins_settling : (d : Duty) (rest : List Duty) (x : ℕ) → AtDuty p n m t a d rest → moves_resource d x ≡ false
      → m.life x ≡ Live → IsSettling (resources_at (machine_by_duty m t a d rest) x)
  begins_settling d rest x here e lives =
      let old = resources_at m x in
      let new = resources_at (machine_by_duty m t a d rest) x in
      let same = same_numbers d rest x here e in
      let fit : ResourcesFit Live old = subst (λ (l : Life). ResourcesFit l old) lives (here.core.resources x) in
      let born : m.life x ≢ Unborn = λ u. let wrong : Live ≡ Unborn = sym lives ∙ u in cc in
      let none : (u : ℕ) → dies_by (m.life x) u ≡ false = λ u. ap (λ (l : Life). dies_by l u) lives in
      let none_ended =
      unfinalised p n m x (ending x) (finalises x (ending x) (of_ending x)) here.core none in
      record {
        placed = same_placed (m.life x) old new same born fit.0;
        unclosed = λ yet. omega (arith, fit.1, same.closed);
        shut = λ some. absurd (omega (arith, some, same.ending, none_ended));
      }

  -- An object that is born has its resource in its field, if its kind has one.
  born_field : (d : Duty) (rest : List Duty) (x : ℕ) → AtDuty p n m t a d rest → born_row d ≡ Some x
      → m.memory (Field x) ≡ resources_of (memory_by m t a d (KindOf x))
  born_field (BirthLocal y h) rest x here born =
      subst (λ (z : ℕ). m.memory (Field z) ≡ resources_of (m.memory (KindOf z))) (some_is y x born) (head_of here).3
  born_field _ rest x here born = absurd (none_some x born)

  is_born : (d : Duty) (rest : List Duty) (x : ℕ) → AtDuty p n m t a d rest → moves_resource d x ≡ false
      → m.life x ≡ Unborn → born_row d ≡ Some x → ResourcesFit Live (resources_at (machine_by_duty m t a d rest) x)
  is_born d rest x here e unborn born =
      let same = same_numbers d rest x here e in
      let none : (u : ℕ) → dies_by (m.life x) u ≡ false = λ u. ap (λ (l : Life). dies_by l u) unborn in
      let none_closing =
      unfinalised p n m x (closing x) (finalises x (closing x) (of_closing x)) here.core none in
      let not_lent =
      none_lent p n m x here.core (λ lives. let wrong : Unborn ≡ Live = sym unborn ∙ lives in cc) in
      let closed : m.memory (Resource x) ≡ 0 =
      subst (λ (l : Life). ResourcesFit l (resources_at m x)) unborn (here.core.resources x) in
      let field = born_field d rest x here born in (
        omega (arith, field, closed, none_closing, not_lent, same.field, same.closed, same.closing, same.lent),
        omega (arith, closed, same.closed),
      )

  ended_settles : (d : Duty) (x : ℕ) → ended_row d ≡ Some x → moves_resource d x ≡ true
  ended_settles (SettleEnd y) x ended = eq-eqb y x (some_is y x ended)
  ended_settles _ x ended = absurd (none_some x ended)

  pub elsewhere : (d : Duty) (rest : List Duty) (x : ℕ) → AtDuty p n m t a d rest → moves_resource d x ≡ false
      → ResourcesFit ((machine_by_duty m t a d rest).life x) (resources_at (machine_by_duty m t a d rest) x)
  elsewhere d rest x here e =
      let old = resources_at m x in
      let new = resources_at (machine_by_duty m t a d rest) x in
      let P : Life → Type 0 = λ l. ResourcesFit l new in
      elim (life_step d x here) [
        | GoesOn now other ↦
            subst P (sym now) (same_fits (m.life x) old new (same_numbers d rest x here e) (here.core.resources x))
        | BeginsToDie now lives counted none ↦ subst P (sym now) (begins_settling d rest x here e lives)
        | IsClosed now dying counted ended ↦ absurd (let wrong : false ≡ true = sym e ∙ ended_settles d x ended in cc)
        | IsBorn now unborn counted born none ↦ subst P (sym now) (is_born d rest x here e unborn born)
      ]
