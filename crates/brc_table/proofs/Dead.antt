-- An object whose gate says that it is dying or closed has no reference, and nobody is making one.
use Rattle.std.proofs.Common.{◌≡◌, ◌≢◌, ℕ, ◌+◌, ◌<◌, Bool, cond, ◌≤◌, List, [], ◌∷◌, length, Some, inl, inr, refl, sym, ap, ◌∙◌, subst, arith}
use Rattle.std.specs.Prelude.{slice_get, sum_by}
use Rattle.std.proofs.lemmas.Bool.{ne_eqb}
use Rattle.std.proofs.lemmas.List.Sums.{sum_by-cons}
use Rattle.std.proofs.lemmas.Option.{slice_get_within}
use Rattle.brc_model.specs.declared.duty.Duty.{Duty}
use Rattle.brc_model.specs.declared.duty.Duty.TheVariants.{RetainLoad, RetainStore, RetainAdd, BirthKind, BirthField, BirthLocal}
use Rattle.brc_model.specs.declared.address.Address.TheVariants.{Gate}
use Rattle.brc_model.specs.AbstractState.{references_to}
use Rattle.brc_model.specs.Agreement.{at_row}
use Rattle.brc_model.specs.Accounts.{Accounts}
use Rattle.brc_model.specs.Gates.{LiveGate, IsFree, IsLocked, GateFits}
use Rattle.brc_model.specs.Invariant.{CoreInvariant, numbers_of}
use Rattle.brc_model.specs.Knowledge.{IsBacked, IsNext, HeadFits, HeadOf}
use Rattle.brc_model.specs.Layout.{block_of, IsCounted}
use Rattle.brc_model.specs.declared.actor.Actor.{Actor}
use Rattle.brc_model.specs.Machine.{Life, Unborn, Live, Dying, Closed, Machine}
use Rattle.brc_model.specs.OpenWork.{AllWait}
use Rattle.brc_model.specs.RowInvariant.{IsDead, RowInvariant}
use Rattle.brc_model.proofs.Basics.Blocks.{next_unborn}
use Rattle.brc_model.proofs.Frame.Alive.{backed_referenced}
use Rattle.brc_table.specs.Agreeing.{makes, IsDeadGate}
use Rattle.brc_table.proofs.Claims.{making, first_alone}

-- ---- dead rows

-- The row is dying or closed.
pub record IsDeadRow (m : Machine) (x : ℕ) : Type 0 where
  pub row : IsDead (numbers_of m x)
  pub born : m.life x ≢ Unborn

-- A gate that says dying or closed isn't free, nor locked by a thread.
high_gate : (gate : ℕ) → IsDeadGate gate → 40 < gate
high_gate gate (inl dies) = omega (arith, dies.1.1)
high_gate gate (inr closed) = omega (arith, closed)

-- The gate of a live row is free, or locked by one of the threads.
low_gate : (actors : List Actor) (x gate n : ℕ) → length actors ≡ n → n ≤ 33 → LiveGate actors x gate → gate ≤ 40
low_gate actors x gate n are few (IsFree free) = omega (arith, free)
low_gate actors x gate n are few (IsLocked t a found locked is) =
    omega (arith, is, are, few, slice_get_within actors t a found)

-- A row with such a gate is neither unborn nor live.
dead_by : (p : Accounts) (n : ℕ) (m : Machine) (x : ℕ) → CoreInvariant p n m → IsDeadGate (m.memory (Gate x))
    → (l : Life) → m.life x ≡ l → RowInvariant (block_of m.layout x) l (numbers_of m x)
    → GateFits m.actors x l (m.memory (Gate x)) → IsDeadRow m x
dead_by p n m x core says Unborn life row gate = absurd (omega (arith, high_gate (m.memory (Gate x)) says, gate))
dead_by p n m x core says Live life row gate =
    absurd (omega (
      arith,
      high_gate (m.memory (Gate x)) says,
      low_gate m.actors x (m.memory (Gate x)) n core.threads core.few_threads gate,
    ))
dead_by p n m x core says (Dying t) life row gate =
    record { row = row; born = λ e. let wrong : Dying t ≡ Unborn = sym life ∙ e in absurd cc }
dead_by p n m x core says Closed life row gate =
    record { row = row; born = λ e. let wrong : Closed ≡ Unborn = sym life ∙ e in absurd cc }

-- A row whose gate says so is dying or closed.
pub dead_row : (p : Accounts) (n : ℕ) (m : Machine) (x : ℕ) → CoreInvariant p n m → IsCounted m.layout x
    → IsDeadGate (m.memory (Gate x)) → IsDeadRow m x
dead_row p n m x core counted says = dead_by p n m x core says (m.life x) refl (core.rows x counted) (core.gates x)

-- ---- nobody makes a reference to it

module _ (p : Accounts) (n : ℕ) (m : Machine) (core : CoreInvariant p n m) (x : ℕ) (dead : IsDeadRow m x) where
  -- Nothing keeps the object alive.
  unbacked : (t : ℕ) (a : Actor) (y : ℕ) → IsBacked m t a y → y ≡ x → ⊥
  unbacked t a y backed same =
      let some : 0 < references_to x m.abstract.references =
      subst (λ (z : ℕ). 0 < references_to z m.abstract.references) same (backed_referenced p n m t a y core backed) in
      absurd (omega (arith, some, dead.row.references))

  -- It was born, so no thread gives birth to it.
  not_next : (t : ℕ) (a : Actor) (y : ℕ) → slice_get m.actors t ≡ Some a → IsNext m t a y → y ≡ x → ⊥
  not_next t a y found next same = dead.born (ap m.life (sym same) ∙ next_unborn p n m t a y core found next)

  -- A duty about another row makes no reference to it.
  elsewhere : (y : ℕ) → (y ≡ x → ⊥) → at_row x y ≡ 0
  elsewhere y apart = ap (λ (b : Bool). cond b 1 0) (ne_eqb y x apart)

  -- No duty that knows what it needs makes a reference to it.
  duty_makes_none : (t : ℕ) (a : Actor) (d : Duty) (rest : List Duty) → slice_get m.actors t ≡ Some a
      → HeadFits m t a d rest → makes x d ≡ 0
  duty_makes_none t a (RetainLoad y h) rest found fits = elsewhere y (unbacked t a y fits)
  duty_makes_none t a (RetainStore y h w) rest found fits = elsewhere y (unbacked t a y fits.1)
  duty_makes_none t a (RetainAdd y h) rest found fits = elsewhere y (unbacked t a y fits.1)
  duty_makes_none t a (BirthKind y h w) rest found fits = elsewhere y (not_next t a y found fits.0)
  duty_makes_none t a (BirthField y h) rest found fits = elsewhere y (not_next t a y found fits.0)
  duty_makes_none t a (BirthLocal y h) rest found fits = elsewhere y (not_next t a y found fits.0)
  duty_makes_none t a _ rest found fits = refl

  -- Nor does an agenda.
  agenda_makes_none : (t : ℕ) (a : Actor) (ds : List Duty) → slice_get m.actors t ≡ Some a → a.agenda ≡ ds
      → HeadOf m t a ds → sum_by (makes x) ds ≡ 0
  agenda_makes_none t a [] found is fits = refl
  agenda_makes_none t a (d ∷ rest) found is fits =
      omega (
        arith,
        sum_by-cons (makes x) d rest,
        duty_makes_none t a d rest found fits,
        first_alone (making x) a a.status d rest (core.each t a found).1 is,
      )

  -- Nor do duties put aside.
  aside_makes_none : (t : ℕ) (a : Actor) (ds : List Duty) → slice_get m.actors t ≡ Some a → AllWait m t a ds
      → sum_by (makes x) ds ≡ 0
  aside_makes_none t a [] found wait = refl
  aside_makes_none t a (d ∷ rest) found wait =
      omega (
        arith,
        sum_by-cons (makes x) d rest,
        duty_makes_none t a d [] found wait.1,
        aside_makes_none t a rest found wait.2,
      )

  -- No thread's work makes a reference to a dead object.
  pub makes_none : (t : ℕ) (a : Actor) → slice_get m.actors t ≡ Some a
      → sum_by (makes x) a.agenda + sum_by (makes x) a.aside ≡ 0
  makes_none t a found =
      let fits = core.each t a found in
      omega (
        arith,
        agenda_makes_none t a a.agenda found refl fits.0.head_fits,
        aside_makes_none t a a.aside found fits.2.waits,
      )
