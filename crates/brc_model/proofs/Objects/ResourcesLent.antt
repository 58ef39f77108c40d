-- A row's resource is in one place after a step that lends or returns it.
use Rattle.std.proofs.Common.{◌≡◌, ℕ, Bool, false, cond, List, Some, refl, sym, ap, subst, arith}
use Rattle.std.specs.Prelude.{slice_get}
use Rattle.std.proofs.lemmas.Bool.{eq-eqb}
use Rattle.brc_word.specs.declared.values.TheConstants.{EMPTY, FULL}
use Rattle.brc_model.specs.declared.duty.Duty.{Duty}
use Rattle.brc_model.specs.declared.duty.Duty.TheVariants.{LendField, ReturnField}
use Rattle.brc_model.specs.declared.address.Address.TheVariants.{KindOf, Field}
use Rattle.brc_model.specs.Duties.{resources_of}
use Rattle.brc_model.specs.declared.actor.Actor.{Actor}
use Rattle.brc_model.specs.Machine.{Life, Live, Machine, actor_by, machine_by_duty}
use Rattle.brc_model.specs.RowInvariant.{weight}
use Rattle.brc_model.specs.Accounts.{Accounts}
use Rattle.brc_model.specs.OpenWork.{dies_by}
use Rattle.brc_model.specs.Invariant.{AtDuty, CoreInvariant}
use Rattle.brc_model.specs.Resources.{closing, resources_at, ResourcesFit}
use Rattle.brc_model.proofs.Basics.Written.{written_here}
use Rattle.brc_model.proofs.Frame.Leaves.{head_of, locked_lives}
use Rattle.brc_model.proofs.Stepping.FitsAfter.{found_by}
use Rattle.brc_model.proofs.Objects.Finalisers.{unfinalised}
use Rattle.brc_model.proofs.Objects.Lenders.{is_named, none_named, lenders-set, lends-le, locker_alone}
use Rattle.brc_model.proofs.Objects.SettlingWeights.{settles, settles_row, finalises, of_closing, settling_kept}
use Rattle.brc_model.proofs.Objects.ResourcesElsewhere.{resources_low}

module _ (p : Accounts) (n : ℕ) (m : Machine) (t : ℕ) (a : Actor) where
  -- ---- a lent resource

  kept_weights : (d : Duty) (rest : List Duty) (x : ℕ) → AtDuty p n m t a d rest → settles_row d x ≡ false
      → settles d x ≡ false → weight (closing x) (machine_by_duty m t a d rest).actors ≡ weight (closing x) m.actors
  kept_weights d rest x here row not = settling_kept x (closing x) (of_closing x) p n m t a d rest here row not

  -- A thread that is about to lend a resource finds it in its field.
  pub lending_finds : (x : ℕ) (rest : List Duty) → AtDuty p n m t a (LendField x) rest → m.memory (Field x) ≡ FULL
  lending_finds x rest here =
      let head = head_of here in
      let lives = (locked_lives t a x here.core here.found head.1) in
      let fit : ResourcesFit Live (resources_at m x) =
      subst (λ (l : Life). ResourcesFit l (resources_at m x)) lives (here.core.resources x) in
      let none : (u : ℕ) → dies_by (m.life x) u ≡ false = λ u. ap (λ (l : Life). dies_by l u) lives in
      let none_closing = unfinalised p n m x (closing x) (finalises x (closing x) (of_closing x)) here.core none in
      let not_lent = locker_alone p n m x t a here.core here.found head.1 head.2 in
      let one : resources_of (m.memory (KindOf x)) ≡ 1 = ap (λ (b : Bool). cond b 1 0) head.3 in
      omega (arith, fit.0, fit.1, none_closing, not_lent, one)

  -- The field of a resource that the thread has lent is empty.
  pub lent_leaves_none : (x : ℕ) → CoreInvariant p n m → slice_get m.actors t ≡ Some a → a.lent ≡ Some x
      → m.memory (Field x) ≡ EMPTY
  lent_leaves_none x core found lent =
      let locked = (core.each t a found).0.lent x lent in
      let lives = (locked_lives t a x core found locked) in
      let fit : ResourcesFit Live (resources_at m x) =
      subst (λ (l : Life). ResourcesFit l (resources_at m x)) lives (core.resources x) in
      omega (
        arith,
        fit.0,
        is_named a.lent x lent,
        lends-le x m.actors t a found,
        resources_low (m.memory (KindOf x)),
      )

  -- A thread that returns a resource finds the field empty.
  pub returning_finds : (x : ℕ) (rest : List Duty) → AtDuty p n m t a (ReturnField x) rest → m.memory (Field x) ≡ EMPTY
  returning_finds x rest here = lent_leaves_none x here.core here.found (head_of here)

  pub after_lend : (x : ℕ) (rest : List Duty) → AtDuty p n m t a (LendField x) rest
      → ResourcesFit ((machine_by_duty m t a (LendField x) rest).life x)
      (resources_at (machine_by_duty m t a (LendField x) rest) x)
  after_lend x rest here =
      let d : Duty = LendField x in
      let new = resources_at (machine_by_duty m t a d rest) x in
      let head = head_of here in
      let lives = (locked_lives t a x here.core here.found head.1) in
      let fit : ResourcesFit Live (resources_at m x) =
      subst (λ (l : Life). ResourcesFit l (resources_at m x)) lives (here.core.resources x) in
      let after = actor_by m.layout t a d rest (found_by m t a d) in
      let is : after.lent ≡ Some x =
      ap (λ (b : Bool). cond b (Some x) a.lent) (eq-eqb (m.memory (Field x)) 1 (lending_finds x rest here)) in
      subst (λ (l : Life). ResourcesFit l new) (sym lives) (
        omega (
          arith,
          fit.0,
          written_here m.memory (Field x) 0,
          lending_finds x rest here,
          lenders-set x m.actors t a after here.found,
          is_named after.lent x is,
          none_named a.lent x head.2,
          kept_weights d rest x here refl refl,
        ),
        fit.1,
      )

  pub after_return : (x : ℕ) (rest : List Duty) → AtDuty p n m t a (ReturnField x) rest
      → ResourcesFit ((machine_by_duty m t a (ReturnField x) rest).life x)
      (resources_at (machine_by_duty m t a (ReturnField x) rest) x)
  after_return x rest here =
      let d : Duty = ReturnField x in
      let new = resources_at (machine_by_duty m t a d rest) x in
      let lent = head_of here in
      let locked = (here.core.each t a here.found).0.lent x lent in
      let lives = (locked_lives t a x here.core here.found locked) in
      let fit : ResourcesFit Live (resources_at m x) =
      subst (λ (l : Life). ResourcesFit l (resources_at m x)) lives (here.core.resources x) in
      let after = actor_by m.layout t a d rest (found_by m t a d) in
      subst (λ (l : Life). ResourcesFit l new) (sym lives) (
        omega (
          arith,
          fit.0,
          written_here m.memory (Field x) 1,
          returning_finds x rest here,
          lenders-set x m.actors t a after here.found,
          is_named a.lent x lent,
          none_named after.lent x refl,
          kept_weights d rest x here refl refl,
        ),
        fit.1,
      )
