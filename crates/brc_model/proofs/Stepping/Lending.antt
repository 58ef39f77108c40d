-- A resource stays lent to the thread that has locked its object.
use Rattle.std.proofs.Common.{◌≡◌, ℕ, true, false, cond, List, Some, sym, ◌∙◌}
use Rattle.std.specs.Prelude.{◌==◌}
use Rattle.brc_word.specs.declared.values.TheConstants.{FULL}
use Rattle.brc_model.specs.declared.duty.Duty.{Duty}
use Rattle.brc_model.specs.declared.duty.Duty.TheVariants.{LockGate, UnlockGate, LendField, ReturnField}
use Rattle.brc_model.specs.declared.address.Address.TheVariants.{Field}
use Rattle.brc_model.specs.Duties.{address_of}
use Rattle.brc_model.specs.declared.actor.Actor.{Actor}
use Rattle.brc_model.specs.Machine.{Machine, actor_by}
use Rattle.brc_model.specs.Accounts.{Accounts}
use Rattle.brc_model.specs.Invariant.{AtDuty}
use Rattle.brc_model.proofs.Basics.Lists.{none_some}
use Rattle.brc_model.proofs.Frame.Leaves.{head_of}

module _ {p : Accounts} {n : ℕ} {m : Machine} {t : ℕ} {a : Actor} {rest : List Duty} where
  -- The resource that a thread has lent after its step is that of the object that it has locked after its step.
  pub lent_after : (d : Duty) → AtDuty p n m t a d rest → (x : ℕ)
      → (actor_by m.layout t a d rest (m.memory (address_of m.layout t a.head d))).lent ≡ Some x
      → (actor_by m.layout t a d rest (m.memory (address_of m.layout t a.head d))).locked ≡ Some x
  lent_after (LockGate y) here x e =
      absurd (none_some x (sym (head_of here).1 ∙ (here.core.each t a here.found).0.lent x e))
  lent_after (UnlockGate y) here x e = absurd (none_some x (sym (head_of here).3 ∙ e))
  lent_after (LendField y) here x e =
      let fits = head_of here in
      elim (m.memory (Field y) == FULL) as (λ b. cond b (Some y) a.lent ≡ Some x → a.locked ≡ Some x) [
        | true ↦ λ is. fits.1 ∙ is
        | false ↦ λ is. absurd (none_some x (sym fits.2 ∙ is))
      ] e
  lent_after (ReturnField y) here x e = absurd (none_some x e)
  lent_after d here x e = (here.core.each t a here.found).0.lent x e
