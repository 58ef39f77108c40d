-- A thread still holds the list that it has locked when its account changes by one reference.
use Rattle.std.proofs.Common.{◌≡◌, ℕ, ◌+◌, ◌<◌, ◌≤◌, inl, inr, Some, sym, ap, ◌∙◌, subst, arith}
use Rattle.std.specs.Prelude.{◌==◌, ◌&&◌}
use Rattle.std.proofs.lemmas.Bool.Decides.{eqb_tells}
use Rattle.brc_model.specs.declared.duty.Holding.{Holding}
use Rattle.brc_model.specs.declared.duty.Holding.TheVariants.{ByVariable, AsCaller, InFlight}
use Rattle.brc_model.specs.AbstractState.{same_holding}
use Rattle.brc_model.specs.References.{one_if}
use Rattle.brc_model.specs.declared.actor.Actor.{Actor}
use Rattle.brc_model.specs.Machine.{Machine}
use Rattle.brc_model.specs.Accounts.{Account}
use Rattle.brc_model.specs.Gates.{making, LocksFit}
use Rattle.brc_model.specs.Counting.{with_one_more, with_one_less, MayGiveUp}
use Rattle.brc_model.proofs.Basics.Bag.{one_if_low}

-- With one reference more, which the thread's new work may make.
pub more_locks : (account : Account) (m : Machine) (t : ℕ) (a b : Actor) (x : ℕ) → LocksFit account m t a
    → b.locked ≡ a.locked
    → ((k : Holding) (y : ℕ) → making b k y ≤ making a k y + one_if (same_holding AsCaller k && (x == y)))
    → LocksFit (with_one_more account AsCaller x) m t b
more_locks account m t a b x locks same makes y e =
    let it = locks y (sym same ∙ e) in
    record { by = it.by; held_so = omega (arith, it.held_so, makes it.by y); gate = it.gate }

-- The thread still holds the list by the same holding.
still_holds : (account : Account) (a b : Actor) (x y : ℕ) (k : Holding) → making a k y < account k y
    → ((h : Holding) (z : ℕ) → making b h z ≤ making a h z) → making b AsCaller x ≡ 0 → (x ≡ y → 2 ≤ account AsCaller x)
    → making b k y < with_one_less account AsCaller x k y
still_holds account a b x y (ByVariable depth v) some less none more = omega (arith, some, less (ByVariable depth v) y)
still_holds account a b x y InFlight some less none more = omega (arith, some, less InFlight y)
still_holds account a b x y AsCaller some less none more =
    elim (eqb_tells x y) [
      | inl same ↦
          let two : 2 ≤ account AsCaller y = subst (λ (z : ℕ). 2 ≤ account AsCaller z) same.1 (more same.1) in
          let no : making b AsCaller y ≡ 0 = subst (λ (z : ℕ). making b AsCaller z ≡ 0) same.1 none in
          omega (arith, two, no, one_if_low (x == y))
      | inr other ↦
          let apart : one_if (x == y) ≡ 0 = ap one_if other.0 in
          omega (arith, some, less AsCaller y, apart)
    ]

-- With one reference less, to an object about which the thread does nothing. If the thread has locked the object, it
-- holds another reference to it.
pub less_locks : (account : Account) (m : Machine) (t : ℕ) (a b : Actor) (x : ℕ) → LocksFit account m t a
    → b.locked ≡ a.locked → ((k : Holding) (y : ℕ) → making b k y ≤ making a k y) → making b AsCaller x ≡ 0
    → MayGiveUp account a x → LocksFit (with_one_less account AsCaller x) m t b
less_locks account m t a b x locks same makes none may y e =
    let mine : a.locked ≡ Some y = sym same ∙ e in
    let it = locks y mine in
    record {
      by = it.by;
      held_so =
          still_holds account a b x y it.by it.held_so makes none (λ is. may (mine ∙ ap (λ z. Some z) (sym is)));
      gate = it.gate;
    }
