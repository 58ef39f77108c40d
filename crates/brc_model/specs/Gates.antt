-- Gates: free, locked by a thread, dying, or closed.
use Rattle.std.specs.Prelude.{◌≡◌, ℕ, ◌<◌, List, Some, slice_get}
use Rattle.brc_word.specs.Words.{free_word, locked_word, closed_word}
use Rattle.brc_model.specs.declared.duty.Holding.{Holding}
use Rattle.brc_model.specs.declared.address.Address.{Address}
use Rattle.brc_model.specs.declared.address.Address.TheVariants.{Gate}
use Rattle.brc_model.specs.declared.actor.Actor.{Actor}
use Rattle.brc_model.specs.Machine.{Life, Unborn, Live, Dying, Closed, Machine}
use Rattle.brc_model.specs.References.{one_if}
use Rattle.brc_model.specs.RowInvariant.{agenda_weight}
use Rattle.brc_model.specs.Accounts.{Account, lacks}

-- ---- locks

-- how many of the thread's duties make the reference
abbrev pub making : Actor → Holding → ℕ → ℕ
making a k object = agenda_weight (λ d. one_if (lacks d k object)) a

-- The thread holds a reference to the list, besides those that it is just making, and the list's gate names the thread.
-- So the list lives for as long as it is locked.
pub record HasLocked (account : Account) (memory : Address → ℕ) (t : ℕ) (a : Actor) (x : ℕ) : Type 0 where
  pub by : Holding
  pub held_so : making a by x < account by x
  pub gate : memory (Gate x) ≡ locked_word t

-- what holds of the list that the thread has locked, if it has locked one
abbrev pub LocksFit : Account → Machine → ℕ → Actor → Type 0
LocksFit account m t a = (x : ℕ) → a.locked ≡ Some x → HasLocked account m.memory t a x

-- ---- gates

-- The gate of a live row is free, or one of the threads has locked the row, and the gate names it.
pub data LiveGate (actors : List Actor) (x gate : ℕ) : Type 0 where
  IsFree : gate ≡ free_word → LiveGate actors x gate
  IsLocked : (t : ℕ) (a : Actor) → slice_get actors t ≡ Some a → a.locked ≡ Some x → gate ≡ locked_word t
      → LiveGate actors x gate

-- A row's gate is free before the row is born, and says closed at the end. While the row is dying, its thread knows the
-- gate by `HeadFits` and by its chain.
abbrev pub GateFits : List Actor → ℕ → Life → ℕ → Type 0
GateFits actors x Unborn gate = gate ≡ free_word
GateFits actors x Live gate = LiveGate actors x gate
GateFits actors x (Dying t) gate = Unit {0}
GateFits actors x Closed gate = gate ≡ closed_word
