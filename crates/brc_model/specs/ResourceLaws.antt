-- What the host is asked to do with the resources of files and sockets. (Python/C API manual, Object Implementation: a
-- deallocator frees what the object holds. Rust, `std::fs::File`: a file is closed when its one owner drops it.)
use Rattle.std.specs.Prelude.{◌≡◌, ℕ, ◌≤◌, true, List, ◌∷◌, Some, slice_get, ◌↔◌}
use Rattle.brc_word.specs.declared.values.TheConstants.{EMPTY}
use Rattle.brc_model.specs.declared.duty.Duty.{Duty}
use Rattle.brc_model.specs.declared.duty.Duty.TheVariants.{SettleEnd}
use Rattle.brc_model.specs.declared.address.Address.TheVariants.{KindOf, Field, Resource}
use Rattle.brc_model.specs.Duties.{has_resource}
use Rattle.brc_model.specs.declared.actor.Actor.{Actor}
use Rattle.brc_model.specs.Machine.{Closed, Machine}
use Rattle.brc_model.specs.StepMachine.{StepMachine, counting}
use Rattle.brc_model.specs.Progress.{HasLock}

-- ---- closes

-- the row is closed, or a thread closes it next
pub data IsGone (m : Machine) (x : ℕ) : Type 0 where
  ByEnd : m.life x ≡ Closed → IsGone m x
  ByDuty : (t : ℕ) (a : Actor) (rest : List Duty) → slice_get m.actors t ≡ Some a → a.agenda ≡ SettleEnd x ∷ rest
      → IsGone m x

-- The host is asked at most once to close a row's resource. It has been asked once exactly if the row is a file's or a
-- socket's, and is closed or is what its thread closes next.
pub record ResourcesCloseOnce (m : StepMachine) : Type 0 where
  pub at_most_once : (x : ℕ) → m.memory (Resource x) ≤ 1
  pub once : (x : ℕ)
      → (m.memory (Resource x) ≡ 1) ↔ ((has_resource (m.memory (KindOf x)) ≡ true) × IsGone (counting m) x)

-- ---- calls

-- the thread has the row's resource lent to a call of the host
abbrev pub HasLent : Machine → ℕ → ℕ → Type 0
HasLent m t x = (a : Actor) × (slice_get m.actors t ≡ Some a) × (a.lent ≡ Some x)

-- the row's field is empty, no other thread has the resource lent, and the thread has locked the row
pub record IsUsedAlone (m : Machine) (t x : ℕ) : Type 0 where
  pub field : m.memory (Field x) ≡ EMPTY
  pub alone : (u : ℕ) → HasLent m u x → u ≡ t
  pub locked : HasLock m t x

-- while a thread has a resource lent, it alone uses the resource
abbrev pub LentAreUsedAlone : StepMachine → Type 0
LentAreUsedAlone m = (t x : ℕ) → HasLent (counting m) t x → IsUsedAlone (counting m) t x
