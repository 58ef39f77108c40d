-- The resources of the host. Each file or socket that was born has its resource in exactly one place: in its field,
-- with the thread that has it lent to a call of the host, with the thread that is about to close it, or closed.
use Rattle.std.specs.Prelude.{◌≡◌, ℕ, ◌+◌, ◌<◌, ◌==◌, List, sum_by}
use Rattle.brc_model.specs.declared.duty.Duty.{Duty}
use Rattle.brc_model.specs.declared.duty.Duty.TheVariants.{CloseResource, SettleEnd}
use Rattle.brc_model.specs.declared.address.Address.TheVariants.{KindOf, Field, Resource}
use Rattle.brc_model.specs.SlotStates.{names}
use Rattle.brc_model.specs.Duties.{resources_of}
use Rattle.brc_model.specs.declared.actor.Actor.{Actor}
use Rattle.brc_model.specs.Machine.{Life, Unborn, Live, Dying, Closed, Machine}
use Rattle.brc_model.specs.References.{one_if}
use Rattle.brc_model.specs.RowInvariant.{weight}

-- ---- who has the resource

-- 1 if the thread has the row's resource lent, else 0
abbrev pub lends : ℕ → Actor → ℕ
lends x a = one_if (names a.lent x)

-- how many threads have it lent
abbrev pub lenders : ℕ → List Actor → ℕ
lenders x actors = sum_by (lends x) actors

-- ---- weights of a duty at a dying row

-- 1 if the duty lets the host close the resource
abbrev pub closing : ℕ → Duty → ℕ
closing x (CloseResource y) = one_if (y == x)
closing x _ = 0

-- 1 if it closes the row
abbrev pub ending : ℕ → Duty → ℕ
ending x (SettleEnd y) = one_if (y == x)
ending x _ = 0

-- ---- the numbers of a row

-- where the row's resource is, and the weights of the duties that settle the row
pub record Resources : Type 0 where
  -- how many resources the row's kind has: one or none
  pub all : ℕ
  pub field : ℕ
  pub lent : ℕ
  pub closing : ℕ
  -- how often the host has been asked to close it
  pub closed : ℕ
  pub ending : ℕ

abbrev pub resources_at : Machine → ℕ → Resources
resources_at m x = record {
  all = resources_of (m.memory (KindOf x));
  field = m.memory (Field x);
  lent = lenders x m.actors;
  closing = weight (closing x) m.actors;
  closed = m.memory (Resource x);
  ending = weight (ending x) m.actors;
}

-- ---- the invariant

-- The resource is in one place, if the row's kind has one.
abbrev pub IsPlaced : Resources → Type 0
IsPlaced n = n.field + n.lent + n.closing + n.closed ≡ n.all

-- A dying row's resource is closed once the thread is about to close the row, and not before.
pub record IsSettling (n : Resources) : Type 0 where
  pub placed : IsPlaced n
  pub unclosed : n.ending ≡ 0 → n.closed ≡ 0
  pub shut : 0 < n.ending → n.closed ≡ n.all

-- The resource of a row that isn't born, or lives, isn't closed, and that of a closed row is.
abbrev pub ResourcesFit : Life → Resources → Type 0
ResourcesFit Unborn n = n.closed ≡ 0
ResourcesFit Live n = IsPlaced n × (n.closed ≡ 0)
ResourcesFit (Dying t) n = IsSettling n
ResourcesFit Closed n = IsPlaced n × (n.closed ≡ n.all)
