-- What a contract sees of a host that fails by plan: how it answers, and what each call leaves.
use Rattle.std.specs.Prelude.{◌≡◌, ◌↔◌, true, ℕ, ◌+◌, List, Option, None, Some, IsSomeAnd, Contains, nat_lt, if◌then◌else◌}
use Rattle.brc_host.specs.declared.counts.HostCounts.{HostCounts}
use Rattle.brc_host.specs.HostCounts.{count_limit, no_counts}
use Rattle.brc_host.specs.HostCalls.{HostCall, has_failed, after_call}

pub record Fake : Type 0 where
  -- the numbers of the calls that fail
  pub plan : List ℕ
  -- the number of the next call; none after 2^64 calls
  pub next : Option ℕ
  pub counts : HostCounts

-- a host with this plan that hasn't been called
abbrev pub first_fake : List ℕ → Fake
first_fake plan = record { plan = plan; next = Some 0; counts = no_counts }

-- the plan has the number of the next call
abbrev pub IsPlanned : Fake → Type 0
IsPlanned host = IsSomeAnd host.next (Contains host.plan)

-- the number of the call after this one
abbrev pub number_after : Option ℕ → Option ℕ
number_after (Some call) = if nat_lt call count_limit then Some (call + 1) else None
number_after None = None

-- the host after a call that changes its counts so
abbrev pub called : (HostCounts → HostCounts) → Fake → Fake
called count host = record { plan = host.plan; next = number_after host.next; counts = count host.counts }

-- A call fails exactly if the plan has its number, and is counted.
pub record AnswersByPlan (before : Fake) (call : HostCall) (after : Fake) : Type 0 where
  pub planned : (has_failed call ≡ true) ↔ IsPlanned before
  pub counted : after ≡ called (after_call call) before
