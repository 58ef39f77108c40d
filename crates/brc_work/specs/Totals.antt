-- What a worker counts of its calls' faults.
use Rattle.std.specs.Prelude.{◌≡◌, Bool, true, false, List}
use Rattle.brc_host.specs.HostCounts.{raised}
use Rattle.brc_host.specs.HostCalls.{HostCall, HasAnswered, host_faults, close_faults}
use Rattle.brc_host.specs.declared.counts.HostCounts.{HostCounts}
use Rattle.brc_work.specs.declared.totals.Totals.{Totals}
use Rattle.brc_work.specs.declared.ran.Ran.{Ran}
use Rattle.brc_work.specs.declared.ran.Ran.TheVariants.{Done, Stopped}

-- Of these calls of the host, those that failed have been counted: closes apart from all others. Each count stops at
-- the greatest number.
pub record HasCounted (calls : List HostCall) (before after : Totals) : Type 0 where
  pub others : after.host_faults ≡ raised (host_faults calls) before.host_faults
  pub closes : after.close_faults ≡ raised (close_faults calls) before.close_faults

-- The host was asked for some calls, one after the other, and has become what stands last. Their faults have been
-- counted, and `Made` holds of them.
pub record Asked {S : Type 0} (answers : S → HostCall → S → Type 0) (counts : S → HostCounts) (host now : S)
    (before after : Totals) (Made : List HostCall → Type 0) : Type 0 where
  pub calls : List HostCall
  pub answered : HasAnswered answers counts host calls now
  pub counted : HasCounted calls before after
  pub made : Made calls

-- the totals of a worker that has made no call yet
abbrev pub no_totals : Totals
no_totals = record { created = 0; host_faults = 0; close_faults = 0 }

-- ---- how a run has ended

-- what the worker has counted
abbrev pub totals_of : Ran → Totals
totals_of (Done totals) = totals
totals_of (Stopped totals) = totals

-- Says whether the worker has made all its calls.
abbrev pub is_done : Ran → Bool
is_done (Done totals) = true
is_done (Stopped totals) = false

-- the same end with these totals
abbrev pub with_totals : Totals → Ran → Ran
with_totals totals (Done before) = Done totals
with_totals totals (Stopped before) = Stopped totals
