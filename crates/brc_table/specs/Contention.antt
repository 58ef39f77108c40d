-- How often threads have met at the counts of objects, by the rules of the step relation: `queued` counts `Queues`;
-- `merged` counts `Merges`, `MergesToZero` and `MergesForHanded`; `claimed` counts `MarkClaimed`, `FoundMarkTaken` and
-- `MarkTakenBack`; `lost` counts `ExchangeLost` and `MergeLost`. No contract says that code counts so.
use Rattle.std.specs.Prelude.{ℕ, ◌+◌, ◌-◌, ◌^◌, min}
use Rattle.brc_table.specs.declared.contention.Contention.{Contention}

-- the greatest number, at which counting stops
abbrev pub most_meetings : ℕ
most_meetings = 2 ^ 64 - 1

-- the sum, up to the greatest number
abbrev pub up_to_most : ℕ → ℕ → ℕ
up_to_most some more = min (some + more) most_meetings

-- what two threads have counted
abbrev pub together : Contention → Contention → Contention
together one other = record {
  queued = up_to_most one.queued other.queued;
  merged = up_to_most one.merged other.merged;
  claimed = up_to_most one.claimed other.claimed;
  lost = up_to_most one.lost other.lost;
}
