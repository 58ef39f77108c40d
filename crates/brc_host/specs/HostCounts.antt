-- What a host counts: its faults, what it has opened, and its closes.
use Rattle.std.specs.Prelude.{ℕ, ◌+◌, ◌-◌, ◌^◌, min, Bool, true, false}
use Rattle.brc_host.specs.declared.counts.HostCounts.{HostCounts}

-- the greatest count, at which counting stops
abbrev pub count_limit : ℕ
count_limit = 2 ^ 64 - 1

-- the count after so many more, up to the greatest
abbrev pub raised : ℕ → ℕ → ℕ
raised more count = count + min more (count_limit - count)

-- the counts of a host that hasn't been called
abbrev pub no_counts : HostCounts
no_counts = record { failures = 0; opened = 0; closed = 0 }

-- the counts after a call that opens a file or connects to a peer, or has failed
abbrev pub after_opening : Bool → HostCounts → HostCounts
after_opening false before = record before { opened = raised 1 before.opened }
after_opening true before = record before { failures = raised 1 before.failures }

-- the counts after a call that reads or writes, or has failed
abbrev pub after_use : Bool → HostCounts → HostCounts
after_use false before = before
after_use true before = record before { failures = raised 1 before.failures }

-- the counts after so many closes, of which so many failed
abbrev pub after_closes : ℕ → ℕ → HostCounts → HostCounts
after_closes closes failed before =
    record before { failures = raised failed before.failures; closed = raised closes before.closed }

-- the counts after a close, or one that has failed
abbrev pub after_close : Bool → HostCounts → HostCounts
after_close false = after_closes 1 0
after_close true = after_closes 1 1
