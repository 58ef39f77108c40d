-- What a host is asked and how it answers, call after call.
use Rattle.std.specs.Prelude.{◌≡◌, ℕ, ◌+◌, Bool, true, List, [], ◌∷◌, ◌++◌, Option, is_none, if◌then◌else◌}
use Rattle.brc_lang.specs.declared.mode.Mode.{Mode}
use Rattle.brc_host.specs.declared.counts.HostCounts.{HostCounts}
use Rattle.brc_host.specs.HostCounts.{after_opening, after_use, after_close}

-- A call of a host: what it asks for, and whether it failed, or how many bytes it has read.
pub data HostCall : Type 0 where
  Open : (path : ℕ) (mode : Mode) (failed : Bool) → HostCall
  Connect : (peer : ℕ) (failed : Bool) → HostCall
  Read : (most : ℕ) (got : Option ℕ) → HostCall
  Write : (bytes : List ℕ) (failed : Bool) → HostCall
  Close : (failed : Bool) → HostCall

-- Says whether the call failed.
abbrev pub has_failed : HostCall → Bool
has_failed (Open path mode failed) = failed
has_failed (Connect peer failed) = failed
has_failed (Read most got) = is_none got
has_failed (Write bytes failed) = failed
has_failed (Close failed) = failed

-- the counts of a host after the call
abbrev pub after_call : HostCall → HostCounts → HostCounts
after_call (Open path mode failed) = after_opening failed
after_call (Connect peer failed) = after_opening failed
after_call (Read most got) = after_use (is_none got)
after_call (Write bytes failed) = after_use failed
after_call (Close failed) = after_close failed

-- ---- call after call

-- Asked for these calls, one after the other, a host has gone from the first state to the last. So it has counted them.
pub data HasAnswered {S : Type 0} (answers : S → HostCall → S → Type 0) (counts : S → HostCounts) (first : S)
    : List HostCall → S → Type 0 where
  NoCall : HasAnswered answers counts first [] first
  OneMore : (calls : List HostCall) (call : HostCall) (u w : S) → HasAnswered answers counts first calls u
      → answers u call w → counts w ≡ after_call call (counts u)
      → HasAnswered answers counts first (calls ++ call ∷ []) w

-- how many of the calls were closes that failed
abbrev pub close_faults : List HostCall → ℕ
close_faults [] = 0
close_faults (Close true ∷ rest) = 1 + close_faults rest
close_faults (call ∷ rest) = close_faults rest

-- how many calls other than closes failed
abbrev pub host_faults : List HostCall → ℕ
host_faults [] = 0
host_faults (Close failed ∷ rest) = host_faults rest
host_faults (call ∷ rest) = (if has_failed call then 1 else 0) + host_faults rest
