-- What a contract sees of a host over the system: which files and peers it reaches, and what it has counted.
use Rattle.std.specs.Prelude.{◌≡◌, ◌≤◌, ℕ, true, List, length}
use Rattle.brc_host.specs.declared.counts.HostCounts.{HostCounts}
use Rattle.brc_host.specs.HostCounts.{no_counts}
use Rattle.brc_host.specs.HostCalls.{HostCall, Open, Connect, has_failed, after_call}

pub record HostState : Type 0 where
  -- the names of the files and the peers, by their numbers from 0
  pub paths : List (List ℕ)
  pub peers : List (List ℕ)
  pub counts : HostCounts

-- a host over these files and peers that hasn't been called
abbrev pub new_host : List (List ℕ) → List (List ℕ) → HostState
new_host paths peers = record { paths = paths; peers = peers; counts = no_counts }

-- the call opens a path or connects to a peer whose number wasn't given
abbrev pub IsBeyond : HostState → HostCall → Type 0
IsBeyond host (Open path mode failed) = length host.paths ≤ path
IsBeyond host (Connect peer failed) = length host.peers ≤ peer
IsBeyond host call = ⊥

-- A call is counted, and changes nothing else. It fails if it asks for what wasn't given; when else, the system says.
pub record AnswersForSystem (before : HostState) (call : HostCall) (after : HostState) : Type 0 where
  pub counted : after ≡ record before { counts = after_call call before.counts }
  pub beyond : IsBeyond before call → has_failed call ≡ true
