use Rattle.std.proofs.Common.{◌≡◌, length, map}
use Rattle.std.specs.Prelude.{All}
use Rattle.std.specs.String.{string_bytes}
use Rattle.brc_os.specs.HostStates.{new_host}
use Rattle.brc_run.proofs.on_system.hosts_of.Given as goal

-- one in each round
abbrev pub invariant-loop : goal.invariant-loop
invariant-loop g l = (length l.hosts.items ≡ l.counter)
    × All (λ host. host ≡ new_host (map string_bytes l.paths) (map string_bytes l.peers)) l.hosts.items
