use Rattle.std.proofs.Common.{◌≡◌, length}
use Rattle.brc_fixtures.proofs.hosts.hosts_of.Given as goal

-- one in each round
abbrev pub invariant-loop : goal.invariant-loop
invariant-loop l = length l.hosts.items ≡ l.counter
