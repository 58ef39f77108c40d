use Rattle.std.specs.Prelude.{◌≡◌}
use Rattle.brc_fixtures.specs.Resting.{IsAlone}
use Rattle.brc_soak_tests.proofs.soak.workers_of.Given as goal

abbrev pub invariant-loop-thread : goal.invariant-loop-thread
invariant-loop-thread l = IsAlone l.heap l.main × (l.main.view.thread ≡ 0)
