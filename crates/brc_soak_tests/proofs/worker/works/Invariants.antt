use Rattle.std.specs.Prelude.{None}
use Rattle.brc_fixtures.specs.Resting.{IsAtRest}
use Rattle.brc_soak_tests.specs.Ledgers.{Tells}
use Rattle.brc_soak_tests.proofs.worker.works.Given as goal

abbrev pub invariant-loop : goal.invariant-loop
invariant-loop g l = IsAtRest l.heap l.hand None × Tells l.ledger l.hand.view.references
