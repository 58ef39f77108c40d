use Rattle.std.specs.Prelude.{None}
use Rattle.brc_fixtures.specs.Resting.{IsAtRest}
use Rattle.brc_soak_tests.specs.Ledgers.{Tells}
use Rattle.brc_soak_tests.proofs.worker.empties.Given as goal

abbrev pub invariant-loop-row : goal.invariant-loop-row
invariant-loop-row g l = IsAtRest l.heap l.hand None × Tells l.ledger l.hand.view.references

abbrev pub invariant-loop : goal.invariant-loop
invariant-loop g l = IsAtRest l.heap l.hand None × Tells l.ledger l.hand.view.references
