use Rattle.brc_work_tests.specs.Ready.{HoldsRoot}
use Rattle.brc_work_tests.proofs.rounds.works.Given as goal

abbrev pub invariant-loop : goal.invariant-loop
invariant-loop g l = HoldsRoot l.heap l.hand
