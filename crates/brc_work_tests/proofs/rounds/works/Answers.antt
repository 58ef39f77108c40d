use Rattle.std.proofs.Common.{subst}
use Rattle.brc_table.specs.Hands.{TableState, IsOf}
use Rattle.brc_work_tests.proofs.Holding.{called_holds}
use Rattle.brc_work_tests.proofs.rounds.works.Goals as goal

pub loop-preserved : goal.loop-preserved
loop-preserved g c =
    let table = subst (λ (w : TableState). IsOf w c.run-ran.new.hand) c.new-worker.ensures c.run-ran.ensures.of in
    called_holds c.loop.invariant table c.run-ran.ensures.called

pub loop-preserved-then-not-is_done : goal.loop-preserved-then-not-is_done
loop-preserved-then-not-is_done g c =
    let table = subst (λ (w : TableState). IsOf w c.run-ran.new.hand) c.new-worker.ensures c.run-ran.ensures.of in
    called_holds c.loop.invariant table c.run-ran.ensures.called
