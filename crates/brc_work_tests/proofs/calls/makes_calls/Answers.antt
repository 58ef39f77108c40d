use Rattle.std.proofs.Common.{subst}
use Rattle.brc_table.specs.Hands.{TableState, IsOf}
use Rattle.brc_work_tests.proofs.Holding.{called_holds}
use Rattle.brc_work_tests.proofs.calls.makes_calls.Goals as goal

pub returns : goal.returns
returns g c =
    let table = subst (λ (w : TableState). IsOf w c.run.new.hand) c.new.ensures c.run.ensures.of in
    record { holds = called_holds c.requires.holds table c.run.ensures.called }
