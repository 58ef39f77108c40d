use Rattle.std.proofs.Common.{[], subst}
use Rattle.brc_table.specs.Hands.{TableState, IsOf}
use Rattle.brc_queue_tests.proofs.Steps.{comes, settled}
use Rattle.brc_queue_tests.proofs.sharing.settles.Goals as goal

pub settle-requires-clause-duty : goal.settle-requires-clause-duty
settle-requires-clause-duty g c = λ lives within. ([], comes c.requires.holds)

pub returns : goal.returns
returns g c = record {
  holds =
      let work = c.settle.ensures.work [] (comes c.requires.holds) in
      let table = subst (λ (w : TableState). IsOf w c.settle.new.hand) c.new.ensures c.settle.ensures.table in
      settled c.requires.holds table work.1 c.settle.ensures.carried;
}
