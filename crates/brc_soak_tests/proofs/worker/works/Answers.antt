use Rattle.std.proofs.Common.{◌∷◌, []}
use Rattle.brc_model.specs.Layout.{root_row}
use Rattle.brc_fixtures.proofs.Alone.{alone_rests}
use Rattle.brc_soak_tests.proofs.Counting.{tells_none, tells_more, tells_whole, tells_equal}
use Rattle.brc_soak_tests.proofs.worker.works.Goals as goal

pub more-requires-clause-whole : goal.more-requires-clause-whole
more-requires-clause-whole g c =
    tells_whole c.new-ledger.result []
    (tells_none c.new-ledger.result 66 c.new-ledger.ensures.counts c.new-ledger.ensures.total)

pub loop-init : goal.loop-init
loop-init g c = (
  alone_rests c.args.worker.fresh,
  tells_equal c.more.new.self (root_row ∷ []) c.args.worker.hand.view.references
      (tells_more c.new-ledger.result c.more.new.self [] root_row
      (tells_none c.new-ledger.result 66 c.new-ledger.ensures.counts c.new-ledger.ensures.total) c.more.ensures.counts
      c.more.ensures.total) c.args.worker.fresh.references,
)
