use Rattle.std.proofs.Common.{ℕ, List, ◌∷◌, ◌∙◌}
use Rattle.std.proofs.lemmas.Bool.{ne_eqb}
use Rattle.brc_soak_tests.proofs.Counting.{tells_more, tells_equal}
use Rattle.brc_fixtures.proofs.Resting.{some_counted, lists_one_more}
use Rattle.brc_soak_tests.proofs.calls.retains.Goals as goal

pub returns-clause-tells : goal.returns-clause-tells
returns-clause-tells c =
    let rows : List ℕ = c.args.hand.now.view.references in
    let row : ℕ = c.args.row in
    let none = c.requires.resting.no_lists in
    let counted = some_counted c.args.heap.now.layout row none (ne_eqb row 0 c.if-row-eq0.false) in
    tells_equal c.more.new.self (row ∷ rows) c.retain.new.hand.view.references
    (tells_more c.args.ledger.now c.more.new.self rows row c.requires.tells c.more.ensures.counts c.more.ensures.total)
    (c.retain.ensures.references ∙ lists_one_more row rows counted c.requires.resting.table.1)
