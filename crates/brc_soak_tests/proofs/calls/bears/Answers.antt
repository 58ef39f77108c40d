use Rattle.std.proofs.Common.{ℕ, List, ◌∷◌, sym, ap, ◌∙◌}
use Rattle.brc_soak_tests.proofs.Counting.{tells_more, tells_equal}
use Rattle.brc_soak_tests.proofs.calls.bears.Goals as goal

pub returns-clause-tells : goal.returns-clause-tells
returns-clause-tells c =
    let rows : List ℕ = c.args.hand.now.view.references in
    let row : ℕ = c.birth-row.result in
    tells_equal c.more.new.self (row ∷ rows) c.birth-row.new.hand.view.references
    (tells_more c.args.ledger.now c.more.new.self rows row c.requires.tells c.more.ensures.counts c.more.ensures.total)
    (c.birth-row.ensures.born.keeps.references ∙ ap (λ (x : ℕ). x ∷ rows) (sym c.birth-row.ensures.row))
