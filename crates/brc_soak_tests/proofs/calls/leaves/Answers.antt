use Rattle.std.proofs.Common.{sym, ◌∙◌}
use Rattle.brc_soak_tests.proofs.Counting.{tells_root}
use Rattle.brc_soak_tests.proofs.calls.leaves.Goals as goal

pub leave-requires-clause-root : goal.leave-requires-clause-root
leave-requires-clause-root g c κs within =
    tells_root c.args.ledger.now c.args.hand.now.view.references c.requires.tells
    (sym c.total.ensures ∙ c.if-total-ne1.false) (λ none. c.if-count-eq0.false (c.count.ensures ∙ none))
