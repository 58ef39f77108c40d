use Rattle.std.proofs.Common.{ℕ, List, [], ◌∙◌, subst, arith}
use Rattle.std.proofs.lemmas.Bool.{ne_eqb}
use Rattle.brc_table.specs.Hands.{TableState, IsOf}
use Rattle.brc_table.specs.Views.{without_one}
use Rattle.brc_fixtures.proofs.Resting.{some_counted, rests_after_release, settles_at_rest, rests_after_settling, lists_one_less}
use Rattle.brc_soak_tests.proofs.Counting.{tells_less, tells_equal}
use Rattle.brc_soak_tests.proofs.calls.gives_up.Goals as goal

pub settle-requires-clause-duty : goal.settle-requires-clause-duty
settle-requires-clause-duty g c κs within =
    let table = subst (λ (w : TableState). IsOf w c.release.new.hand) c.new-finaliser.ensures c.release.ensures.table in
    let released =
    rests_after_release {after = c.release.new.hand} c.requires.resting table c.release.ensures.released in
    ([], settles_at_rest released)

pub returns-clause-resting : goal.returns-clause-resting
returns-clause-resting g c =
    let table = subst (λ (w : TableState). IsOf w c.release.new.hand) c.new-finaliser.ensures c.release.ensures.table in
    let released =
    rests_after_release {after = c.release.new.hand} c.requires.resting table c.release.ensures.released in
    let settles = c.settle.ensures.work [] (settles_at_rest released) in
    let kept = subst (λ (w : TableState). IsOf w c.settle.new.hand) c.new-finaliser.ensures c.settle.ensures.table in
    rests_after_settling released kept c.settle.ensures.chain settles.1

pub returns-clause-tells : goal.returns-clause-tells
returns-clause-tells g c =
    let table = subst (λ (w : TableState). IsOf w c.release.new.hand) c.new-finaliser.ensures c.release.ensures.table in
    let released =
    rests_after_release {after = c.release.new.hand} c.requires.resting table c.release.ensures.released in
    let settles = c.settle.ensures.work [] (settles_at_rest released) in
    let rows : List ℕ = c.args.hand.now.view.references in
    let row : ℕ = c.args.row in
    let none = c.requires.resting.no_lists in
    let counted = some_counted c.args.heap.now.layout row none (ne_eqb row 0 c.if-row-eq0.false) in
    tells_equal c.less.new.self (without_one row rows) c.settle.new.hand.view.references
    (tells_less c.args.ledger.now c.less.new.self rows row c.requires.tells (omega (
      arith,
      c.if-count-eq0.false,
      c.count.ensures,
    )) c.less.ensures.counts
    c.less.ensures.total)
    (settles.1.keeps.references
    ∙ (c.release.ensures.released.keeps.references ∙ lists_one_less row rows counted c.requires.resting.table.1))
