use Rattle.std.proofs.Common.{[], subst}
use Rattle.brc_table.specs.Hands.{TableState, IsOf}
use Rattle.brc_fixtures.proofs.Resting.{settles_at_rest, rests_after_settling}
use Rattle.brc_fixtures.proofs.at_rest.settles.Goals as goal

pub settle-requires-clause-duty : goal.settle-requires-clause-duty
settle-requires-clause-duty g c κs within = ([], settles_at_rest c.requires.resting)

pub returns-clause-resting : goal.returns-clause-resting
returns-clause-resting g c =
    let settles = c.settle.ensures.work [] (settles_at_rest c.requires.resting) in
    rests_after_settling c.requires.resting
    (subst (λ (w : TableState). IsOf w c.settle.new.hand) c.new.ensures c.settle.ensures.table)
    c.settle.ensures.chain settles.1

pub returns-clause-references : goal.returns-clause-references
returns-clause-references g c =
    (c.settle.ensures.work [] (settles_at_rest c.requires.resting)).1.keeps.references
