use Rattle.std.proofs.Common.{[], subst}
use Rattle.brc_table.specs.Hands.{TableState, IsOf}
use Rattle.brc_bench.proofs.AtRest.{rests_after_release, settles_at_rest, rests_after_settling}
use Rattle.brc_bench.proofs.lives.gives_up.Goals as goal

pub settle-requires-clause-duty : goal.settle-requires-clause-duty
settle-requires-clause-duty g c κs within =
    let table = subst (λ (w : TableState). IsOf w c.release.new.hand) c.new-finaliser.ensures c.release.ensures.table in
    let released =
    rests_after_release {after = c.release.new.hand} c.requires.resting table c.release.ensures.released in
    ([], settles_at_rest released)

pub returns : goal.returns
returns g c =
    let table = subst (λ (w : TableState). IsOf w c.release.new.hand) c.new-finaliser.ensures c.release.ensures.table in
    let released =
    rests_after_release {after = c.release.new.hand} c.requires.resting table c.release.ensures.released in
    let settles = c.settle.ensures.work [] (settles_at_rest released) in
    record {
      resting =
          rests_after_settling released (subst (λ (w : TableState). IsOf w c.settle.new.hand)
          c.new-finaliser.ensures c.settle.ensures.table)
          c.settle.ensures.chain settles.1;
    }
