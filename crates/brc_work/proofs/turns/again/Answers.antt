use Rattle.std.proofs.Common.{refl, arith}
use Rattle.brc_work.proofs.Traces.Turns.{goes_back, goes_past}
use Rattle.brc_work.proofs.turns.again.Goals as goal
use Rattle.brc_work.proofs.turns.again.Goals.{then-at-ge256-via-then-at-ge256, then-at-ge256-via-else-at-ge256+then-turns-at}

pub returns-then-at-ge256 : goal.returns-then-at-ge256
returns-then-at-ge256 c =
    goes_past c.args.at c.args.times c.args.turns.now (λ low.
    elim c.then-at-ge256.branch [
      | then-at-ge256-via-then-at-ge256 w ↦ absurd (omega (arith, low))
      | then-at-ge256-via-else-at-ge256+then-turns-at w ↦ omega (arith, w.if-turns-at.true)
    ])

pub returns : goal.returns
returns c = goes_back c.args.at c.args.times c.args.turns.now _ (omega (arith, c.if-turns-at.false)) refl
