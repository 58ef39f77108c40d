use Rattle.brc_check.proofs.Searches.{second-exit}
use Rattle.brc_check.proofs.finding.pass_both.Goals as goal

pub returns : goal.returns
returns c =
    second-exit c.args.function.now c.args.wanted.at c.args.wanted.code c.args.visits.now c.pass.new.visits
    c.pass-2.new.visits c.args.turn c.pass-2.result c.requires.within
    (rw c.in_default.is at c.in_ok-path.ensures) c.pass-2.ensures
