use Rattle.std.proofs.Common.{sym, subst}
use Rattle.brc_command.specs.declared.unchecked.Unchecked.{Unchecked}
use Rattle.brc_command.specs.WrongRuns.{EndsUnchecked}
use Rattle.brc_command.proofs.carrying_unchecked.execute_unchecked.Goals as goal

pub returns-in-Step-clause-ends : goal.returns-in-Step-clause-ends
returns-in-Step-clause-ends g c =
    let ended = c.step_unchecked.ensures in
    subst (λ (asked : Unchecked). EndsUnchecked (g.L.Load.may_give c.args.load.now)
    (g.L.Load.may_lack c.args.load.now) asked (g.W.Write.contents c.args.out.now)
    (g.W.Write.contents c.step_unchecked.new.out) (g.E.Write.contents c.args.err.now)
    (g.E.Write.contents c.step_unchecked.new.err) c.step_unchecked.result) (sym c.in-Step.is)
    ((λ is. (ended.reported is, ended.silent is)), ended.wrong, ended.why, ended.memory)
