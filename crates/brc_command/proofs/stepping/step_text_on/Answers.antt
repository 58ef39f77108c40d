use Rattle.std.proofs.Common.{ap, subst}
use Rattle.std.specs.Io.KnownBytes.{Appends}
use Rattle.brc_lang.specs.Written.{AppendsBeginning}
use Rattle.brc_report.specs.Report.{tally_text}
use Rattle.brc_command.proofs.Machines.{tally_of_machine}
use Rattle.brc_command.proofs.stepping.step_text_on.Goals as goal

pub returns-in-Ok-clause-stepped : goal.returns-in-Ok-clause-stepped
returns-in-Ok-clause-stepped g c =
    let had = c.in_ok-tally.ensures in
    record {
      m = had.m;
      s = had.s;
      ready = had.ready;
      reported = subst (Appends (g.W.Write.contents c.args.out.now) (g.W.Write.contents c.write_tally.new.writer))
          (ap tally_text had.counted) c.in-Ok.ensures.whole;
      machine = tally_of_machine c.runs_follow_machines.ensures c.tallies_follow_machines.ensures
          c.args.module.now c.args.schedule.now had.m had.s had.ready;
    }

pub returns-clause-begun : goal.returns-clause-begun
returns-clause-begun g c = λ _.
    let had = c.in_ok-tally.ensures in
    record {
      m = had.m;
      s = had.s;
      ready = had.ready;
      begun = subst (AppendsBeginning (g.W.Write.contents c.args.out.now)
          (g.W.Write.contents c.write_tally.new.writer)) (ap tally_text had.counted) c.in-Err.ensures.begun;
    }
