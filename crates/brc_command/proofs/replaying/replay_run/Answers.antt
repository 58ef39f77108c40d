use Rattle.brc_command.specs.Reruns.{RunEnds}
use Rattle.brc_command.proofs.Rerunning.{handed_on}
use Rattle.brc_command.proofs.replaying.replay_run.Goals as goal

pub returns-clause-ended : goal.returns-clause-ended
returns-clause-ended g c =
    handed_on (RunEnds c.args.rerun.now (g.W.Write.contents c.args.out.now)
    (g.W.Write.contents c.rerun_to_end.new.out))
    c.with_picture.result c.in_ok-ending.ending c.with_picture.ensures.same c.in_ok-ending.ensures.ended
