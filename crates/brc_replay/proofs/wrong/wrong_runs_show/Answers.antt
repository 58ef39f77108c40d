use Rattle.brc_replay.proofs.Refuting.{shown}
use Rattle.brc_replay.proofs.wrong.wrong_runs_show.Goals as goal

pub returns : goal.returns
returns c = shown
