use Rattle.brc_command.specs.Reruns.{first_of}
use Rattle.brc_command.proofs.RightSteps.{stops_at_last}
use Rattle.brc_command.proofs.rerun.lost_at_end.Goals as goal

pub checked-requires-clause-stops : goal.checked-requires-clause-stops
checked-requires-clause-stops c =
    stops_at_last (first_of c.args.rerun.now) c.args.rerun.now.events.now c.requires.made.right
