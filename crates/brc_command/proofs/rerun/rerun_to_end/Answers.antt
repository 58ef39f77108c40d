use Rattle.brc_command.proofs.Reports.{ends_unwritten}
use Rattle.brc_command.proofs.rerun.rerun_to_end.Goals as goal

pub returns-in-Err-Output-clause-ended : goal.returns-in-Err-Output-clause-ended
returns-in-Err-Output-clause-ended g c =
    ends_unwritten c.args.rerun.now _ _ c.end_unwritten.result c.end_unwritten.ensures.ended
