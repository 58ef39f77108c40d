use Rattle.brc_plain.specs.Plains.{machine_in}
use Rattle.brc_command.proofs.Reports.{all_taken, ended_before, ends_reported}
use Rattle.brc_command.proofs.rerun.write_run.Goals as goal

pub returns-in-Ok-Some-clause-ended : goal.returns-in-Ok-Some-clause-ended
returns-in-Ok-Some-clause-ended g c =
    ended_before c.args.rerun.now (machine_in c.take_steps-taken.new.plain) _ _ _ c.in-Ok-Some.field-0
    c.in-Ok-Some.ending c.in-Ok-Some.field-0-is c.in-Ok-Some.ensures.ended

pub returns-in-Ok-None-clause-ended : goal.returns-in-Ok-None-clause-ended
returns-in-Ok-None-clause-ended g c =
    ends_reported c.args.rerun.now (machine_in c.take_steps-taken.new.plain) _ _ _
    (all_taken c.args.rerun.now (machine_in c.take_steps-taken.new.plain) _ _ c.in-Ok-None.field-0
    c.in-Ok-None.field-0-is c.in-Ok-None.ensures.ended)
    c.end.result c.end.ensures.ended
