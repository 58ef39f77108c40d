use Rattle.std.proofs.Common.{rules}
use Rattle.brc_command.proofs.rerun.checked.Goals as goal

pub returns-in-Ok-true-clause-ended : goal.returns-in-Ok-true-clause-ended
returns-in-Ok-true-clause-ended c = record { count = c.args.count; wrong = c.in-Ok-true.ensures (search rules) }
