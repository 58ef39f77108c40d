use Rattle.brc_check.proofs.Points.{true_unless_reported}
use Rattle.brc_check.proofs.inferring.first_states.Goals as goal

pub returns-clause-truth : goal.returns-clause-truth
returns-clause-truth c =
    true_unless_reported c.args.function.now c.fill.new.filling.entries c.in_ok-_reported._reported
    c.in_ok-_reported.ensures.filled
