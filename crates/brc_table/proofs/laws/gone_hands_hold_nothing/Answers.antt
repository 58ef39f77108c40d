use Rattle.brc_table.proofs.Guarding.{gone_hold}
use Rattle.brc_table.proofs.laws.gone_hands_hold_nothing.Goals as goal

pub returns : goal.returns
returns g c = gone_hold c.gone_threads_hold_nothing.ensures
