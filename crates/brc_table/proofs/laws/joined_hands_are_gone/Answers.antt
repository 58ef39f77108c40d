use Rattle.brc_table.proofs.Joining.{joined_are_gone}
use Rattle.brc_table.proofs.laws.joined_hands_are_gone.Goals as goal

pub returns : goal.returns
returns c = joined_are_gone c.gone_threads_hold_nothing.ensures
