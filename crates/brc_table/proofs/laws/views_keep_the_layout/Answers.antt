use Rattle.brc_table.proofs.Guarding.{views_keep}
use Rattle.brc_table.proofs.laws.views_keep_the_layout.Goals as goal

pub returns : goal.returns
returns c = views_keep
