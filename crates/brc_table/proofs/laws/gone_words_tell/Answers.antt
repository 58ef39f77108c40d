use Rattle.brc_table.proofs.Guarding.{gone_words}
use Rattle.brc_table.proofs.laws.gone_words_tell.Goals as goal

pub returns : goal.returns
returns c = gone_words
