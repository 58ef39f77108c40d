use Rattle.brc_word.proofs.Words.{spelled}
use Rattle.brc_word.proofs.laws.header_words.Goals as goal

pub returns-clause-spelled : goal.returns-clause-spelled
returns-clause-spelled c = spelled
