use Rattle.brc_lang.proofs.Uniqueness.{one_text}
use Rattle.brc_lang.proofs.laws.one_text.Goals as goal

pub returns : goal.returns
returns c = one_text
