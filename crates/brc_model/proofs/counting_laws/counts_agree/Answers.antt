use Rattle.brc_model.proofs.Promises.Counting as counting
use Rattle.brc_model.proofs.counting_laws.counts_agree.Goals as goal

pub returns : goal.returns
returns c = counting.counts_agree
