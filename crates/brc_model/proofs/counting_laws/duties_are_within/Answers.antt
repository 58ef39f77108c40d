use Rattle.brc_model.proofs.Promises.Counting as counting
use Rattle.brc_model.proofs.counting_laws.duties_are_within.Goals as goal

pub returns : goal.returns
returns c = counting.duties_within
