use Rattle.brc_model.proofs.Promises.Counting as counting
use Rattle.brc_model.proofs.counting_laws.duties_are_kept.Goals as goal

pub returns : goal.returns
returns c = counting.duties_kept
