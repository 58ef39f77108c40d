use Rattle.brc_model.proofs.Promises.Counting as laws
use Rattle.brc_model.proofs.counting_laws.handed_merges_live.Goals as goal

pub returns : goal.returns
returns c = laws.merges_live
