use Rattle.brc_model.proofs.Promises.Counting as counting
use Rattle.brc_model.proofs.counting_laws.accounts_are_there.Goals as goal

pub returns : goal.returns
returns c = counting.accounts_there
