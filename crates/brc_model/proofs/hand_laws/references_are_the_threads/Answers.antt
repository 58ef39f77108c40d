use Rattle.brc_model.proofs.Limits.Shares.{shares_of_threads}
use Rattle.brc_model.proofs.hand_laws.references_are_the_threads.Goals as goal

pub returns : goal.returns
returns c = shares_of_threads
