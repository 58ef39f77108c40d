use Rattle.brc_model.proofs.Promises.Ending as ending
use Rattle.brc_model.proofs.hand_laws.rows_end.Goals as goal

pub returns : goal.returns
returns c = ending.rows_end
