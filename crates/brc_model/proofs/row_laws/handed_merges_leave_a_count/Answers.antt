use Rattle.brc_model.proofs.Promises.HandedMerges as merges
use Rattle.brc_model.proofs.row_laws.handed_merges_leave_a_count.Goals as goal

pub returns : goal.returns
returns c = merges.merges_leave_a_count
