use Rattle.brc_model.proofs.Promises.RowLaws as rows
use Rattle.brc_model.proofs.row_laws.only_a_running_owner_counts.Goals as goal

pub returns : goal.returns
returns c = rows.only_owners_count
