use Rattle.brc_model.proofs.Limits.Ranges.{cell_small}
use Rattle.brc_model.proofs.cell_laws.items_are_there.Goals as goal

pub returns : goal.returns
returns c = λ p n m x i y counts is. cell_small x i y counts.kept.core is
