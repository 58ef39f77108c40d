use Rattle.brc_c_outline.proofs.Paths.{path_has_walk}
use Rattle.brc_c_outline.proofs.laws.every_path_has_its_walk.Goals as goal

pub returns : goal.returns
returns c = path_has_walk
