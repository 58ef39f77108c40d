use Rattle.brc_c_outline.proofs.Paths.{walk_is_path}
use Rattle.brc_c_outline.proofs.laws.every_walk_is_a_path.Goals as goal

pub returns : goal.returns
returns c = walk_is_path
