use Rattle.brc_c_laws.proofs.Following.{path_followed}
use Rattle.brc_c_laws.proofs.laws.every_graph_path_is_followed.Goals as goal

pub returns : goal.returns
returns c rules graph live found exceeds o searched outlined choices =
    path_followed rules graph live found exceeds o searched outlined choices
