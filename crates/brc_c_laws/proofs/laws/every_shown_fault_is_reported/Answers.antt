use Rattle.std.proofs.Common.{subst}
use Rattle.brc_model.specs.Paths.{ReportsCode}
use Rattle.brc_c_laws.proofs.Showing.{shown_code, shown_broken}
use Rattle.brc_c_laws.proofs.laws.every_shown_fault_is_reported.Goals as goal

pub returns : goal.returns
returns c rules graph found o f outlined image node code followed broken e =
    subst (ReportsCode f broken.at) (shown_code rules graph found o outlined node code broken followed e)
    (c.every_path_has_its_walk.ensures f o broken.at broken.code image
    (shown_broken rules graph found o outlined node code broken followed e))
