use Rattle.brc_c_outline.proofs.Paths.{accepted_unbroken}
use Rattle.brc_c_outline.proofs.laws.accepted_is_unbroken.Goals as goal

pub returns : goal.returns
returns c = accepted_unbroken
