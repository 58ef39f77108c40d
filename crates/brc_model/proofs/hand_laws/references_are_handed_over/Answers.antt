use Rattle.brc_model.proofs.Keeping.HandedOver.{handed_over}
use Rattle.brc_model.proofs.hand_laws.references_are_handed_over.Goals as goal

pub returns : goal.returns
returns c = handed_over
