use Rattle.brc_model.proofs.Keeping.FirstHands.{hands_begin}
use Rattle.brc_model.proofs.hand_laws.hands_begin.Goals as goal

pub returns : goal.returns
returns c = hands_begin
