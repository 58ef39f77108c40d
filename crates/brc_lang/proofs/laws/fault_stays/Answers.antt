use Rattle.brc_lang.proofs.LongerTexts.{fault_stays}
use Rattle.brc_lang.proofs.laws.fault_stays.Goals as goal

pub returns : goal.returns
returns c = fault_stays
