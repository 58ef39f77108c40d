use Rattle.brc_model.proofs.Keeping.BirthsBegin as births
use Rattle.brc_model.proofs.work_laws.births_begin.Goals as goal

pub returns : goal.returns
returns c = births.births_begin
