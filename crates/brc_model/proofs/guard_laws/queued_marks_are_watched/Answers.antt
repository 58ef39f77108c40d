use Rattle.brc_model.proofs.Promises.Guarded as guarded
use Rattle.brc_model.proofs.guard_laws.queued_marks_are_watched.Goals as goal

pub returns : goal.returns
returns c = guarded.marks_guarded
