use Rattle.brc_table.proofs.Guarding.{marks_are_watched}
use Rattle.brc_table.proofs.laws.set_marks_are_watched.Goals as goal

pub returns : goal.returns
returns c = marks_are_watched c.queued_marks_are_watched.ensures
