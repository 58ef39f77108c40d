use Rattle.brc_model.proofs.Promises.MarksWatched as marks
use Rattle.brc_model.proofs.row_laws.marks_are_watched.Goals as goal

pub returns : goal.returns
returns c = marks.marks_watched
