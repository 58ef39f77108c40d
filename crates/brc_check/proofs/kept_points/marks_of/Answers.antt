use Rattle.brc_check.proofs.Marks.{first_marks}
use Rattle.brc_check.proofs.kept_points.marks_of.Goals as goal

pub loop-instr-init : goal.loop-instr-init
loop-instr-init c = first_marks
