use Rattle.std.proofs.Common.{◌≡◌, ◌||◌, ◌<◌, ℕ, false, take}
use Rattle.std.specs.Prelude.{◌==◌}
use Rattle.std.specs.List.{slice_index_or, list_any}
use Rattle.brc_lang.specs.Limits.{instruction_limit}
use Rattle.brc_check.specs.Tables.{leads_to}
use Rattle.brc_check.proofs.kept_points.marks_of.Given as goal

abbrev pub invariant-loop-instr : goal.invariant-loop-instr
invariant-loop-instr l =
    (point : ℕ) → point < instruction_limit
    → slice_index_or l.marks point false ≡ (point == 0 || list_any (leads_to point) (take l.instr-index l.code))
