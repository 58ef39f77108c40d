-- The greatest depth so far, and that of the instructions that are left, are those of the whole code.
use Rattle.std.proofs.Common.{◌≡◌, ◌≤◌, drop}
use Rattle.std.specs.Prelude.{max}
use Rattle.brc_lang.specs.Grammar.{depth_of, depths}
use Rattle.brc_lang.proofs.reading.depth.Given as goal

abbrev pub invariant-loop-instr : goal.invariant-loop-instr
invariant-loop-instr l =
    (1 ≤ l.depth) × (max l.depth (depth_of (depths l.above.functions) (drop l.instr-index l.code))
    ≡ depth_of (depths l.above.functions) l.code)
