-- What a step belongs to, as a reader of a trace sees it.
use Rattle.std.specs.Prelude.{ℕ, List, [], ◌++◌, Option, None, Some, slice_get, codes, decimal}
use Rattle.brc_lang.specs.declared.module.Function.{Function}
use Rattle.brc_lang.specs.declared.module.Instr.{Instr}
use Rattle.brc_lang.specs.Grammar.{instruction}
use Rattle.brc_machine.specs.declared.sight.ExitPart.{ExitPart}
use Rattle.brc_machine.specs.declared.sight.ExitPart.TheVariants.{Root, Leave, Marks, Gone}
use Rattle.brc_machine.specs.declared.sight.Part.{Part}
use Rattle.brc_machine.specs.declared.sight.Part.TheVariants.{Instruction, Claim, Stop, Exit}

-- the instruction as a module of these functions spells it
abbrev pub instr_text : List Function → Option Instr → List ℕ
instr_text functions None = []
instr_text functions (Some i) = codes " " ++ instruction functions i

-- the function's name, the instruction's number from 0, and the instruction
abbrev pub point_text : List Function → Option Function → ℕ → List ℕ
point_text functions None at = codes "@" ++ decimal at
point_text functions (Some f) at =
    f.name ++ codes " @" ++ decimal at ++ instr_text functions (slice_get f.code at)

abbrev pub exit_text : ExitPart → List ℕ
exit_text Root = codes "exit: root"
exit_text Leave = codes "exit: leave"
exit_text Marks = codes "exit: marks"
exit_text Gone = codes "exit: gone"

-- the part of the work of a thread that calls the function of this number
abbrev pub part_text : List Function → ℕ → Part → List ℕ
part_text functions number (Instruction at) = point_text functions (slice_get functions number) at
part_text functions number (Claim row) = codes "claim of row " ++ decimal row
part_text functions number Stop = codes "stop"
part_text functions number (Exit part) = exit_text part
