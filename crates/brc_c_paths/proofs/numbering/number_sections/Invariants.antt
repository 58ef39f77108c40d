use Rattle.std.proofs.Common.{◌≡◌, ◌++◌, map, take, drop}
use Rattle.brc_c_paths.specs.Numbers.{numbered_section}
use Rattle.brc_c_paths.proofs.numbering.number_sections.Given as goal

abbrev pub invariant-loop-section : goal.invariant-loop-section
invariant-loop-section l =
    l.sections ≡ map (numbered_section l.order) (take l.section-index l.initial.sections)
    ++ drop l.section-index l.initial.sections
