use Rattle.std.proofs.Common.{◌≡◌, ◌++◌, map, take, drop}
use Rattle.brc_c_paths.specs.Numbers.{numbered_name}
use Rattle.brc_c_paths.proofs.numbering.number_names.Given as goal

abbrev pub invariant-loop-named : goal.invariant-loop-named
invariant-loop-named l =
    l.names ≡ map (numbered_name l.order) (take l.named-index l.initial.names) ++ drop l.named-index l.initial.names
