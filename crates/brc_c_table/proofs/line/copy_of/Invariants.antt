use Rattle.std.proofs.Common.{◌≡◌, take}
use Rattle.brc_c_table.proofs.line.copy_of.Given as goal

abbrev pub invariant-loop-byte : goal.invariant-loop-byte
invariant-loop-byte l = l.copy ≡ take l.byte-index l.name
