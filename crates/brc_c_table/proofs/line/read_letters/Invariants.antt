use Rattle.std.proofs.Common.{◌≡◌, [], length}
use Rattle.brc_c_table.specs.Lines.{letters_in}
use Rattle.brc_c_table.proofs.line.read_letters.Given as goal

abbrev pub invariant-loop-rest : goal.invariant-loop-rest
invariant-loop-rest l = letters_in [] l.word ≡ letters_in l.takes l.rest

abbrev pub decreases-loop-rest : goal.decreases-loop-rest
decreases-loop-rest l = length l.rest
