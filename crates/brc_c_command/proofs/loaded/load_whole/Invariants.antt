-- Nothing is read so far, or a beginning.
use Rattle.std.specs.Prelude.{◌-◌, ◌^◌, length}
use Rattle.brc_command.specs.Loading.{IsReadSoFar}
use Rattle.brc_c_command.proofs.loaded.load_whole.Given as goal

abbrev pub invariant-loop-bytes : goal.invariant-loop-bytes
invariant-loop-bytes g l = IsReadSoFar (g.L.Load.may_give l.load) l.path l.bytes.items

abbrev pub decreases-loop-bytes : goal.decreases-loop-bytes
decreases-loop-bytes g l = 2 ^ 64 - length l.bytes.items
