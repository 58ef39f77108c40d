-- An interrupted read has consumed nothing, and the room is as long as it was.
use Rattle.std.proofs.Common.{◌≡◌, length}
use Rattle.std.specs.Io.KnownBytes.{Keeps}
use Rattle.brc_os.proofs.repeating.read_some.Given as goal

abbrev pub invariant-loop : goal.invariant-loop
invariant-loop g l =
    (length l.room ≡ length l.initial.room) × Keeps (g.S.Read.remaining l.initial.source) (g.S.Read.remaining l.source)
