-- An interrupted write has written nothing.
use Rattle.std.specs.Io.KnownBytes.{Keeps}
use Rattle.brc_os.proofs.repeating.write_some.Given as goal

abbrev pub invariant-loop : goal.invariant-loop
invariant-loop g l = Keeps (g.T.Write.contents l.initial.target) (g.T.Write.contents l.target)
