-- What is gone from the rest was written.
use Rattle.std.proofs.Common.{◌≡◌, List, ℕ, ◌++◌, length}
use Rattle.std.specs.Io.KnownBytes.{Appends}
use Rattle.brc_os.proofs.repeating.write_whole.Given as goal

abbrev pub invariant-loop-rest : goal.invariant-loop-rest
invariant-loop-rest g l =
    (written : List ℕ) × (l.initial.rest ≡ written ++ l.rest)
    × Appends (g.T.Write.contents l.initial.target) (g.T.Write.contents l.target) written

abbrev pub decreases-loop-rest : goal.decreases-loop-rest
decreases-loop-rest g l = length l.rest
