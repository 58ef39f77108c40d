use Rattle.std.proofs.Common.{map}
use Rattle.brc_lang.proofs.ArgumentLists.{ArgumentsSoFar}
use Rattle.brc_lang.proofs.calling.arguments.Given as goal

abbrev pub invariant-loop-number : goal.invariant-loop-number
invariant-loop-number l = ArgumentsSoFar l.parameters (map (λ w. w.now) l.words) l.number l.arguments
