-- The events so far are made, and their lines written.
use Rattle.brc_plain.specs.Plains.{machine_in}
use Rattle.brc_command.specs.Reruns.{AreTaken}
use Rattle.brc_command.proofs.rerun.take_steps.Given as goal

abbrev pub invariant-loop-at : goal.invariant-loop-at
invariant-loop-at g l =
    AreTaken l.rerun l.at (machine_in l.plain) (g.W.Write.contents l.fn.out) (g.W.Write.contents l.out)
