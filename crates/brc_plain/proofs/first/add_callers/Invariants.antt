use Rattle.std.proofs.Common.{◌≡◌, ◌++◌, map}
use Rattle.brc_model.specs.StepMachine.{callers_below}
use Rattle.brc_plain.specs.Bags.{reference_in}
use Rattle.brc_plain.proofs.first.add_callers.Given as goal

abbrev pub invariant-loop-left : goal.invariant-loop-left
invariant-loop-left l =
    map reference_in l.references.items ++ callers_below l.left
    ≡ map reference_in l.fn.references.items ++ callers_below l.callers

abbrev pub decreases-loop-left : goal.decreases-loop-left
decreases-loop-left l = l.left
