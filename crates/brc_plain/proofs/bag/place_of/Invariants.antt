use Rattle.std.proofs.Common.{◌≡◌, map}
use Rattle.brc_model.specs.AbstractState as model
use Rattle.brc_plain.specs.Bags.{reference_in}
use Rattle.brc_plain.proofs.Bags.{without_from}
use Rattle.brc_plain.proofs.bag.place_of.Given as goal

-- None of the references so far is the same.
abbrev pub invariant-loop-at : goal.invariant-loop-at
invariant-loop-at l =
    without_from (reference_in l.reference) l.references l.at
    ≡ model.without (reference_in l.reference) (map reference_in l.references)
