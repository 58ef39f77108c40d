use Rattle.std.proofs.Common.{◌≡◌, drop, map}
use Rattle.brc_model.specs.AbstractState as model
use Rattle.brc_plain.specs.Bags.{bag_in, move_in}
use Rattle.brc_plain.proofs.bag.Bag.are_allowed.Given as goal

-- The moves left are allowed in the copy exactly if all of them are in the state.
abbrev pub invariant-loop-change : goal.invariant-loop-change
invariant-loop-change l =
    model.are_allowed l.layout (bag_in l.state) (map move_in (drop l.change-index l.changes))
    ≡ model.are_allowed l.layout (bag_in l.self) (map move_in l.changes)
