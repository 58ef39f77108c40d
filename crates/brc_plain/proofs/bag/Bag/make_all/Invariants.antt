use Rattle.std.proofs.Common.{◌≡◌, drop, map}
use Rattle.brc_model.specs.AbstractState as model
use Rattle.brc_plain.specs.Bags.{bag_in, move_in}
use Rattle.brc_plain.proofs.bag.Bag.make_all.Given as goal

-- The moves left lead where all of them led.
abbrev pub invariant-loop-change : goal.invariant-loop-change
invariant-loop-change l =
    model.moved (bag_in l.self) (map move_in (drop l.change-index l.changes))
    ≡ model.moved (bag_in l.fn.self) (map move_in l.changes)
