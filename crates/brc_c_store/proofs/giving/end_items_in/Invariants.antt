use Rattle.std.proofs.Common.{◌≡◌, ◌++◌, map, take, drop}
use Rattle.brc_c_store.specs.Giving.{without_item}
use Rattle.brc_c_store.proofs.giving.end_items_in.Given as goal

abbrev pub invariant-loop-object : goal.invariant-loop-object
invariant-loop-object l =
    l.objects ≡ map without_item (take l.object-index l.initial.objects) ++ drop l.object-index l.initial.objects
