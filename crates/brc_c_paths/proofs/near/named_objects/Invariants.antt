use Rattle.std.proofs.Common.{◌≡◌, drop, fold}
use Rattle.brc_c_store.specs.Stores.{contents_of}
use Rattle.brc_c_paths.specs.CellsKept.{with_named_marked, named_objects}
use Rattle.brc_c_paths.proofs.near.named_objects.Given as goal

abbrev pub invariant-loop-named : goal.invariant-loop-named
invariant-loop-named l =
    fold (with_named_marked l.live l.node) l.near.items (drop l.named-index l.store.values.items)
    ≡ named_objects l.live l.node (contents_of l.store)
