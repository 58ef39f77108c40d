use Rattle.std.proofs.Common.{◌≡◌, drop, fold}
use Rattle.brc_c_paths.specs.Order.{with_object_of}
use Rattle.brc_c_paths.proofs.ordering.add_of_names.Given as goal

abbrev pub invariant-loop-named : goal.invariant-loop-named
invariant-loop-named l =
    fold with_object_of l.order.items (drop l.named-index l.names) ≡ fold with_object_of l.fn.order.items l.names
