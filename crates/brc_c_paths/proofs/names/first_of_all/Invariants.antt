use Rattle.std.proofs.Common.{◌≡◌, drop, find}
use Rattle.brc_c_store.specs.Stores.{has_value}
use Rattle.brc_c_paths.proofs.names.first_of_all.Given as goal

abbrev pub invariant-loop-named : goal.invariant-loop-named
invariant-loop-named l =
    find (has_value l.id) (drop l.named-index l.store.values.items) ≡ find (has_value l.id) l.store.values.items
