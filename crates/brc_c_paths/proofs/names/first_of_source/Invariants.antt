use Rattle.std.proofs.Common.{◌≡◌, ◌&&◌, drop, find}
use Rattle.brc_c_store.specs.Stores.{contents_of, has_value}
use Rattle.brc_c_paths.specs.NamesKept.{has_name, first_of_source}
use Rattle.brc_c_paths.proofs.names.first_of_source.Given as goal

abbrev pub invariant-loop-named : goal.invariant-loop-named
invariant-loop-named l =
    find (λ n. has_value l.id n && has_name l.graph n.local) (drop l.named-index l.store.values.items)
    ≡ first_of_source l.graph (contents_of l.store) l.id
