use Rattle.std.proofs.Common.{◌≡◌, drop, find}
use Rattle.brc_c_store.specs.Stores.{contents_of, is_of, value_in, value_of}
use Rattle.brc_c_store.proofs.store.Store.value.Given as goal

abbrev pub invariant-loop-named : goal.invariant-loop-named
invariant-loop-named l =
    value_in (find (is_of l.local) (drop l.named-index l.self.values.items)) ≡ value_of (contents_of l.self) l.local
