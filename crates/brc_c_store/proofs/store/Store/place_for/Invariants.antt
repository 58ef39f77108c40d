use Rattle.std.proofs.Common.{◌≡◌, ◌+◌, drop}
use Rattle.std.specs.List.{prefix_len}
use Rattle.brc_c_store.specs.Stores.{is_before}
use Rattle.brc_c_store.proofs.store.Store.place_for.Given as goal

abbrev pub invariant-loop-at : goal.invariant-loop-at
invariant-loop-at l =
    l.at + prefix_len (is_before l.local) (drop l.at l.self.values.items)
    ≡ prefix_len (is_before l.local) l.self.values.items
