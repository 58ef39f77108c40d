use Rattle.std.proofs.Common.{◌≡◌, take, filter}
use Rattle.brc_c_store.specs.Stores.{contents_of}
use Rattle.brc_c_paths.specs.NamesKept.{is_name_kept}
use Rattle.brc_c_paths.proofs.names.names_kept.Given as goal

abbrev pub invariant-loop-named : goal.invariant-loop-named
invariant-loop-named l =
    l.kept.items
    ≡ filter (is_name_kept l.graph l.live l.node (contents_of l.store)) (take l.named-index l.store.values.items)
