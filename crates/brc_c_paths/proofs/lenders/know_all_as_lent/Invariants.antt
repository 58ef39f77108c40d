use Rattle.std.proofs.Common.{◌≡◌, length, fold}
use Rattle.brc_c_store.specs.Stores.{contents_of}
use Rattle.brc_c_store.proofs.Ranges.{numbers_from}
use Rattle.brc_c_paths.specs.Lenders.{with_known_as_lent, with_all_known_as_lent}
use Rattle.brc_c_paths.proofs.lenders.know_all_as_lent.Given as goal

abbrev pub invariant-loop-at : goal.invariant-loop-at
invariant-loop-at l =
    fold with_known_as_lent (contents_of l.store) (numbers_from l.at (length l.fn.store.objects.items))
    ≡ with_all_known_as_lent (contents_of l.fn.store)
