use Rattle.std.proofs.Common.{◌≡◌, length, fold}
use Rattle.brc_c_store.specs.Stores.{contents_of}
use Rattle.brc_c_store.proofs.Ranges.{numbers_from}
use Rattle.brc_c_paths.specs.Lenders.{with_lender_forgotten, with_all_lenders_forgotten}
use Rattle.brc_c_paths.proofs.lenders.forget_all_lenders.Given as goal

abbrev pub invariant-loop-at : goal.invariant-loop-at
invariant-loop-at l =
    fold with_lender_forgotten (contents_of l.store) (numbers_from l.at (length l.fn.store.objects.items))
    ≡ with_all_lenders_forgotten (contents_of l.fn.store)
