use Rattle.std.proofs.Common.{◌≡◌, length}
use Rattle.std.specs.List.{list_any}
use Rattle.brc_c_store.specs.Asking.{is_left}
use Rattle.brc_c_store.specs.Stores.{contents_of}
use Rattle.brc_c_store.specs.Faults.{leaves}
use Rattle.brc_c_store.proofs.Ranges.{numbers_from}
use Rattle.brc_c_store.proofs.breaking.leaves.Given as goal

abbrev pub invariant-loop-at : goal.invariant-loop-at
invariant-loop-at l =
    list_any (λ at. is_left (contents_of l.store) l.returned (record { 0 = at }))
    (numbers_from l.at (length l.store.objects.items))
    ≡ leaves (contents_of l.store) l.returned
