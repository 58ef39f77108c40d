use Rattle.std.proofs.Common.{◌≡◌, length, fold}
use Rattle.std.specs.List.{range_with_len}
use Rattle.brc_c_store.specs.Stores.{contents_of}
use Rattle.brc_c_store.proofs.Ranges.{numbers_from}
use Rattle.brc_c_paths.specs.Order.{with_sources_at}
use Rattle.brc_c_paths.proofs.ordering.add_sources.Given as goal

abbrev pub invariant-loop-turn : goal.invariant-loop-turn
invariant-loop-turn l =
    fold (with_sources_at (contents_of l.store)) l.order.items (numbers_from l.turn (length l.store.objects.items))
    ≡ fold (with_sources_at (contents_of l.store)) l.fn.order.items (range_with_len 0 (length l.store.objects.items))
