use Rattle.std.proofs.Common.{◌≡◌, map, take}
use Rattle.brc_c_store.specs.Stores.{contents_of, object_at}
use Rattle.brc_c_paths.specs.Numbers.{numbered_object}
use Rattle.brc_c_paths.proofs.numbering.objects_in.Given as goal

abbrev pub invariant-loop-id : goal.invariant-loop-id
invariant-loop-id l =
    l.objects.items
    ≡ map (λ id. numbered_object l.order (object_at (contents_of l.store) id)) (take l.id-index l.order)
