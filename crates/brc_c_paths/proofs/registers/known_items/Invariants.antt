use Rattle.std.proofs.Common.{◌≡◌, drop, fold}
use Rattle.brc_c_store.specs.Stores.{contents_of, with_item}
use Rattle.brc_c_paths.specs.Registers.{known_items}
use Rattle.brc_c_paths.proofs.registers.known_items.Given as goal

abbrev pub invariant-loop-object : goal.invariant-loop-object
invariant-loop-object l =
    fold (λ items object. with_item items object.base) l.items (drop l.object-index l.store.objects.items)
    ≡ known_items (contents_of l.store)
