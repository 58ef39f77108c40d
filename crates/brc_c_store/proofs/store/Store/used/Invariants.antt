use Rattle.std.proofs.Common.{◌≡◌, drop, fold}
use Rattle.brc_c_store.specs.Stores.{contents_of, with_item, used_registers}
use Rattle.brc_c_store.proofs.store.Store.used.Given as goal

abbrev pub invariant-loop-object : goal.invariant-loop-object
invariant-loop-object l =
    fold (λ taken object. with_item taken object.base) l.used (drop l.object-index l.self.objects.items)
    ≡ used_registers (contents_of l.self)
