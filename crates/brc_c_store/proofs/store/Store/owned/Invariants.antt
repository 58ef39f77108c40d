use Rattle.std.proofs.Common.{◌≡◌, drop, fold}
use Rattle.brc_c_store.specs.Registers.{union_of}
use Rattle.brc_c_store.specs.Stores.{contents_of, owned_registers}
use Rattle.brc_c_store.proofs.store.Store.owned.Given as goal

abbrev pub invariant-loop-object : goal.invariant-loop-object
invariant-loop-object l =
    fold (λ taken object. union_of taken object.registers) l.owned (drop l.object-index l.self.objects.items)
    ≡ owned_registers (contents_of l.self)
