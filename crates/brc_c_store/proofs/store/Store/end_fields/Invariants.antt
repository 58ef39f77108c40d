use Rattle.std.proofs.Common.{◌≡◌, length, fold}
use Rattle.brc_c_store.specs.Stores.{contents_of}
use Rattle.brc_c_store.specs.Cells.{with_field_ended_at, with_fields_ended}
use Rattle.brc_c_store.proofs.Ranges.{numbers_from}
use Rattle.brc_c_store.proofs.store.Store.end_fields.Given as goal

abbrev pub invariant-loop-at : goal.invariant-loop-at
invariant-loop-at l =
    fold with_field_ended_at (contents_of l.self) (numbers_from l.at (length l.fn.self.objects.items))
    ≡ with_fields_ended (contents_of l.fn.self)
