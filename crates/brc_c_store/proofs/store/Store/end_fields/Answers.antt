use Rattle.std.proofs.Common.{length, sym, ◌∙◌, arith}
use Rattle.brc_c_store.specs.Stores.{contents_of}
use Rattle.brc_c_store.specs.Cells.{with_field_ended_at}
use Rattle.brc_c_store.proofs.CellsInTurn.{place_first, place_next, place_end}
use Rattle.brc_c_store.proofs.store.Store.end_fields.Goals as goal

pub loop-at-init : goal.loop-at-init
loop-at-init c =
    place_first with_field_ended_at (contents_of c.args.self.now) (length c.args.self.now.objects.items)

pub loop-at-preserved : goal.loop-at-preserved
loop-at-preserved c =
    place_next with_field_ended_at (contents_of c.loop-at.self) (contents_of c.end_field.new.self)
    c.loop-at.at (length c.args.self.now.objects.items) c.end_field.ensures (omega arith)
    ∙ c.loop-at.invariant

pub returns : goal.returns
returns c =
    sym (place_end with_field_ended_at (contents_of c.loop-at.self) c.loop-at.at
    (length c.args.self.now.objects.items) (omega arith))
    ∙ c.loop-at.invariant
