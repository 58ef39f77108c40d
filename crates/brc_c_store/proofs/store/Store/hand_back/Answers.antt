use Rattle.std.proofs.Common.{refl, ap, slice_get, ◌∙◌}
use Rattle.brc_c_store.specs.Stores.{Contents, contents_of}
use Rattle.brc_c_store.specs.Cells.{handed_back_at}
use Rattle.brc_c_store.proofs.CellsInTurn.{cell_next, cells_of_handed_back_at}
use Rattle.brc_c_store.proofs.store.Store.hand_back.Goals as goal

pub loop-at-preserved : goal.loop-at-preserved
loop-at-preserved c =
    let same =
    ap (λ (d : Contents). d.cells) c.give_back_at.ensures
    ∙ cells_of_handed_back_at (contents_of c.loop-at.self) (slice_get c.loop-at.self.cells.items c.loop-at.at) in (
      cell_next handed_back_at (λ _. refl) (contents_of c.loop-at.self) (contents_of c.give_back_at.new.self)
          c.loop-at.at c.give_back_at.ensures same
          ∙ c.loop-at.invariant.0,
      same ∙ c.loop-at.invariant.1,
    )
