use Rattle.std.proofs.Common.{refl, ap, slice_get, ◌∙◌}
use Rattle.brc_c_store.specs.Stores.{Contents, contents_of}
use Rattle.brc_c_store.specs.Cells.{handed_back_of}
use Rattle.brc_c_store.proofs.CellsInTurn.{cell_next, cells_of_handed_back_of}
use Rattle.brc_c_store.proofs.store.Store.hand_back_of.Goals as goal

pub loop-at-preserved : goal.loop-at-preserved
loop-at-preserved c =
    let before = contents_of c.loop-at.self in
    let after = contents_of c.give_back_of.new.self in
    let at = c.loop-at.at in
    let given = c.give_back_of.ensures in
    let same =
    ap (λ (d : Contents). d.cells) given
    ∙ cells_of_handed_back_of before c.args.holder (slice_get before.cells at) in (
      cell_next (λ d o. handed_back_of d c.args.holder o) (λ _. refl) before after at given same
          ∙ c.loop-at.invariant.0,
      same ∙ c.loop-at.invariant.1,
    )
