use Rattle.std.proofs.Common.{length, sym, ◌∙◌, arith}
use Rattle.brc_c_store.specs.Stores.{contents_of}
use Rattle.brc_c_store.specs.Cells.{with_after_code}
use Rattle.brc_c_store.proofs.CellsInTurn.{place_first, place_next, place_end}
use Rattle.brc_c_store.proofs.store.Store.forget_cells.Goals as goal

pub loop-at-init : goal.loop-at-init
loop-at-init c = place_first with_after_code (contents_of c.args.self.now) (length c.args.self.now.cells.items)

pub loop-at-preserved : goal.loop-at-preserved
loop-at-preserved c =
    place_next with_after_code (contents_of c.loop-at.self) (contents_of c.run_code_at.new.self)
    c.loop-at.at (length c.args.self.now.cells.items) c.run_code_at.ensures (omega arith)
    ∙ c.loop-at.invariant

pub returns : goal.returns
returns c =
    sym (place_end with_after_code (contents_of c.loop-at.self) c.loop-at.at
    (length c.args.self.now.cells.items) (omega arith))
    ∙ c.loop-at.invariant
