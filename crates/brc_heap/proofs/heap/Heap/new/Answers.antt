use Rattle.std.proofs.Common.{◌≤◌, sym, subst, arith}
use Rattle.brc_lang.specs.declared.version.Version.{Version}
use Rattle.brc_lang.specs.declared.version.Version.TheVariants as versions
use Rattle.brc_lang.specs.Grammar.{cells_in}
use Rattle.brc_model.specs.Counting.{IsPlainLayout}
use Rattle.brc_model.specs.Limits.{root_cells, cell_limit}
use Rattle.brc_heap.proofs.heap.Heap.new.Goals as goal

-- A list has room for the root's cells in each version, and no more cells than a machine has.
cells_fit : (v : Version) → (root_cells ≤ cells_in v) × (cells_in v ≤ cell_limit)
cells_fit versions.One = (omega arith, omega arith)
cells_fit versions.Two = (omega arith, omega arith)
cells_fit versions.Three = (omega arith, omega arith)

pub new-requires-clause-plain : goal.new-requires-clause-plain
new-requires-clause-plain g c =
    let cells = cells_fit c.args.«module».now.version in
    subst IsPlainLayout (sym c.layout_of-layout.ensures) (record {
      some_workers = c.requires.workers.0;
      few_workers = c.requires.workers.1;
      some_rows = c.requires.rows.0;
      few_rows = c.requires.rows.1;
      some_cells = cells.0;
      few_cells = cells.1;
    })
