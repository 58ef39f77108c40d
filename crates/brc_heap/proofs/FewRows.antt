-- A heap has few rows in all, so that each row's number fits 32 bits.
use Rattle.std.proofs.Common.{ℕ, ◌*◌, ◌≤◌, List, length, arith}
use Rattle.std.proofs.Math.Nat.{mul-le-mul}
use Rattle.brc_model.specs.declared.layout.Layout.{Layout}
use Rattle.brc_model.specs.Counting.{IsPlainLayout}
use Rattle.brc_model.specs.FirstRows.{HasLines}
use Rattle.brc_model.specs.Layout.{row_count}
use Rattle.brc_model.specs.Limits.{worker_limit, row_limit, cell_limit, immortal_limit, total_limit}
use Rattle.brc_model.proofs.Keeping.FirstRows.{few_values}

pub few_rows : (lines : List (List ℕ)) (layout : Layout) → IsPlainLayout layout → HasLines lines layout
    → row_count layout ≤ total_limit
few_rows lines layout plain has =
    let workers : layout.workers * layout.rows ≤ worker_limit * row_limit =
    mul-le-mul plain.few_workers plain.few_rows in
    let values : length lines * layout.cells ≤ immortal_limit * cell_limit =
    mul-le-mul {n₂ = immortal_limit} {m₂ = cell_limit} has.few plain.few_cells in
    omega (arith, workers, values, few_values layout.cells lines has.each, has.lists, has.numbers, has.few)
