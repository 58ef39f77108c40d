-- Main's rows are few: those of the immortal lists, and of the numbers in them.
use Rattle.std.proofs.Common.{ℕ, ◌*◌, ◌≤◌, List, length, arith}
use Rattle.std.proofs.Math.Nat.{mul-le-mul}
use Rattle.brc_model.specs.declared.layout.Layout.{Layout}
use Rattle.brc_model.specs.Limits.{cell_limit, immortal_limit}
use Rattle.brc_model.specs.Machine.{Machine}
use Rattle.brc_model.specs.Accounts.{Accounts}
use Rattle.brc_model.specs.FirstRows.{HasLines}
use Rattle.brc_model.specs.Counting.{Counts, IsPlainLayout}
use Rattle.brc_model.proofs.Keeping.FirstRows.{few_values}
use Rattle.brc_table.specs.Places.{FewFirstRows}

-- A counting machine with the invariant has few.
pub few_first : (p : Accounts) (n : ℕ) (m : Machine) → Counts p n m → FewFirstRows m.layout
few_first p n m counts = omega (arith, counts.kept.core.few_immortals, counts.kept.core.few_numbers)

-- There are at most 16 lines of 64 values.
pub few_by_lines : (lines : List (List ℕ)) (layout : Layout) → IsPlainLayout layout → HasLines lines layout
    → FewFirstRows layout
few_by_lines lines layout plain has =
    let most : length lines * layout.cells ≤ immortal_limit * cell_limit =
    mul-le-mul {n₂ = immortal_limit} {m₂ = cell_limit} has.few plain.few_cells in
    omega (arith, has.few, has.lists, has.numbers, few_values layout.cells lines has.each, most)
