-- The machine in which some threads hold the root and no thread has done anything else is in range.
use Rattle.std.proofs.Common.{ℕ, ◌+◌, ◌≤◌, List, arith}
use Rattle.brc_model.specs.Duties.{cells_of}
use Rattle.brc_model.specs.Limits.{root_cells, cell_limit}
use Rattle.brc_model.specs.Ranges.{AreSmall, Ranges}
use Rattle.brc_model.specs.declared.layout.Layout.{Layout}
use Rattle.brc_model.specs.FirstRows.{HasLines, FirstRow, NoneRow, RootRow, ImmortalList, Number, UnbornRow, first_row, kind_word_of_first}
use Rattle.brc_model.proofs.Keeping.FirstRows.{line_short}
use Rattle.brc_model.proofs.Keeping.FirstThreads.{rooted_machine, each_idle}
use Rattle.brc_model.proofs.Keeping.FirstKinds.{list_cells, number_cells}

-- No kind word names more cells than lists of the layout may have.
few_cells : (lines : List (List ℕ)) (layout : Layout) → HasLines lines layout → root_cells ≤ layout.cells
    → layout.cells ≤ cell_limit → (r : FirstRow) → cells_of (kind_word_of_first lines r) ≤ layout.cells
few_cells lines layout has wide few NoneRow = omega arith
few_cells lines layout has wide few RootRow = omega (arith, wide)
few_cells lines layout has wide few (ImmortalList s) =
    omega (arith, list_cells lines layout s has few, line_short layout.cells lines s has.each)
few_cells lines layout has wide few (Number k) = omega (arith, number_cells lines layout k has few)
few_cells lines layout has wide few UnbornRow = omega arith

-- Its kind words are in range, and it has no duties.
pub rooted_ranges : (lines : List (List ℕ)) (layout : Layout) (callers : ℕ) → HasLines lines layout
    → root_cells ≤ layout.cells → layout.cells ≤ cell_limit
    → Ranges (1 + layout.workers) (rooted_machine lines layout callers)
rooted_ranges lines layout callers has wide few = record {
  kinds = λ x. few_cells lines layout has wide few (first_row layout x);
  each = each_idle (λ t a. AreSmall layout a.agenda) layout tt (λ t low. tt);
  aside = each_idle (λ t a. AreSmall layout a.aside) layout tt (λ t low. tt);
}
