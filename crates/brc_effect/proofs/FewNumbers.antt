-- The numbers of a module's static lines are few.
use Rattle.std.proofs.Common.{ℕ, ◌*◌, ◌≤◌, length, arith}
use Rattle.std.proofs.Math.Nat.{mul-le-mul}
use Rattle.brc_lang.specs.declared.module.Module.{Module}
use Rattle.brc_model.specs.FirstRows.{HasLines}
use Rattle.brc_model.specs.Limits.{cell_limit, immortal_limit, number_limit}
use Rattle.brc_model.specs.StepMachine.{layout_of}
use Rattle.brc_model.proofs.Keeping.FirstRows.{few_values}
use Rattle.brc_model.proofs.Keeping.FirstMachine.{few_cells}

-- There are at most 16 lists of 64 numbers.
pub few_numbers : (m : Module) (workers rows : ℕ) → HasLines m.statics (layout_of m workers rows)
    → (layout_of m workers rows).numbers ≤ number_limit
few_numbers m workers rows has =
    let cells = (layout_of m workers rows).cells in
    let most : length m.statics * cells ≤ immortal_limit * cell_limit =
    mul-le-mul {n₂ = immortal_limit} {m₂ = cell_limit} has.few (few_cells m workers rows) in
    omega (arith, few_values cells m.statics has.each, most)
