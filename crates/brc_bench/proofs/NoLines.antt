-- The lines of the module of heaps that run none.
use Rattle.std.proofs.Common.{◌≡◌, ℕ, refl, sym, subst, arith}
use Rattle.brc_lang.specs.declared.module.Module.{Module}
use Rattle.brc_model.specs.FirstRows.{HasLines}
use Rattle.brc_model.specs.StepMachine.{layout_of}
use Rattle.brc_bench.specs.PlainModule.{plain_module}

-- A module with no static list has the rows of none.
pub has_no_lines : (m : Module) (workers rows : ℕ) → m ≡ plain_module → HasLines m.statics (layout_of m workers rows)
has_no_lines m workers rows is =
    subst (λ (m : Module). HasLines m.statics (layout_of m workers rows)) (sym is)
    (record { few = omega arith; lists = refl; numbers = refl; each = tt })
