-- A heap of an accepted module.
use Rattle.std.proofs.Common.{◌≡◌, ℕ, length, ap}
use Rattle.brc_lang.specs.Grammar.{IsModule}
use Rattle.brc_lang.specs.declared.module.Module.{Module}
use Rattle.brc_model.specs.declared.layout.Layout.{Layout}
use Rattle.brc_model.specs.FirstRows.{HasLines}
use Rattle.brc_model.specs.StepMachine.{layout_of}
use Rattle.brc_model.proofs.Keeping.FirstMachine.{has_lines}
use Rattle.brc_table.specs.Hands.{TableState}
use Rattle.brc_work.specs.Fits.{IsHeapOf}

-- A heap of the module has rows for its static lists.
pub lists_have_rows : (m : Module) (workers rows : ℕ) → IsModule m → HasLines m.statics (layout_of m workers rows)
lists_have_rows m workers rows fits = has_lines m workers rows fits

-- It is one whose workers may make the module's calls.
pub is_heap_of : (m : Module) (heap : TableState) (workers rows : ℕ) → heap.layout ≡ layout_of m workers rows
    → heap.lines ≡ m.statics → IsHeapOf m heap
is_heap_of m heap workers rows layout lines = record {
  lines = lines;
  lists = ap (λ (l : Layout). l.immortal_lists) layout;
  cells = ap (λ (l : Layout). l.cells) layout;
}
