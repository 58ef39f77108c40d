-- Rows by their indices, and how large they are.
use Rattle.std.proofs.Common.{◌≡◌, ℕ, zero, suc, ◌+◌, ◌-◌, ◌*◌, ◌/◌, ◌^◌, ◌<◌, ◌≤◌, Bool, true, false, cond, refl, arith}
use Rattle.std.specs.Prelude.{nat_le, nat_lt}
use Rattle.std.proofs.lemmas.Bool.{and_parts, leb-true, ltb-true}
use Rattle.std.proofs.lemmas.Nat.{div_below, mul-le}
use Rattle.brc_model.specs.declared.layout.Layout.{Layout}
use Rattle.brc_model.specs.declared.duty.Duty.{Duty}
use Rattle.brc_model.specs.declared.duty.Duty.TheVariants.{Scan, TakeFound}
use Rattle.brc_model.specs.Limits.{total_limit}
use Rattle.brc_model.specs.Duties.{address_of}
use Rattle.brc_model.specs.Within.{IsThere, Suits}
use Rattle.brc_effect.specs.Effects.{IsIndexed}
use Rattle.brc_model.specs.Layout.{front_rows, worker_rows, is_worker_row, block_of, row_count, mark_words_of, IsCounted}

-- Each row is in main's block or in a worker's.
pub block_there : (layout : Layout) (row : ℕ) → 0 < layout.rows → block_of layout row ≤ layout.workers
block_there layout row some =
    elim (is_worker_row layout row) as (λ b. is_worker_row layout row ≡ b
    → cond b ((row - front_rows) / layout.rows + 1) 0 ≤ layout.workers) [
      | true ↦ λ e.
          let parts =
          and_parts (nat_le front_rows row) (nat_lt row (front_rows + worker_rows layout)) e in
          let low = leb-true _ _ parts.0 in
          let high = ltb-true _ _ parts.1 in
          let within : row - front_rows < layout.workers * layout.rows = omega (arith, low, high) in
          let below : (row - front_rows) / layout.rows < layout.workers =
          div_below (row - front_rows) layout.rows layout.workers some within in
          omega (arith, below)
      | false ↦ λ e. omega arith
    ] refl

-- A mark word that exists has no large number.
word_low : (layout : Layout) (t w : ℕ) → row_count layout ≤ total_limit → t ≤ layout.workers
    → w < mark_words_of layout t → w < 2 ^ 31
word_low layout zero w few there low = omega (arith, few, low)
word_low layout (suc t) w few there low =
    let rows : suc t * layout.rows ≤ layout.workers * layout.rows =
    mul-le (suc t) layout.rows layout.workers layout.rows there (omega arith) in
    omega (arith, few, low, rows)

-- The index that a duty names is small, if its word exists and suits the duty.
pub indexed : (layout : Layout) (t head found : ℕ) (running : Bool) (d : Duty) → row_count layout ≤ total_limit
    → IsThere layout (address_of layout t head d) → Suits t running (row_count layout) d found → IsIndexed d
indexed layout t head found running (Scan w n) few there suits =
    word_low layout t w few (omega (arith, there.0)) there.1
indexed layout t head found running (TakeFound w marks) few there suits = (suits.0, omega (arith, suits.1, few))
indexed layout t head found running _ few there suits = tt

-- A counted row isn't none's.
pub counted_above : (layout : Layout) (x : ℕ) → IsCounted layout x → 0 < x
counted_above layout zero counted = absurd cc
counted_above layout (suc x) counted = omega arith
