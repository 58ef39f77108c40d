-- The words of threads in a table, and the threads whose blocks have its rows.
use Rattle.std.proofs.Common.{◌≡◌, ℕ, ◌+◌, ◌-◌, ◌<◌, ◌≤◌, Bool, cond, inl, inr, ap, arith}
use Rattle.std.specs.Prelude.{◌/◌, nat_le, nat_lt}
use Rattle.std.proofs.Math.Nat.{div-lt_iff_lt-mul}
use Rattle.std.proofs.lemmas.Bool.{cases_Bool, leb-true, ltb-true}
use Rattle.brc_model.specs.declared.layout.Layout.{Layout}
use Rattle.brc_model.specs.Layout.{front_rows, worker_rows, is_worker_row, block_of}
use Rattle.brc_model.specs.Counting.{IsPlainLayout}
use Rattle.brc_table.specs.Places.{word_count}
use Rattle.brc_table.proofs.Lists.{and_first, and_second}

-- Each row is in the block of main or of a worker.
pub block_there : (layout : Layout) (x : ℕ) → IsPlainLayout layout → block_of layout x ≤ layout.workers
block_there layout x plain =
    elim (cases_Bool (is_worker_row layout x)) [
      | inl worker ↦
          let high =
          ltb-true x (front_rows + worker_rows layout)
          (and_second (nat_le front_rows x) (nat_lt x (front_rows + worker_rows layout)) worker) in
          let low =
          leb-true front_rows x
          (and_first (nat_le front_rows x) (nat_lt x (front_rows + worker_rows layout)) worker) in
          let below : (x - front_rows) / layout.rows < layout.workers =
          (div-lt_iff_lt-mul plain.some_rows).1 (omega (arith, low, high)) in
          let is : block_of layout x ≡ (x - front_rows) / layout.rows + 1 =
          ap (λ (b : Bool). cond b ((x - front_rows) / layout.rows + 1) 0) worker in
          omega (arith, is, below)
      | inr main ↦
          let is : block_of layout x ≡ 0 = ap (λ (b : Bool). cond b ((x - front_rows) / layout.rows + 1) 0) main in
          omega (arith, is)
    ]

-- Each thread has a word of the table.
pub thread_within : (layout : Layout) (t : ℕ) → IsPlainLayout layout → t ≤ layout.workers → t < word_count layout
thread_within layout t plain there = omega (arith, there, plain.few_workers)
