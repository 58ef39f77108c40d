use Rattle.std.specs.Prelude.{◌≡◌, ℕ, ◌+◌, ◌≤◌, ◌<◌, true, false, length, get_or, vec_items, vec_len, vec_capacity}
use Rattle.std.specs.Slice.Iter.{iter_mut_rest}
use Rattle.brc_table.specs.Hands.{IsOf}
use Rattle.brc_table.specs.Views.{is_given}
use Rattle.brc_work.specs.Mains.{KeepsMain}
use Rattle.brc_work.specs.Workers.{job}
use Rattle.brc_work.proofs.tasks.tasks_of.Given as goal

-- Main has given out the hands of the workers before the next one, and each task so far is its worker's.
abbrev pub invariant-loop-host : goal.invariant-loop-host
invariant-loop-host g l = record {
  of : IsOf l.heap l.main;
  kept : KeepsMain l.fn.main.view l.main.view;
  carried : l.main.carried ≡ l.fn.main.carried;
  fields : l.main.fields ≡ l.fn.main.fields;
  free : (t : ℕ) → l.thread ≤ t → is_given t l.main.view ≡ false;
  given : (t : ℕ) → is_given t l.main.view ≡ true → (k : ℕ) × (k < vec_len l.tasks) × (k + 1 ≡ t);
  number : l.thread ≡ vec_len l.tasks + 1;
  rest : vec_len l.tasks + length (iter_mut_rest l.host-iterator) ≡ length (iter_mut_rest l.initial.host-iterator);
  room : length (iter_mut_rest l.initial.host-iterator) ≤ vec_capacity l.tasks;
  place : (k : ℕ) (h : _) → k < length (iter_mut_rest l.host-iterator) → get_or (iter_mut_rest l.host-iterator) k h
      ≡ get_or (iter_mut_rest l.initial.host-iterator) (vec_len l.tasks + k) h;
  each : (k : ℕ) (t : _) (h : _) → k < vec_len l.tasks → let task = get_or (vec_items l.tasks) k t in
      job task.heap.now task.checked.now.module task.function task.times task.steps task.thread task.host.now
      ≡ job l.heap l.checked.module l.function l.times l.steps (k + 1)
      (get_or (iter_mut_rest l.initial.host-iterator) k h);
}
