use Rattle.std.specs.Prelude.{◌≡◌, ℕ, ◌+◌, ◌<◌, ◌≤◌, false, IfErr, get_or, vec_items, vec_len, vec_capacity}
use Rattle.std.specs.Vec.Iter.{into_iter_items, into_iter_len}
use Rattle.brc_work.specs.Workers.{Ends, job}
use Rattle.brc_work.proofs.threads.join_all.Given as goal

-- The answer has what the workers so far have left, and the next one follows them.
abbrev pub invariant-loop-begun : goal.invariant-loop-begun
invariant-loop-begun g l = record {
  passed : vec_len l.answer + into_iter_len l.begun-iterator ≡ into_iter_len l.initial.begun-iterator;
  room : into_iter_len l.initial.begun-iterator ≤ vec_capacity l.answer;
  place : (k : ℕ) (b : _) → k < into_iter_len l.begun-iterator → get_or (into_iter_items l.begun-iterator) k b
      ≡ get_or (into_iter_items l.initial.begun-iterator) (vec_len l.answer + k) b;
  started : (k : ℕ) (b : _) → k < vec_len l.answer
      → IfErr (get_or (into_iter_items l.initial.begun-iterator) k b) (λ _. l.called ≡ false);
  ends : (k : ℕ) (w : _) (t : _) → k < vec_len l.answer → let task = get_or (vec_items l.fn.were.value) k t in
      Ends g.H.Host.answers g.H.Host.counts
      (job task.heap.now task.checked.now.module task.function task.times task.steps task.thread task.host.now)
      (get_or (vec_items l.answer) k w).0 (get_or (vec_items l.answer) k w).1 l.called;
}
