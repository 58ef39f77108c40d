use Rattle.std.specs.Prelude.{◌≡◌, ℕ, ◌+◌, ◌<◌, ◌≤◌, IfOk, IfErr, get_or, vec_items, vec_len, vec_capacity}
use Rattle.std.specs.Vec.Iter.{into_iter_items, into_iter_len}
use Rattle.brc_work.specs.Workers.{Ends, job}
use Rattle.brc_work.proofs.threads.fn.run_all.scope.Given as goal

-- Each worker so far has begun its task or left, and the next task is that of the next worker.
abbrev pub invariant-loop-task : goal.invariant-loop-task
invariant-loop-task g l = record {
  passed : vec_len l.threads + into_iter_len l.task-iterator ≡ into_iter_len l.initial.task-iterator;
  room : into_iter_len l.initial.task-iterator ≤ vec_capacity l.threads;
  place : (k : ℕ) (t : _) → k < into_iter_len l.task-iterator → get_or (into_iter_items l.task-iterator) k t
      ≡ get_or (into_iter_items l.initial.task-iterator) (vec_len l.threads + k) t;
  begun : (k : ℕ) (b : _) (t : _) → k < vec_len l.threads
      → let task = get_or (into_iter_items l.initial.task-iterator) k t in IfOk (get_or (vec_items l.threads) k b)
      (λ s. let promise = s.promise in
      job promise.heap.value promise.checked.value.module promise.function promise.times promise.steps promise.thread
      promise.host.value
      ≡ job task.heap.now task.checked.now.module task.function task.times task.steps task.thread task.host.now)
      × IfErr (get_or (vec_items l.threads) k b) (λ done. Ends g.H.Host.answers g.H.Host.counts
      (job task.heap.now task.checked.now.module task.function task.times task.steps task.thread task.host.now)
      done.hand done.ran done.called);
}
