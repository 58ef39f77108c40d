use Rattle.std.specs.Prelude.{◌≡◌, ◌+◌, IfOk, IfErr, get_or, vec_items, vec_len}
use Rattle.std.specs.Vec.Iter.{into_iter_items}
use Rattle.std.proofs.Common.{rules, arith, sym, ap, ◌∙◌, subst}
use Rattle.brc_work.specs.Workers.{Ends, job}
use Rattle.brc_work.proofs.Places.{pushed, ends_for, begun_in_thread, left_in_main}
use Rattle.brc_work.proofs.threads.fn.run_all.scope.Goals.{in-Ok, in-Err}
use Rattle.brc_work.proofs.threads.fn.run_all.scope.Goals as goal

-- The next worker has begun its task in a thread of its own, or has left in main's.
pub loop-task-preserved : goal.loop-task-preserved
loop-task-preserved g c =
    let was = c.loop-task.invariant in
    let step = c.in-Some.ensures.steps in
    let left = vec_len c.loop-task.threads in
    let added = c.push.ensures.by_index in
    let task = c.in-Some.task in
    let first = into_iter_items c.into_iter-task-iterator.result in
    let grown : vec_len c.push.new.self ≡ left + 1 = search rules in
    let here : (t : _) → task ≡ get_or first left t = λ t. let h = was.place 0 t in grind rules in
    let same : (t : _) → let it = get_or first left t in
    job task.heap.now task.checked.now.module task.function task.times task.steps task.thread task.host.now
    ≡ job it.heap.now it.checked.now.module it.function it.times it.steps it.thread it.host.now =
    λ t. ap (λ it. job it.heap.now it.checked.now.module it.function it.times
    it.steps it.thread it.host.now) (here t) in
    record {
      passed = omega (arith, was.passed, grown, step.1);
      room = search (rules, was.room);
      place = λ k t below. let h = was.place (k + 1) t in grind rules;
      begun = λ k b t below.
          pushed (λ i b. let it = get_or first i t in IfOk b (λ s. let promise = s.promise in
          job promise.heap.value promise.checked.value.module promise.function promise.times promise.steps
          promise.thread promise.host.value
          ≡ job it.heap.now it.checked.now.module it.function it.times it.steps it.thread it.host.now)
          × IfErr b (λ done. Ends g.H.Host.answers g.H.Host.counts
          (job it.heap.now it.checked.now.module it.function it.times it.steps it.thread it.host.now)
          done.hand done.ran done.called))
          (vec_items c.loop-task.threads) (vec_items c.push.new.self) left c.match-spawn_with.begun added.0
          (λ d. added.1 d (search rules)) (λ i d low. was.begun i d t low)
          (elim c.match-spawn_with.branch [
            | in-Ok w ↦ begun_in_thread (λ s. let promise = s.promise in
                job promise.heap.value promise.checked.value.module promise.function promise.times promise.steps
                promise.thread promise.host.value)
                (λ j done. Ends g.H.Host.answers g.H.Host.counts j done.hand done.ran done.called) w.begun-is
                (subst (λ p. job p.heap.value p.checked.value.module p.function p.times p.steps p.thread p.host.value
                ≡ job task.heap.now task.checked.now.module task.function task.times task.steps task.thread
                task.host.now) (sym w.in-Ok.ensures.ok) (search rules) ∙ same t)
            | in-Err w ↦ left_in_main (λ s. let promise = s.promise in
                job promise.heap.value promise.checked.value.module promise.function promise.times promise.steps
                promise.thread promise.host.value)
                (λ j done. Ends g.H.Host.answers g.H.Host.counts j done.hand done.ran done.called) w.begun-is
                (ends_for (ap (λ f. job f.0.heap.now f.0.checked.now.module f.0.function f.0.times f.0.steps f.0.thread
                f.0.host.now) w.in-Err.ensures.err ∙ same t) w.spawn_with-in-Err.ensures)
          ]) k b (omega (arith, below, grown));
    }

-- Each worker has the task of its place.
pub join_all-requires-clause-begun : goal.join_all-requires-clause-begun
join_all-requires-clause-begun g c = λ _ _ k b t below.
    let began = c.into_iter-task-iterator.ensures.into_iter_gives in
    subst (λ xs. let it = get_or xs k t in IfOk (get_or (vec_items c.loop-task.threads) k b) (λ s.
    let promise = s.promise in
    job promise.heap.value promise.checked.value.module promise.function promise.times promise.steps promise.thread
    promise.host.value
    ≡ job it.heap.now it.checked.now.module it.function it.times it.steps it.thread it.host.now)
    × IfErr (get_or (vec_items c.loop-task.threads) k b) (λ done. Ends g.H.Host.answers g.H.Host.counts
    (job it.heap.now it.checked.now.module it.function it.times it.steps it.thread it.host.now)
    done.hand done.ran done.called))
    (began.0 ∙ ap vec_items (sym c.of-were.ensures)) (c.loop-task.invariant.begun k b t below)

-- What is joined is what the workers with these tasks have left.
pub returns : goal.returns
returns g c = (
  search rules,
  λ k w t below.
      subst (λ xs. let it = get_or xs k t in Ends g.H.Host.answers g.H.Host.counts
      (job it.heap.now it.checked.now.module it.function it.times it.steps it.thread it.host.now)
      (get_or (vec_items c.join_all.result.0) k w).0 (get_or (vec_items c.join_all.result.0) k w).1 c.join_all.result.1)
      (ap vec_items c.of-were.ensures) (c.join_all.ensures.ends k w t below),
)
