use Rattle.std.specs.Prelude.{◌≡◌, ◌+◌, true, false, IfOk, IfErr, get_or, vec_items, vec_len}
use Rattle.std.specs.Vec.Iter.{into_iter_items}
use Rattle.std.proofs.Common.{below_more, rules, arith, sym, ◌∙◌, subst}
use Rattle.std.proofs.lemmas.Result.{IfErr-weaker}
use Rattle.brc_work.specs.Workers.{Ends, job}
use Rattle.brc_work.proofs.Places.{pushed, ends_among, not_so}
use Rattle.brc_work.proofs.threads.join_all.Goals.{then-called, else-called}
use Rattle.brc_work.proofs.threads.join_all.Goals as goal

-- The answer has what one worker more has left.
pub loop-begun-preserved : goal.loop-begun-preserved
loop-begun-preserved g c =
    let was = c.loop-begun.invariant in
    let step = c.in-Some.ensures.steps in
    let left = vec_len c.loop-begun.answer in
    let added = c.push.ensures.by_index in
    let begun = c.in-Some.begun in
    let first = into_iter_items c.into_iter-begun-iterator.result in
    let began = c.into_iter-begun-iterator.ensures.into_iter_gives in
    let tasks = vec_items c.args.were.value in
    let grown : vec_len c.push.new.self ≡ left + 1 = search rules in
    let here : (b : _) → begun ≡ get_or first left b = λ b. let h = was.place 0 b in grind rules in
    let same : get_or (vec_items c.args.threads) left begun ≡ begun =
    sym (subst (λ xs. begun ≡ get_or xs left begun) began.0 (here begun)) in
    let done = c.left_by-done.result in
    let all = c.if-called.called in
    let before : all ≡ true → c.loop-begun.called ≡ true = λ is. elim c.if-called.branch [
      | then-called w ↦ w.if-called.true
      | else-called w ↦ absurd (search (rules, is))
    ] in
    let this : all ≡ true → done.called ≡ true = λ is. elim c.if-called.branch [
      | then-called w ↦ sym w.called-is ∙ is
      | else-called w ↦ absurd (search (rules, is))
    ] in
    record {
      passed = omega (arith, was.passed, grown, step.1);
      room = search (rules, was.room);
      place = λ k b below. let h = was.place (k + 1) b in grind rules;
      started = λ k b below. below_more (λ i. IfErr (get_or first i b) (λ _. all ≡ false)) left
          (λ i low. IfErr-weaker (get_or first i b) _ _ (λ _ is. not_so before is) (was.started i b low))
          (subst (λ x. IfErr x (λ _. all ≡ false)) (here b)
          (IfErr-weaker begun _ _ (λ _ is. not_so this is) c.left_by-done.ensures.started))
          k (omega (arith, below, grown));
      ends = λ k w t below.
          let it = get_or tasks left t in
          let facts =
          subst (λ b. IfOk b (λ s. let promise = s.promise in
          job promise.heap.value promise.checked.value.module
          promise.function promise.times promise.steps promise.thread
          promise.host.value
          ≡ job it.heap.now it.checked.now.module it.function it.times it.steps it.thread it.host.now)
          × IfErr b (λ done. Ends g.H.Host.answers g.H.Host.counts
          (job it.heap.now it.checked.now.module it.function it.times it.steps it.thread it.host.now)
          done.hand done.ran done.called))
          same
          (c.requires.begun left begun t (omega (arith, was.passed, step.1, began.1))) in
          let now =
          c.left_by-done.ensures.ends
          (job it.heap.now it.checked.now.module it.function it.times it.steps it.thread it.host.now) facts.0 facts.1
          in
          pushed (λ i v. let it = get_or tasks i t in Ends g.H.Host.answers g.H.Host.counts
          (job it.heap.now it.checked.now.module it.function it.times it.steps it.thread it.host.now) v.0 v.1 all)
          (vec_items c.loop-begun.answer)
          (vec_items c.push.new.self) left (done.hand, done.ran)
          added.0 (λ d. added.1 d (search rules))
          (λ i d low. ends_among before (was.ends i d t low)) (ends_among this now) k w
          (omega (arith, below, grown));
    }
