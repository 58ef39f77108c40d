use Rattle.std.specs.Prelude.{◌≡◌, ◌+◌, length, get_or, vec_items, vec_len}
use Rattle.std.specs.Slice.Iter.{iter_mut_rest}
use Rattle.std.proofs.Common.{rules, arith, inl, inr, sym, ap, ◌∙◌, subst}
use Rattle.brc_work.specs.Workers.{job}
use Rattle.brc_work.proofs.Mains.{keeps_then, free_then, given_then}
use Rattle.brc_work.proofs.Places.{grown}
use Rattle.brc_work.proofs.tasks.tasks_of.Goals as goal

-- The next worker has its hand and its task.
pub loop-host-preserved : goal.loop-host-preserved
loop-host-preserved g c =
    let was = c.loop-host.invariant in
    let given = c.in-Ok.ensures.left in
    let count = vec_len c.loop-host.tasks in
    let step = c.in-Some.ensures.steps in
    let added = c.push.ensures.by_index in
    let heap = c.args.heap.now in
    let more : vec_len c.push.new.self ≡ count + 1 = search rules in
    let first = iter_mut_rest c.into_iter-host-iterator.result in
    let here : (h : _) → c.in-Some.host.now ≡ get_or first count h = λ h. let there = was.place 0 h in grind rules in
    record {
      of = c.in-Ok.ensures.table.1;
      kept = keeps_then c.loop-host.thread c.args.main.now.view c.loop-host.main.view c.hand_out.new.main.view was.kept
          given;
      carried = c.hand_out.ensures.carried ∙ was.carried;
      fields = c.hand_out.ensures.fields ∙ was.fields;
      free = free_then c.loop-host.thread c.loop-host.main.view c.hand_out.new.main.view given was.free;
      given = λ t is. elim (given_then c.loop-host.thread c.loop-host.main.view c.hand_out.new.main.view given t is) [
        | inl same ↦ (count, omega (arith, more), omega (arith, was.number, same))
        | inr before ↦ let k = was.given t before in (k.0, omega (arith, k.1, more), k.2)
      ];
      number = omega (arith, was.number, more);
      rest = omega (arith, more, was.rest, ap length step);
      room = search (rules, was.room);
      place = λ k h below. let there = was.place (k + 1) h in grind rules;
      each = λ k t h below.
          grown (λ i s. job s.heap.now s.checked.now.module s.function s.times s.steps s.thread s.host.now
          ≡ job heap c.args.checked.now.module c.args.function c.args.times c.args.steps (i + 1) (get_or first i h))
          (vec_items c.loop-host.tasks)
          (vec_items c.push.new.self) count added.0
          (λ d. subst (λ s. job s.heap.now s.checked.now.module s.function s.times s.steps s.thread s.host.now
          ≡ job heap c.args.checked.now.module c.args.function c.args.times c.args.steps (count + 1)
          (get_or first count h))
          (sym (added.1 d (search rules)))
          (ap (λ n. job heap c.args.checked.now.module c.args.function c.args.times c.args.steps n
          c.in-Some.host.now) was.number
          ∙ ap (job heap c.args.checked.now.module c.args.function c.args.times c.args.steps (count + 1)) (here h)))
          (λ i s low. was.each i s h low) k t (omega (arith, below, more));
    }
