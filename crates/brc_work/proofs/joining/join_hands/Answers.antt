use Rattle.std.specs.Prelude.{◌≡◌, ◌+◌, [], get_or, vec_items}
use Rattle.std.specs.Vec.Iter.{into_iter_items}
use Rattle.std.proofs.Common.{rules, arith, below_more, sym, ◌∙◌, subst}
use Rattle.brc_model.specs.declared.actor.Status.TheVariants.{Gone}
use Rattle.brc_table.specs.Hands.{IsOf}
use Rattle.brc_table.specs.Views.{HasJoined}
use Rattle.brc_work.proofs.Mains.{joins_then, joins_none, joined_now, still_joined}
use Rattle.brc_work.proofs.joining.join_hands.Goals as goal

-- The next hand is the one at its place in the list: its thread is gone.
pub join-requires : goal.join-requires
join-requires g c =
    let was = c.loop-left.invariant in
    let step = c.in-Some.ensures.steps in
    let left = c.in-Some.left in
    let first = into_iter_items c.into_iter-left-iterator.result in
    let began = c.into_iter-left-iterator.ensures.into_iter_gives in
    let here : left ≡ get_or first was.joined left = let h = was.place 0 left in grind rules in
    let same : get_or (vec_items c.args.gone) was.joined left ≡ left =
    sym (subst (λ xs. left ≡ get_or xs was.joined left) began.0 here) in
    let facts =
    subst (λ w. IsOf c.args.heap.now w.0 × (w.0.view.actor.status ≡ Gone) × (w.0.fields ≡ [])) same
    (c.requires.gone was.joined left (omega (arith, was.passed, step.1, began.1))) in
    record { table = search rules; other_table = search (rules, facts); gone = facts.1; no_field = facts.2 }

pub loop-left-init : goal.loop-left-init
loop-left-init g c = record {
  of = search rules;
  carried = search rules;
  fields = search rules;
  more = joins_none c.args.main.now.view;
  joined = 0;
  passed = search rules;
  place = λ k w below. search rules;
  each = λ k w below. absurd (omega (arith, below));
}

-- Main has joined one hand more.
pub loop-left-preserved : goal.loop-left-preserved
loop-left-preserved g c =
    let was = c.loop-left.invariant in
    let step = c.in-Some.ensures.steps in
    let left = c.in-Some.left in
    let first = into_iter_items c.into_iter-left-iterator.result in
    let before = c.loop-left.main.view in
    let after = c.join.new.hand.view in
    let is = c.join.ensures.view in
    record {
      of = search rules;
      carried = c.join.ensures.kept.carried ∙ was.carried;
      fields = c.join.ensures.kept.fields ∙ was.fields;
      more = joins_then c.args.main.now.view before after left.0.view was.more is;
      joined = was.joined + 1;
      passed = omega (arith, was.passed, step.1);
      place = λ k w below. let h = was.place (k + 1) w in grind rules;
      each = λ k w below.
          let now : left ≡ get_or first was.joined w = let h = was.place 0 w in grind rules in
          below_more (λ i. HasJoined after (record {
            thread = (get_or first i w).0.view.thread;
            used = (get_or first i w).0.view.actor.used;
          })) was.joined
          (λ i low. subst (λ z. HasJoined z (record {
            thread = (get_or first i w).0.view.thread;
            used = (get_or first i w).0.view.actor.used;
          })) (sym is) (still_joined before left.0.view (record {
            thread = (get_or first i w).0.view.thread;
            used = (get_or first i w).0.view.actor.used;
          }) (was.each i w low)))
          (subst (λ v. HasJoined after (record { thread = v.0.view.thread; used = v.0.view.actor.used })) now
          (joined_now before after left.0.view is)) k below;
    }

pub returns-clause-each : goal.returns-clause-each
returns-clause-each g c = λ k w below.
    let was = c.loop-left.invariant in
    let began = c.into_iter-left-iterator.ensures.into_iter_gives in
    subst (λ xs. HasJoined c.loop-left.main.view (record {
      thread = (get_or xs k w).0.view.thread;
      used = (get_or xs k w).0.view.actor.used;
    })) began.0 (was.each k w (omega (arith, below, was.passed, c.in-None.ensures.steps.0, began.1)))
