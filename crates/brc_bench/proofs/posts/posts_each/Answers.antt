use Rattle.std.proofs.Common.{refl}
use Rattle.brc_model.specs.Layout.{root_row}
use Rattle.brc_bench.proofs.HandedOver.{holds_rest, counted_rest}
use Rattle.brc_bench.proofs.posts.posts_each.Goals as goal

pub loop-row-preserved : goal.loop-row-preserved
loop-row-preserved c =
    let row = c.in-Some.row in let rest = c.pop_front.new.self.items in let first = c.in-Some.ensures.items in (
      c.if-not-posts.ensures.resting refl,
      holds_rest c.loop-row.hand.view c.posts.new.hand.view row root_row rest c.loop-row.invariant.1 first
          (c.if-not-posts.ensures.references refl),
      counted_rest c.args.heap.now.layout row rest c.loop-row.invariant.2 first,
    )
