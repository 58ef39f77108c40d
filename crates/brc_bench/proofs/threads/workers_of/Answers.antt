use Rattle.brc_bench.proofs.FirstSwaps.{main_place}
use Rattle.brc_bench.proofs.threads.workers_of.Goals as goal

pub invariant_of-push : goal.invariant_of-push
invariant_of-push c = record {
  ready =
      main_place {heap = c.args.heap.now} {hand = c.loop-thread.main} c.loop-thread.invariant.0
      c.loop-thread.invariant.1;
}
