use Rattle.std.proofs.Common.{inl, inr, subst, sym, arith}
use Rattle.brc_table.specs.Hands.{TableState, IsOf}
use Rattle.brc_bench.specs.Swaps.{IsAtRest}
use Rattle.brc_bench.proofs.FirstSwaps.{row_is_held, no_work_at_rest, swaps_begin, pairs_begin}
use Rattle.brc_bench.proofs.threads.work.Goals as goal

pub size-requires-clause-usable : goal.size-requires-clause-usable
size-requires-clause-usable g c = inl (inl (inr (row_is_held c.args.worker.ready.holds)))

pub size-requires-clause-idle : goal.size-requires-clause-idle
size-requires-clause-idle g c = no_work_at_rest c.args.worker.row c.args.worker.ready.rest

pub locked_swaps-requires : goal.locked_swaps-requires
locked_swaps-requires g c =
    let ready = c.args.worker.ready in
    record {
      ready =
          swaps_begin c.size.new.hand
          (subst (λ (heap : TableState). IsAtRest heap c.args.worker.hand) (sym c.new-lists.ensures) ready.rest)
          ready.counted ready.holds c.size.ensures.table c.size.ensures.keeps c.size.ensures.locked
          (c.size.ensures.cells 0 (omega (arith, c.if-size-le-CELL.false)));
    }

pub pairs-requires : goal.pairs-requires
pairs-requires g c =
    let ready = c.args.worker.ready in
    record {
      ready =
          pairs_begin c.size.new.hand ready.rest ready.counted ready.holds
          (subst (λ (heap : TableState). IsOf heap c.size.new.hand) c.new-lists.ensures c.size.ensures.table)
          c.size.ensures.keeps c.size.ensures.locked;
    }
