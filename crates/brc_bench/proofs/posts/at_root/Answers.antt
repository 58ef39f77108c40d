use Rattle.std.proofs.Common.{inl, inr, subst, sym, arith}
use Rattle.brc_model.specs.declared.layout.Layout.{Layout}
use Rattle.brc_model.specs.Layout.{root_row, IsCounted}
use Rattle.brc_table.specs.Hands.{TableState}
use Rattle.brc_bench.specs.Swaps.{IsAtRest}
use Rattle.brc_bench.proofs.FirstSwaps.{row_is_held, no_work_at_rest, swaps_begin}
use Rattle.brc_bench.proofs.posts.at_root.Goals as goal

pub size-requires-clause-usable : goal.size-requires-clause-usable
size-requires-clause-usable c = inl (inl (inr (row_is_held c.requires.holds.1)))

pub size-requires-clause-idle : goal.size-requires-clause-idle
size-requires-clause-idle c = no_work_at_rest root_row c.requires.resting

pub locked_swap-requires : goal.locked_swap-requires
locked_swap-requires c = record {
  ready =
      swaps_begin c.size.new.hand
      (subst (λ (heap : TableState). IsAtRest heap c.args.hand.now) (sym c.new-lists.ensures) c.requires.resting)
      (subst (λ (l : Layout). IsCounted l root_row) (sym c.requires.resting.table.1) c.requires.counted)
      c.requires.holds.1 c.size.ensures.table c.size.ensures.keeps c.size.ensures.locked
      (c.size.ensures.cells 0 (omega (arith, c.if-size-le-CELL.false)));
}
