-- The list's cells name their numbers one by one.
use Rattle.std.proofs.Common.{ℕ, ◌+◌, get_or, refl, ap, ◌∙◌, arith}
use Rattle.brc_model.specs.declared.address.Address.{Address}
use Rattle.brc_effect.specs.FirstLists.{with_number}
use Rattle.brc_effect.proofs.FirstLists.{number_next}
use Rattle.brc_machine.proofs.memory.Memory.put_list.Goals as goal

pub loop-value-init : goal.loop-value-init
loop-value-init c = record {
  words =
      rw (
        c.store-2.ensures.words,
        c.store.ensures.words,
        c.local_word.ensures.word,
        c.kind_word.ensures.word,
      ) refl;
  rows = c.store-2.ensures.rows ∙ c.store.ensures.rows;
  threads = c.store-2.ensures.threads ∙ c.store.ensures.threads;
  width = c.store-2.ensures.width ∙ c.store.ensures.width;
  cell = refl;
}

pub loop-value-preserved : goal.loop-value-preserved
loop-value-preserved c = record {
  words =
      c.put_number.ensures.words
      ∙ ap (λ (memory : Address → ℕ). with_number memory c.args.list c.loop-value.cell
      (c.args.first + c.loop-value.cell) (get_or c.args.line.now c.loop-value.value-index 0))
      c.loop-value.invariant.words
      ∙ number_next _ c.args.list c.args.first c.args.line.now c.loop-value.value-index c.loop-value.cell
      (c.args.first + c.loop-value.cell) c.loop-value.invariant.cell (omega (arith, c.loop-value.invariant.cell));
  rows = c.put_number.ensures.rows ∙ c.loop-value.invariant.rows;
  threads = c.put_number.ensures.threads ∙ c.loop-value.invariant.threads;
  width = c.put_number.ensures.width ∙ c.loop-value.invariant.width;
  cell = omega (arith, c.loop-value.invariant.cell);
}
