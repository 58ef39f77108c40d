use Rattle.std.proofs.Common.{◌≡◌, ℕ, length}
use Rattle.brc_model.specs.declared.address.Address.{Address}
use Rattle.brc_effect.specs.FirstLists.{with_empty_list, with_numbers}
use Rattle.brc_table.specs.Opening.{AreWordsOf}
use Rattle.brc_table.specs.Places.{word_count}
use Rattle.brc_table.proofs.first_words.put_list.Given as goal

-- The cells so far name their numbers.
abbrev pub invariant-loop-value : goal.invariant-loop-value
invariant-loop-value l = record {
  long : length l.words.items ≡ word_count l.cells;
  words :
      (memory : Address → ℕ) → AreWordsOf l.cells l.fn.words.items memory
      → AreWordsOf l.cells l.words.items
      (with_numbers (with_empty_list memory l.list (length l.line)) l.list l.first l.line l.value-index);
  cell : l.cell ≡ l.value-index;
}
