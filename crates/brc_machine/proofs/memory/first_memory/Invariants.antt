use Rattle.std.proofs.Common.{◌≡◌, ◌+◌, length}
use Rattle.brc_model.specs.FirstRows.{start}
use Rattle.brc_model.specs.Layout.{row_count, first_immortal_list, first_number}
use Rattle.brc_effect.specs.FirstLists.{with_lists}
use Rattle.brc_machine.specs.FirstWords.{plain_words}
use Rattle.brc_machine.specs.Storage.{word_in}
use Rattle.brc_machine.proofs.memory.first_memory.Given as goal

-- Each line so far is an immortal list, and the next one's rows are the next ones.
abbrev pub invariant-loop-line : goal.invariant-loop-line
invariant-loop-line l = record {
  words : word_in l.memory ≡ with_lists (plain_words l.fn.layout.workers) l.statics l.fn.layout l.line-index;
  rows : length l.memory.local ≡ row_count l.fn.layout;
  threads : length l.memory.thread ≡ 1 + l.fn.layout.workers;
  width : l.memory.width ≡ l.fn.layout.cells;
  list : l.list ≡ first_immortal_list l.fn.layout + l.line-index;
  number : l.number ≡ first_number l.fn.layout + start l.statics l.line-index;
}
