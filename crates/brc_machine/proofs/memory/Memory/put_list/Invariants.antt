use Rattle.std.proofs.Common.{◌≡◌, length}
use Rattle.brc_effect.specs.FirstLists.{with_empty_list, with_numbers}
use Rattle.brc_machine.specs.Storage.{word_in}
use Rattle.brc_machine.proofs.memory.Memory.put_list.Given as goal

-- The cells so far name their numbers.
abbrev pub invariant-loop-value : goal.invariant-loop-value
invariant-loop-value l = record {
  words :
      word_in l.self
      ≡ with_numbers (with_empty_list (word_in l.fn.self) l.fn.list (length l.line)) l.fn.list l.fn.first l.line
      l.value-index;
  rows : length l.self.local ≡ length l.fn.self.local;
  threads : length l.self.thread ≡ length l.fn.self.thread;
  width : l.self.width ≡ l.fn.self.width;
  cell : l.cell ≡ l.value-index;
}
