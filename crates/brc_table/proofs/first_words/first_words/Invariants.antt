use Rattle.std.proofs.Common.{◌≡◌, ◌+◌, length}
use Rattle.brc_model.specs.FirstRows.{start}
use Rattle.brc_model.specs.Layout.{first_immortal_list, first_number}
use Rattle.brc_effect.specs.FirstLists.{with_lists}
use Rattle.brc_table.specs.Opening.{AreWordsOf, plain_memory}
use Rattle.brc_table.specs.Places.{word_count}
use Rattle.brc_table.proofs.first_words.first_words.Given as goal

-- Each line so far is an immortal list, and the next one's rows are the next ones.
abbrev pub invariant-loop-line : goal.invariant-loop-line
invariant-loop-line l = record {
  long : length l.words.items ≡ word_count l.fn.layout;
  words : AreWordsOf l.fn.layout l.words.items (with_lists plain_memory l.lines l.fn.layout l.line-index);
  list : l.list ≡ first_immortal_list l.fn.layout + l.line-index;
  number : l.number ≡ first_number l.fn.layout + start l.lines l.line-index;
}
