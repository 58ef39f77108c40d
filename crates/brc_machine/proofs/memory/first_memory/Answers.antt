-- Line by line, the lists get their words; at the end the words are the model's first words.
use Rattle.std.proofs.Common.{◌≡◌, ℕ, suc, List, ◌+◌, length, ap, ◌∙◌, arith}
use Rattle.brc_model.specs.declared.address.Address.{Address}
use Rattle.brc_model.specs.FirstRows.{start}
use Rattle.brc_model.proofs.Keeping.FirstRows.{line_short}
use Rattle.brc_effect.specs.FirstLists.{with_list, with_lists}
use Rattle.brc_effect.proofs.FirstLists.{start_next, line_within, line_length, list_next}
use Rattle.brc_machine.specs.FirstWords.{plain_words}
use Rattle.brc_machine.specs.Storage.{word_in}
use Rattle.brc_machine.proofs.FirstWords.{all_words}
use Rattle.brc_machine.proofs.memory.first_memory.Goals as goal

next_is : (s : ℕ) → suc s ≡ s + 1
next_is s = omega arith

pub loop-line-init : goal.loop-line-init
loop-line-init c = record {
  words = c.in_ok-memory.ensures.words;
  rows = c.in_ok-memory.ensures.rows;
  threads = c.in_ok-memory.ensures.threads;
  width = c.in_ok-memory.ensures.width;
  list = c.immortal_list-list.ensures;
  number = omega (arith, c.first_number-number.ensures);
}

pub put_list-requires-clause-list : goal.put_list-requires-clause-list
put_list-requires-clause-list c =
    omega (
      arith,
      c.loop-line.invariant.list,
      c.loop-line.invariant.rows,
      c.loop-line-test.true,
      c.requires.lines.lists,
    )

pub put_list-requires-clause-small : goal.put_list-requires-clause-small
put_list-requires-clause-small c = rw c.loop-line.invariant.rows c.requires.small

pub put_list-requires-clause-numbers : goal.put_list-requires-clause-numbers
put_list-requires-clause-numbers c =
    let lines = c.args.statics.now in
    let s = c.loop-line.line-index in
    rw c.as_slice-values.ensures
    (omega (
      arith,
      c.loop-line.invariant.number,
      c.loop-line.invariant.rows,
      line_within lines s c.loop-line-test.true,
      line_length lines s c.line-item.result c.loop-line-test.true c.line-item.is,
      c.requires.lines.numbers,
    ))

pub put_list-requires-clause-cells : goal.put_list-requires-clause-cells
put_list-requires-clause-cells c =
    let lines = c.args.statics.now in
    let s = c.loop-line.line-index in
    rw c.as_slice-values.ensures
    (omega (
      arith,
      c.loop-line.invariant.width,
      line_short c.args.layout.cells lines s c.requires.lines.each,
      line_length lines s c.line-item.result c.loop-line-test.true c.line-item.is,
    ))

pub overflow_add-number : goal.overflow_add-number
overflow_add-number c =
    let lines = c.args.statics.now in
    let s = c.loop-line.line-index in
    omega (
      arith,
      c.loop-line.invariant.number,
      c.requires.small,
      line_within lines s c.loop-line-test.true,
      ap (λ (line : List ℕ). length line) c.as_slice-values.ensures,
      line_length lines s c.line-item.result c.loop-line-test.true c.line-item.is,
      c.requires.lines.numbers,
    )

pub returns-clause-rows : goal.returns-clause-rows
returns-clause-rows c = c.loop-line.invariant.rows

pub returns-clause-threads : goal.returns-clause-threads
returns-clause-threads c = c.loop-line.invariant.threads

pub returns-clause-width : goal.returns-clause-width
returns-clause-width c = c.loop-line.invariant.width

pub loop-line-preserved : goal.loop-line-preserved
loop-line-preserved c =
    let s = c.loop-line.line-index in
    let lines = c.args.statics.now in
    let layout = c.args.layout in
    record {
      words =
          c.put_list.ensures.words
          ∙ ap (with_list (word_in c.loop-line.memory) c.loop-line.list c.loop-line.number) c.as_slice-values.ensures
          ∙ ap (λ (memory : Address → ℕ). with_list memory c.loop-line.list c.loop-line.number c.line-item.result)
          c.loop-line.invariant.words
          ∙ list_next (plain_words layout.workers) lines layout s c.loop-line.list c.loop-line.number
          c.line-item.result c.loop-line-test.true c.loop-line.invariant.list c.loop-line.invariant.number
          c.line-item.is;
      rows = c.put_list.ensures.rows ∙ c.loop-line.invariant.rows;
      threads = c.put_list.ensures.threads ∙ c.loop-line.invariant.threads;
      width = c.put_list.ensures.width ∙ c.loop-line.invariant.width;
      list = omega (arith, c.loop-line.invariant.list);
      number =
          omega (
            arith,
            c.loop-line.invariant.number,
            start_next lines s,
            ap (λ (n : ℕ). start lines n) (next_is s),
            ap (λ (line : List ℕ). length line) c.as_slice-values.ensures,
            line_length lines s c.line-item.result c.loop-line-test.true c.line-item.is,
          );
    }

pub returns-clause-words : goal.returns-clause-words
returns-clause-words c =
    c.loop-line.invariant.words
    ∙ ap (with_lists (plain_words c.args.layout.workers) c.args.statics.now c.args.layout) (omega arith)
    ∙ all_words c.args.statics.now c.args.layout c.requires.lines
