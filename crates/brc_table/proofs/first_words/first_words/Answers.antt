-- Line by line, the lists get their words; at the end the words are the first words of a table.
use Rattle.std.proofs.Common.{◌≡◌, ℕ, suc, ◌+◌, ◌<◌, ◌≤◌, Bool, cond, List, length, sym, ap, ◌∙◌, subst, arith}
use Rattle.std.proofs.lemmas.Bool.{ne_eqb}
use Rattle.brc_model.specs.declared.address.Address.{Address}
use Rattle.brc_model.specs.declared.address.Address.TheVariants.{ThreadWord}
use Rattle.brc_model.specs.declared.layout.Layout.{Layout}
use Rattle.brc_model.specs.FirstRows.{start}
use Rattle.brc_model.specs.Layout.{row_count}
use Rattle.brc_model.proofs.Keeping.FirstRows.{line_short}
use Rattle.brc_effect.specs.FirstLists.{with_list, with_lists}
use Rattle.brc_effect.proofs.FirstLists.{start_next, line_within, line_length, list_next}
use Rattle.brc_table.specs.Opening.{AreWordsOf, plain_memory}
use Rattle.brc_table.specs.Places.{FewFirstRows, word_count}
use Rattle.brc_table.specs.Rule.{reading}
use Rattle.brc_table.proofs.Duties.{rows_few}
use Rattle.brc_table.proofs.FewRows.{few_by_lines}
use Rattle.brc_table.proofs.FirstLists.{all_words, thread_words}
use Rattle.brc_table.proofs.FirstWords.{plain_words_are}
use Rattle.brc_table.proofs.first_words.first_words.Goals as goal

next_is : (s : ℕ) → suc s ≡ s + 1
next_is s = omega arith

pub loop-line-init : goal.loop-line-init
loop-line-init c = record {
  long = c.in_ok-words.ensures.length_is;
  words =
      plain_words_are c.args.layout c.requires.plain
      (few_by_lines c.args.lines.now c.args.layout c.requires.plain c.requires.lines) c.in_ok-words.words.items
      c.in_ok-words.ensures;
  list = c.immortal_list-list.ensures;
  number = omega (arith, c.first_number-number.ensures);
}

pub put_list-requires-clause-few : goal.put_list-requires-clause-few
put_list-requires-clause-few c =
    subst FewFirstRows (sym c.of-cells.ensures)
    (few_by_lines c.args.lines.now c.args.layout c.requires.plain c.requires.lines)

pub put_list-requires-clause-long : goal.put_list-requires-clause-long
put_list-requires-clause-long c = c.loop-line.invariant.long ∙ ap word_count (sym c.of-cells.ensures)

pub put_list-requires-clause-list : goal.put_list-requires-clause-list
put_list-requires-clause-list c =
    subst (λ (l : Layout). c.loop-line.list < row_count l) (sym c.of-cells.ensures)
    (omega (arith, c.loop-line.invariant.list, c.loop-line-test.true, c.requires.lines.lists))

pub put_list-requires-clause-numbers : goal.put_list-requires-clause-numbers
put_list-requires-clause-numbers c =
    let lines = c.args.lines.now in
    let s = c.loop-line.line-index in
    subst (λ (l : Layout). c.loop-line.number + length c.as_slice-values.result.now ≤ row_count l)
    (sym c.of-cells.ensures)
    (omega (
      arith,
      c.loop-line.invariant.number,
      ap (λ (line : List ℕ). length line) c.as_slice-values.ensures,
      line_within lines s c.loop-line-test.true,
      line_length lines s c.line-item.result c.loop-line-test.true c.line-item.is,
      c.requires.lines.numbers,
    ))

pub put_list-requires-clause-cells : goal.put_list-requires-clause-cells
put_list-requires-clause-cells c =
    let lines = c.args.lines.now in
    let s = c.loop-line.line-index in
    subst (λ (l : Layout). length c.as_slice-values.result.now ≤ l.cells) (sym c.of-cells.ensures)
    (omega (
      arith,
      ap (λ (line : List ℕ). length line) c.as_slice-values.ensures,
      line_short c.args.layout.cells lines s c.requires.lines.each,
      line_length lines s c.line-item.result c.loop-line-test.true c.line-item.is,
    ))

pub overflow_add-list : goal.overflow_add-list
overflow_add-list c =
    let few = few_by_lines c.args.lines.now c.args.layout c.requires.plain c.requires.lines in
    omega (
      arith,
      c.loop-line.invariant.list,
      c.loop-line-test.true,
      c.requires.lines.lists,
      rows_few c.args.layout c.requires.plain few,
    )

pub overflow_add-number : goal.overflow_add-number
overflow_add-number c =
    let lines = c.args.lines.now in
    let s = c.loop-line.line-index in
    let few = few_by_lines lines c.args.layout c.requires.plain c.requires.lines in
    omega (
      arith,
      c.loop-line.invariant.number,
      rows_few c.args.layout c.requires.plain few,
      line_within lines s c.loop-line-test.true,
      ap (λ (line : List ℕ). length line) c.as_slice-values.ensures,
      line_length lines s c.line-item.result c.loop-line-test.true c.line-item.is,
      c.requires.lines.numbers,
    )

pub loop-line-preserved : goal.loop-line-preserved
loop-line-preserved c =
    let s = c.loop-line.line-index in
    let lines = c.args.lines.now in
    let layout = c.args.layout in
    let before = with_lists plain_memory lines layout s in
    let list = c.loop-line.list in
    let number = c.loop-line.number in
    let words = c.put_list.new.words.items in
    let stored : AreWordsOf layout words (with_list before list number c.as_slice-values.result.now) =
    subst (λ (l : Layout). AreWordsOf l words (with_list before list number c.as_slice-values.result.now))
    c.of-cells.ensures
    (c.put_list.ensures.words before
    (subst (λ (l : Layout). AreWordsOf l c.loop-line.words.items before) (sym c.of-cells.ensures)
    c.loop-line.invariant.words)) in
    record {
      long = c.put_list.ensures.long ∙ ap word_count c.of-cells.ensures;
      words =
          subst (λ (m : Address → ℕ). AreWordsOf layout words m)
          (list_next plain_memory lines layout s list number c.line-item.result c.loop-line-test.true
          c.loop-line.invariant.list c.loop-line.invariant.number c.line-item.is)
          (subst (λ (line : List ℕ). AreWordsOf layout words (with_list before list number line))
          c.as_slice-values.ensures stored);
      list = omega (arith, c.loop-line.invariant.list);
      number =
          omega (
            arith,
            c.loop-line.invariant.number,
            start_next lines s,
            ap (λ (n : ℕ). start lines n) (next_is s),
            ap (λ (line : List ℕ). length line) c.as_slice-values.ensures,
            line_length lines s c.line-item.result c.loop-line-test.true c.line-item.is,
          );
    }

-- The words of all lines.
pub returns : goal.returns
returns c =
    let lines = c.args.lines.now in
    let layout = c.args.layout in
    let words = c.loop-line.words.items in
    let all : AreWordsOf layout words (with_lists plain_memory lines layout (length lines)) =
    subst (λ (s : ℕ). AreWordsOf layout words (with_lists plain_memory lines layout s))
    (omega (arith, c.loop-line-test.false, c.loop-line.auto.line-index-end)) c.loop-line.invariant.words in
    record {
      length_is = c.loop-line.invariant.long;
      each = λ a has. ap (reading a) (all a has) ∙ all_words lines layout c.requires.lines a has;
      main_runs = all (ThreadWord 0) (omega arith) ∙ thread_words lines layout c.requires.lines 0;
      workers_wait = λ t some low.
          all (ThreadWord t) (omega (arith, low))
          ∙ (thread_words lines layout c.requires.lines t
          ∙ ap (λ (b : Bool). cond b 1 0) (ne_eqb t 0 (λ e. omega (arith, e, some))));
    }
