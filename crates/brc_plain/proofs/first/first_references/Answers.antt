-- Line by line, the cells' references are added; behind them are those of the callers.
use Rattle.std.proofs.Common.{◌≡◌, ℕ, suc, ◌+◌, List, ◌++◌, drop, length, map, sym, ap, ◌∙◌, arith}
use Rattle.std.proofs.lemmas.List.{append_assoc}
use Rattle.brc_model.specs.AbstractState as model
use Rattle.brc_model.specs.FirstRows.{line_references, list_references, start}
use Rattle.brc_model.specs.StepMachine.{callers_below}
use Rattle.brc_model.proofs.Keeping.FirstRows.{line_short}
use Rattle.brc_plain.specs.Bags.{reference_in}
use Rattle.brc_plain.proofs.FirstLists.{next_line, no_line}
use Rattle.brc_effect.proofs.FirstLists.{start_next, line_within, line_length}
use Rattle.brc_plain.proofs.first.first_references.Goals as goal

next_is : (s : ℕ) → suc s ≡ s + 1
next_is s = omega arith

pub loop-line-init : goal.loop-line-init
loop-line-init c = record {
  references =
      λ i. map reference_in (c.new-references.ensures.items i)
      ++ list_references (c.first_immortal_list-list.ensures i) (c.first_number-first.ensures i) c.args.statics.now;
  list = omega (arith, c.first_immortal_list-list.ensures);
  first = omega (arith, c.first_number-first.ensures);
}

pub overflow_cast-count : goal.overflow_cast-count
overflow_cast-count c =
    let lines = c.args.statics.now in
    let s = c.loop-line.line-index in
    omega (
      arith,
      line_short c.args.layout.cells lines s c.requires.lines.each,
      line_length lines s c.line-item.result c.loop-line-test.true c.line-item.is,
      c.len-count.ensures,
    )

pub add_line-requires : goal.add_line-requires
add_line-requires c =
    let lines = c.args.statics.now in
    let s = c.loop-line.line-index in
    omega (
      arith,
      c.loop-line.invariant.first,
      c.requires.small,
      line_within lines s c.loop-line-test.true,
      c.len-count.ensures,
      line_length lines s c.line-item.result c.loop-line-test.true c.line-item.is,
      c.requires.lines.numbers,
    )

pub overflow_add-list : goal.overflow_add-list
overflow_add-list c =
    omega (arith, c.loop-line.invariant.list, c.requires.small, c.requires.lines.lists, c.loop-line-test.true)

pub overflow_add-first : goal.overflow_add-first
overflow_add-first c =
    let lines = c.args.statics.now in
    let s = c.loop-line.line-index in
    omega (
      arith,
      c.loop-line.invariant.first,
      c.requires.small,
      line_within lines s c.loop-line-test.true,
      c.len-count.ensures,
      line_length lines s c.line-item.result c.loop-line-test.true c.line-item.is,
      c.requires.lines.numbers,
    )

pub loop-line-preserved : goal.loop-line-preserved
loop-line-preserved c =
    let lines = c.args.statics.now in
    let s = c.loop-line.line-index in
    let line = c.line-item.result in
    let list = c.loop-line.list in
    let first = c.loop-line.first in
    let before = map reference_in c.loop-line.references.items in
    let counted : c.len-count.result ≡ length line = c.len-count.ensures in
    let after = list_references (list + 1) (first + length line) (drop (s + 1) lines) in
    record {
      references =
          (λ i. c.in_ok-add_line.ensures i ++ list_references (list + 1) (first + counted i) (drop (s + 1) lines))
          ∙ append_assoc before (line_references list first c.len-count.result) after
          ∙ (λ i. before ++ (line_references list first (counted i) ++ after))
          ∙ ap (λ (those : List model.Reference). before ++ those)
          (sym (next_line list first lines s line c.loop-line-test.true c.line-item.is))
          ∙ c.loop-line.invariant.references;
      list = omega (arith, c.loop-line.invariant.list);
      first =
          omega (
            arith,
            c.loop-line.invariant.first,
            start_next lines s,
            ap (λ (n : ℕ). start lines n) (next_is s),
            counted,
            line_length lines s line c.loop-line-test.true c.line-item.is,
          );
    }

pub returns : goal.returns
returns c =
    let lines = c.args.statics.now in
    let s = c.loop-line.line-index in
    let before = map reference_in c.loop-line.references.items in
    c.in_ok-add_callers.ensures
    ∙ ap (λ (those : List model.Reference). those ++ callers_below c.args.callers)
    (sym (no_line c.loop-line.list c.loop-line.first lines s before (omega arith))
    ∙ c.loop-line.invariant.references)
