-- The list's cells name their numbers one by one.
use Rattle.std.proofs.Common.{ℕ, ◌+◌, ◌*◌, length, refl, subst, arith}
use Rattle.brc_model.specs.declared.address.Address.{Address}
use Rattle.brc_model.specs.declared.address.Address.TheVariants.{Local, KindOf}
use Rattle.brc_model.specs.Machine.{written}
use Rattle.brc_word.specs.declared.values.TheConstants.{LIST}
use Rattle.brc_word.specs.Words.{half}
use Rattle.brc_effect.specs.FirstLists.{with_empty_list, with_numbers}
use Rattle.brc_effect.proofs.FirstLists.{number_next}
use Rattle.brc_table.specs.Opening.{AreWordsOf}
use Rattle.brc_table.proofs.Duties.{rows_few}
use Rattle.brc_table.proofs.first_words.put_list.Goals as goal

pub loop-value-init : goal.loop-value-init
loop-value-init c = record {
  long = c.put-2.ensures.long;
  words = λ memory are.
      let local = Local c.args.list in
      let kind = KindOf c.args.list in
      let immortal = written memory local c.local_word-immortal.result in
      let stored = c.put-2.ensures.words immortal (c.put.ensures.words memory are) in
      subst (λ (w : ℕ). AreWordsOf c.args.cells c.put-2.new.words.items
      (written (written memory local w) kind (LIST * half + length c.args.line.now)))
      c.local_word-immortal.ensures.word
      (subst (λ (w : ℕ). AreWordsOf c.args.cells c.put-2.new.words.items (written immortal kind w))
      c.kind_word-kind.ensures.word stored);
  cell = refl;
}

pub overflow_add-first : goal.overflow_add-first
overflow_add-first c =
    omega (
      arith,
      c.loop-value.invariant.cell,
      c.loop-value-test.true,
      c.requires.numbers,
      rows_few c.args.cells c.requires.plain c.requires.few,
    )

pub put_number-requires-clause-long : goal.put_number-requires-clause-long
put_number-requires-clause-long c = c.loop-value.invariant.long

pub put_number-requires-clause-number : goal.put_number-requires-clause-number
put_number-requires-clause-number c =
    omega (arith, c.loop-value.invariant.cell, c.loop-value-test.true, c.requires.numbers)

pub put_number-requires-clause-cell : goal.put_number-requires-clause-cell
put_number-requires-clause-cell c =
    omega (arith, c.loop-value.invariant.cell, c.loop-value-test.true, c.requires.cells)

pub overflow_add-cell : goal.overflow_add-cell
overflow_add-cell c =
    omega (
      arith,
      c.loop-value.invariant.cell,
      c.loop-value-test.true,
      c.requires.numbers,
      rows_few c.args.cells c.requires.plain c.requires.few,
    )

pub loop-value-preserved : goal.loop-value-preserved
loop-value-preserved c = record {
  long = c.put_number.ensures.long;
  words = λ memory are.
      let list = c.args.list in
      let empty = with_empty_list memory list (length c.args.line.now) in
      let i = c.loop-value.value-index in
      subst (λ (m : Address → ℕ). AreWordsOf c.args.cells c.put_number.new.words.items m)
      (number_next empty list c.args.first c.args.line.now i c.loop-value.cell (c.args.first + c.loop-value.cell)
      c.loop-value.invariant.cell (omega (arith, c.loop-value.invariant.cell)))
      (c.put_number.ensures.words (with_numbers empty list c.args.first c.args.line.now i)
      (c.loop-value.invariant.words memory are));
  cell = omega (arith, c.loop-value.invariant.cell);
}

pub returns-clause-long : goal.returns-clause-long
returns-clause-long c = c.loop-value.invariant.long

pub returns-clause-words : goal.returns-clause-words
returns-clause-words c = λ memory are.
    let line = c.args.line.now in
    subst (λ (i : ℕ). AreWordsOf c.args.cells c.loop-value.words.items
    (with_numbers (with_empty_list memory c.args.list (length line)) c.args.list c.args.first line i))
    (omega (arith, c.loop-value-test.false, c.loop-value.auto.value-index-end))
    (c.loop-value.invariant.words memory are)
