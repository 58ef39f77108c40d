use Rattle.std.proofs.Common.{◌≤◌, length, arith}
use Rattle.brc_lang.specs.InstructionWords.{words}
use Rattle.brc_lang.specs.Limits.{static_number_limit}
use Rattle.brc_lang.proofs.StaticLines.{few_numbers}
use Rattle.brc_lang.proofs.static_lines.static_numbers.Goals as goal

pub returns-clause-ok : goal.returns-clause-ok
returns-clause-ok c =
    let few : length (words c.in-Some.operands.now) ≤ static_number_limit =
    omega (arith, c.word_count.ensures, c.if-word_count-gt-MOST_NUMBERS.false) in
    rw (few_numbers c.args.text.now c.split_word.result.0.now c.in-Some.operands.now
    (rw c.in-Some.is at c.split_word.ensures) few) c.numbers.ensures.ok
