use Rattle.brc_lang.proofs.Words.{more_than_one}
use Rattle.brc_lang.proofs.lexing.one_word.Goals as goal

pub returns-in-Some : goal.returns-in-Some
returns-in-Some c =
    more_than_one c.args.line.now c.in-Some.field-0.now c.split_word.result.0.now
    (rw c.in-Some.is at c.split_word.ensures)
