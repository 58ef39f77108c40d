use Rattle.std.proofs.Common.{sym}
use Rattle.brc_lang.proofs.Lines.{word_found, word_last}
use Rattle.brc_lang.proofs.lexing.split_word.Goals as goal

pub returns-in-Some : goal.returns-in-Some
returns-in-Some c = word_found c.args.line.now c.in-Some.end (sym c.in-Some.ensures)

pub returns-in-None : goal.returns-in-None
returns-in-None c = word_last c.args.line.now (sym c.in-None.ensures)
