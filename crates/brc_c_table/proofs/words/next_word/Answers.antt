use Rattle.std.proofs.Common.{sym}
use Rattle.brc_c_table.proofs.FirstWord.{no_words, first_found, last_found}
use Rattle.brc_c_table.proofs.words.next_word.Goals as goal

pub returns-in_err-start : goal.returns-in_err-start
returns-in_err-start c = rw c.from_residual.ensures (no_words c.args.text.now (sym c.in_err-start.ensures))

pub returns-in-Some : goal.returns-in-Some
returns-in-Some c =
    first_found c.args.text.now c.in_ok-start.start c.in-Some.end (sym c.in_ok-start.ensures) (sym c.in-Some.ensures)

pub returns-in-None : goal.returns-in-None
returns-in-None c = last_found c.args.text.now c.in_ok-start.start (sym c.in_ok-start.ensures) (sym c.in-None.ensures)
