use Rattle.std.proofs.Common.{sym}
use Rattle.brc_lang.proofs.Lines.{line_found, line_missing}
use Rattle.brc_lang.proofs.lexing.split_line.Goals as goal

pub returns-in_err-end : goal.returns-in_err-end
returns-in_err-end c = rw c.from_residual.ensures (line_missing c.args.text.now (sym c.in_err-end.ensures))

pub returns : goal.returns
returns c = line_found c.args.text.now c.in_ok-end.end (sym c.in_ok-end.ensures)
