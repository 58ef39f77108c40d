use Rattle.std.proofs.Common.{ℕ, List, ◌++◌, codes, OnOk, ◌∙◌, subst}
use Rattle.std.specs.Io.KnownBytes.{Appends}
use Rattle.brc_lang.specs.Grammar.{line}
use Rattle.brc_command.proofs.lines.write_bounds.Goals as goal

pub returns-clause-whole : goal.returns-clause-whole
returns-clause-whole g c =
    subst (λ (digits : List ℕ). OnOk c.write_pieces.result (Appends (g.W.Write.contents c.args.writer.now)
    (g.W.Write.contents c.write_pieces.new.writer) (line (codes "out of bounds at step " ++ digits))))
    (c.as_bytes-number.ensures.value ∙ c.format.ensures.text) c.write_pieces.ensures.whole
