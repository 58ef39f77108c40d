use Rattle.std.proofs.Common.{ℕ, ◌+◌, eqb, sym, ap, ◌∙◌}
use Rattle.std.proofs.lemmas.List.Splits.{length-slice_split}
use Rattle.brc_lang.proofs.lexing.word_count.Goals as goal

pub returns : goal.returns
returns c =
    ap (λ (n : ℕ). n + 1) c.count_of.ensures ∙ sym (length-slice_split (λ (b : ℕ). eqb b 32) c.args.line.now)
