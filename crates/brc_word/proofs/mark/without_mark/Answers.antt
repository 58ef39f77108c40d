use Rattle.std.proofs.Common.{ℕ, ◌-◌, ◌^◌, ap, ◌∙◌}
use Rattle.std.specs.Prelude.{bit_and}
use Rattle.std.proofs.lemmas.Nat.{one_shl}
use Rattle.brc_word.proofs.Marks.{taken_by_and}
use Rattle.brc_word.proofs.mark.without_mark.Goals as goal

-- src/mark.rt:37:1
pub returns : goal.returns
returns c =
    ap (λ (m : ℕ). bit_and c.args.word (2 ^ 64 - 1 - m)) (one_shl c.args.bit 64 c.requires.bit)
    ∙ taken_by_and c.args.word c.args.bit c.ranges.word.fits c.requires.bit
