use Rattle.std.proofs.Common.{ℕ, ◌-◌, ◌^◌, ap, ◌∙◌}
use Rattle.std.specs.Prelude.{bit_and}
use Rattle.std.proofs.lemmas.Nat.{one_shl}
use Rattle.brc_word.proofs.Marks.{taken_by_and}
use Rattle.brc_word.proofs.mark.other_marks.Goals as goal

pub returns-clause-takes : goal.returns-clause-takes
returns-clause-takes c = λ word fits.
    ap (λ (m : ℕ). bit_and word (2 ^ 64 - 1 - m)) (one_shl c.args.bit 64 c.requires.bit)
    ∙ taken_by_and word c.args.bit fits c.requires.bit
