use Rattle.std.proofs.Common.{◌≡◌, ℕ, ◌-◌, ◌%◌, ◌^◌, min, ap, ◌∙◌, arith}
use Rattle.std.specs.Prelude.{bit_and}
use Rattle.std.proofs.lemmas.Nat.{one_shl, and_mask}
use Rattle.brc_word.specs.Words.{marks_of_word}
use Rattle.brc_word.proofs.mark.first_marks.Goals as goal

pub returns-then-rows-lt-MARKS_OF_WORD : goal.returns-then-rows-lt-MARKS_OF_WORD
returns-then-rows-lt-MARKS_OF_WORD c =
    let all : c.args.rows ≡ min c.args.rows marks_of_word = omega (arith, c.if-rows-lt-MARKS_OF_WORD.true) in
    ap (λ (m : ℕ). bit_and c.args.word (m - 1)) (one_shl c.args.rows 64 c.if-rows-lt-MARKS_OF_WORD.true)
    ∙ and_mask c.args.word c.args.rows ∙ ap (λ (n : ℕ). c.args.word % 2 ^ n) all
