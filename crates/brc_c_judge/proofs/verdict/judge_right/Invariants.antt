use Rattle.std.proofs.Common.{◌≡◌, ◌++◌, length}
use Rattle.std.specs.Vec.Iter.{into_iter_items, into_iter_len}
use Rattle.brc_c_judge.specs.Verdicts.{AreAccepted}
use Rattle.brc_c_judge.proofs.verdict.judge_right.Given as goal

-- the texts in front are accepted, and the others are still to come
abbrev pub invariant-loop-text : goal.invariant-loop-text
invariant-loop-text l =
    (l.yielded ++ into_iter_items l.text-iterator ≡ into_iter_items l.initial.text-iterator)
    × (into_iter_len l.text-iterator ≡ length (into_iter_items l.text-iterator))
    × (l.accepted.items ≡ l.yielded)
    × AreAccepted l.yielded
