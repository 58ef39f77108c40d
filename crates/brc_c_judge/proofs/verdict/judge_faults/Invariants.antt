use Rattle.std.proofs.Common.{◌≡◌, [], ◌++◌, length}
use Rattle.std.specs.Vec.Iter.{into_iter_items, into_iter_len}
use Rattle.brc_c_judge.proofs.Confirming.{AreConfirmed}
use Rattle.brc_c_judge.proofs.verdict.judge_faults.Given as goal

-- if all faults in front are confirmed, then each by its text, and the other texts are still to come
abbrev pub invariant-loop-fault : goal.invariant-loop-fault
invariant-loop-fault l =
    (l.yielded ++ into_iter_items l.fault-iterator ≡ into_iter_items l.initial.fault-iterator)
    × (into_iter_len l.fault-iterator ≡ length (into_iter_items l.fault-iterator))
    × (into_iter_len l.texts ≡ length (into_iter_items l.texts))
    × (l.unconfirmed.items ≡ []
    → AreConfirmed l.yielded (into_iter_items l.texts) (into_iter_items l.initial.texts) l.confirmed.items)
