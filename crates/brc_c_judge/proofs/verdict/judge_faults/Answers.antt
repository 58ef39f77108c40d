use Rattle.std.proofs.Common.{◌≡◌, ◌∷◌}
use Rattle.std.specs.Vec.Iter.{into_iter_items, into_iter_len}
use Rattle.brc_c_judge.specs.Texts.{Shown}
use Rattle.brc_c_judge.proofs.Confirming.{front_more, one_less, confirmed_more}
use Rattle.brc_c_judge.proofs.verdict.judge_faults.Goals as goal

pub loop-fault-preserved : goal.loop-fault-preserved
loop-fault-preserved c =
    let at = c.loop-fault in
    let fault = c.in-Some.fault in
    let text = c.in-Some-next.text in
    let faults : into_iter_items at.fault-iterator ≡ fault ∷ into_iter_items c.next.new.self =
    c.in-Some.ensures.steps.0
    in
    let texts : into_iter_items at.texts ≡ text ∷ into_iter_items c.next-in-loop-fault.new.self =
    c.in-Some-next.ensures.cases.0
    in
    let it : Shown = record { fault = fault; text = text } in (
      front_more at.yielded (into_iter_items at.fault-iterator) (into_iter_items c.next.new.self)
          (into_iter_items c.into_iter-fault-iterator.result) fault at.invariant.0 faults,
      one_less (into_iter_items at.fault-iterator) (into_iter_items c.next.new.self) fault
          (into_iter_len at.fault-iterator) (into_iter_len c.next.new.self) at.invariant.1 faults
          c.in-Some.ensures.steps.1,
      one_less (into_iter_items at.texts) (into_iter_items c.next-in-loop-fault.new.self) text
          (into_iter_len at.texts) (into_iter_len c.next-in-loop-fault.new.self) at.invariant.2 texts
          c.in-Some-next.ensures.cases.1,
      λ none.
          let more = c.in_ok-judge_fault.ensures c.if-not-branch.false none in
          confirmed_more at.yielded (into_iter_items at.texts)
          (into_iter_items c.next-in-loop-fault.new.self) (into_iter_items c.into_iter-texts.result)
          at.confirmed.items c.judge_fault.new.confirmed.items it (at.invariant.3 more.0) texts more.1,
    )
