use Rattle.std.proofs.Common.{◌≡◌, [], ◌∷◌, ◌++◌, List, ap, ◌∙◌, subst}
use Rattle.std.specs.Vec.Iter.{into_iter_items, into_iter_len}
use Rattle.brc_c_image.specs.declared.image.Text.{Text}
use Rattle.brc_c_judge.specs.Texts.{IsAcceptedHere}
use Rattle.brc_c_judge.specs.Verdicts.{IsFound}
use Rattle.brc_c_judge.proofs.Confirming.{front_more, one_less, each_more}
use Rattle.brc_c_judge.proofs.verdict.judge_right.Goals as goal

pub loop-text-preserved : goal.loop-text-preserved
loop-text-preserved c =
    let at = c.loop-text in
    let x = c.in-Some.text in
    let steps : into_iter_items at.text-iterator ≡ x ∷ into_iter_items c.next.new.self = c.in-Some.ensures.steps.0 in
    let found : (c.in-Accepted.text ≡ x) × IsAcceptedHere x =
    subst (IsFound x) c.in-Accepted.is c.in_ok-text.ensures
    in (
      front_more at.yielded (into_iter_items at.text-iterator) (into_iter_items c.next.new.self)
          (into_iter_items c.into_iter-text-iterator.result) x at.invariant.0 steps,
      one_less (into_iter_items at.text-iterator) (into_iter_items c.next.new.self) x
          (into_iter_len at.text-iterator) (into_iter_len c.next.new.self) at.invariant.1 steps
          c.in-Some.ensures.steps.1,
      c.in_ok-push-in-Accepted.ensures.items
          ∙ (ap (λ (ts : List Text). ts ++ c.in-Accepted.text ∷ []) at.invariant.2
          ∙ ap (λ (t : Text). at.yielded ++ t ∷ []) found.0),
      each_more IsAcceptedHere at.yielded x at.invariant.3 found.1,
    )
