use Rattle.std.proofs.Common.{◌≡◌, ℕ, List, [], ◌∷◌, ◌++◌, refl, ap, ◌∙◌, subst}
use Rattle.brc_model.specs.declared.duty.Duty.{Duty}
use Rattle.brc_model.specs.declared.duty.Duty.TheVariants.{MergeSwap, SharedLoad}
use Rattle.brc_model.specs.declared.duty.Reason.TheVariants.{Own}
use Rattle.brc_model.specs.Duties.{ready}
use Rattle.brc_table.specs.declared.view.View.{View}
use Rattle.brc_heap.proofs.Stepping.{plain_first}
use Rattle.brc_free.specs.declared.giving_up.Remaining.{Remaining}
use Rattle.brc_free.specs.declared.giving_up.Remaining.TheVariants as remaining
use Rattle.brc_free.specs.Works.{HasWorked, IsLeftToCall, behind, merge_left, remaining_left}
use Rattle.brc_free.proofs.Working.{worked_first}
use Rattle.brc_free.proofs.finaliser.Finaliser.merge_or_give_up.Goals as goal

-- What is left says what comes next.
left_next : (v : View) (x : ℕ) (left case : Remaining) (rest : List Duty) → left ≡ case → IsLeftToCall x left rest v
    → v.actor.agenda ≡ ready v.actor.head (remaining_left x case ++ rest)
left_next v x left case rest is next =
    next ∙ ap (λ (r : Remaining). ready v.actor.head (remaining_left x r ++ rest)) is

pub returns-in-Nothing-clause-work : goal.returns-in-Nothing-clause-work
returns-in-Nothing-clause-work g c = λ rest next.
    worked_first c.args.hand.now.view rest
    (left_next c.args.hand.now.view c.args.row c.args.remaining remaining.Nothing rest c.in-Nothing.is next)

merge_next : (v : View) (x : ℕ) (left : Remaining) (rest : List Duty) → left ≡ remaining.Merge
    → IsLeftToCall x left rest v → v.actor.agenda ≡ MergeSwap x Own ∷ rest
merge_next v x left rest is next =
    left_next v x left remaining.Merge rest is next ∙ plain_first v.actor.head (MergeSwap x Own) rest refl

give_up_next : (v : View) (x : ℕ) (left : Remaining) (rest : List Duty) → left ≡ remaining.GiveUp
    → IsLeftToCall x left rest v → v.actor.agenda ≡ SharedLoad x Own ∷ rest
give_up_next v x left rest is next =
    left_next v x left remaining.GiveUp rest is next ∙ plain_first v.actor.head (SharedLoad x Own) rest refl

pub merge_at_zero-requires-clause-duty : goal.merge_at_zero-requires-clause-duty
merge_at_zero-requires-clause-duty g c =
    let (rest, next) = c.requires.duty in
    record {
      reason = Own;
      rest = rest;
      next = merge_next c.args.hand.now.view c.args.row c.args.remaining rest c.in-Merge.is next;
    }

pub returns-in-Merge-clause-work : goal.returns-in-Merge-clause-work
returns-in-Merge-clause-work g c = λ rest next.
    subst (λ (ds : List Duty). HasWorked c.args.hand.now.view [] ds c.merge_at_zero.new.hand.view)
    (ap merge_left (merge_next c.args.hand.now.view c.args.row c.args.remaining rest c.in-Merge.is next))
    c.merge_at_zero.ensures.work

pub give_up_as_other-requires-clause-duty : goal.give_up_as_other-requires-clause-duty
give_up_as_other-requires-clause-duty g c =
    let (rest, next) = c.requires.duty in
    record {
      reason = Own;
      rest = rest;
      next = give_up_next c.args.hand.now.view c.args.row c.args.remaining rest c.in-GiveUp.is next;
    }

pub returns-in-GiveUp-clause-work : goal.returns-in-GiveUp-clause-work
returns-in-GiveUp-clause-work g c = λ rest next.
    subst (λ (ds : List Duty). HasWorked c.args.hand.now.view [] ds c.give_up_as_other.new.hand.view)
    (ap behind (give_up_next c.args.hand.now.view c.args.row c.args.remaining rest c.in-GiveUp.is next))
    c.give_up_as_other.ensures.work
