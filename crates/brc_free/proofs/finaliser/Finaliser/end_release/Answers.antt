use Rattle.std.proofs.Common.{◌≡◌, ℕ, List, [], ◌∷◌, ◌++◌, refl, ap, ◌∙◌, subst}
use Rattle.brc_model.specs.declared.duty.Duty.{Duty}
use Rattle.brc_model.specs.declared.duty.Duty.TheVariants.{DecideAtZero, SharedLoad}
use Rattle.brc_model.specs.declared.duty.Reason.TheVariants.{Own}
use Rattle.brc_model.specs.Duties.{ready}
use Rattle.brc_table.specs.declared.view.View.{View}
use Rattle.brc_effect.specs.declared.outcomes.LocalRelease.{LocalRelease}
use Rattle.brc_effect.specs.declared.outcomes.LocalRelease.TheVariants as local
use Rattle.brc_heap.specs.Calls.{local_left}
use Rattle.brc_heap.proofs.Stepping.{plain_first}
use Rattle.brc_free.specs.Works.{HasWorked, EndsRelease, behind, remaining_left}
use Rattle.brc_free.proofs.Working.{worked_first}
use Rattle.brc_free.proofs.GivingUp.{nothing_left}
use Rattle.brc_free.proofs.finaliser.Finaliser.end_release.Goals as goal

pub returns-in-Skip-clause-work : goal.returns-in-Skip-clause-work
returns-in-Skip-clause-work g c = λ rest next.
    worked_first c.args.hand.now.view rest
    (next ∙ ap (λ (ds : List Duty). ready c.args.hand.now.view.actor.head (ds ++ rest))
    (nothing_left c.args.row c.args.release c.in-Skip.is))

-- What the answer says comes next.
zero_next : (v : View) (x : ℕ) (answer : LocalRelease) (rest : List Duty) → answer ≡ local.Zero
    → EndsRelease x answer rest v → v.actor.agenda ≡ DecideAtZero x ∷ rest
zero_next v x answer rest is next =
    next ∙ (ap (λ (a : LocalRelease). ready v.actor.head (local_left x a ++ rest)) is
    ∙ plain_first v.actor.head (DecideAtZero x) rest refl)

pub decide_at_zero-requires-clause-duty : goal.decide_at_zero-requires-clause-duty
decide_at_zero-requires-clause-duty g c =
    let (rest, next) = c.requires.duty in
    record { rest = rest; next = zero_next c.args.hand.now.view c.args.row c.args.release rest c.in-Zero.is next }

pub returns-in-Zero-clause-work : goal.returns-in-Zero-clause-work
returns-in-Zero-clause-work g c = λ rest next.
    subst (λ (ds : List Duty). HasWorked c.args.hand.now.view []
    (remaining_left c.args.row c.decide_at_zero.result ++ ds) c.decide_at_zero.new.hand.view)
    (ap behind (zero_next c.args.hand.now.view c.args.row c.args.release rest c.in-Zero.is next))
    c.decide_at_zero.ensures.work

pub returns-in-Share-clause-work : goal.returns-in-Share-clause-work
returns-in-Share-clause-work g c = λ rest next.
    worked_first c.args.hand.now.view (SharedLoad c.args.row Own ∷ rest)
    (next ∙ ap (λ (a : LocalRelease). ready c.args.hand.now.view.actor.head (local_left c.args.row a ++ rest))
    c.in-Share.is)
