-- A hand that has one reference, to the root, and nothing to do.
use Rattle.std.proofs.Common.{◌≡◌, ℕ, List, [], ◌++◌, sym, ap, ◌∙◌, subst}
use Rattle.brc_model.specs.declared.duty.Duty.{Duty}
use Rattle.brc_table.specs.declared.view.View.{View}
use Rattle.brc_table.specs.Views.{open_work, main_view, worker_view}
use Rattle.brc_table.specs.Hands.{TableState, HandState, IsOf, MayWait}
use Rattle.brc_heap.specs.Calls.{HasGiven}
use Rattle.brc_fixtures.specs.Resting.{IsAtRest, IsAlone}
use Rattle.std.specs.Prelude.{None}

-- Main's hand has nothing to do at first, and holds the root,
pub main_alone : {heap : TableState} {main : HandState} → heap.layout.immortal_lists ≡ 0 → IsOf heap main
    → main.view ≡ main_view heap.layout → IsAlone heap main
main_alone none table is = record {
  table = table;
  status = ap (λ (v : View). v.actor.status) is;
  agenda = ap (λ (v : View). v.actor.agenda) is;
  aside = ap (λ (v : View). v.actor.aside) is;
  references = ap (λ (v : View). v.references) is;
  unlocked = ap (λ (v : View). v.actor.locked) is;
  no_lists = none;
}

-- and so does a worker's.
pub worker_alone : {heap : TableState} {hand : HandState} {thread : ℕ} → heap.layout.immortal_lists ≡ 0
    → IsOf heap hand → hand.view ≡ worker_view heap.layout thread → IsAlone heap hand
worker_alone none table is = record {
  table = table;
  status = ap (λ (v : View). v.actor.status) is;
  agenda = ap (λ (v : View). v.actor.agenda) is;
  aside = ap (λ (v : View). v.actor.aside) is;
  references = ap (λ (v : View). v.references) is;
  unlocked = ap (λ (v : View). v.actor.locked) is;
  no_lists = none;
}

-- Such a hand has no work at all,
pub alone_work : {heap : TableState} {hand : HandState} → IsAlone heap hand → open_work hand.view ≡ []
alone_work {heap} {hand} alone = ap (λ (ds : List Duty). ds ++ hand.view.actor.aside) alone.agenda ∙ alone.aside

-- and rests.
pub alone_rests : {heap : TableState} {hand : HandState} → IsAlone heap hand → IsAtRest heap hand None
alone_rests {heap} {hand} alone = record {
  table = alone.table;
  running = (alone.status, subst MayWait (sym alone.agenda) tt);
  rests = alone_work alone;
  locked_is = alone.unlocked;
  returned = tt;
  no_lists = alone.no_lists;
}

-- Main's hand is as before after it has given out a worker's.
pub alone_after_giving : {heap : TableState} {before after : HandState} {thread : ℕ} → IsAlone heap before
    → IsOf heap after → HasGiven thread before.view after.view → IsAlone heap after
alone_after_giving alone table gives = record {
  table = table;
  status = gives.keeps.status ∙ alone.status;
  agenda = gives.agenda;
  aside = gives.keeps.aside ∙ alone_work alone;
  references = gives.keeps.references ∙ alone.references;
  unlocked = gives.keeps.locked ∙ alone.unlocked;
  no_lists = alone.no_lists;
}
