-- What the hands of a new heap have.
use Rattle.std.proofs.Common.{◌≡◌, ℕ, ap, ◌∙◌}
use Rattle.brc_table.specs.declared.view.View.{View}
use Rattle.brc_table.specs.Hands.{TableState, HandState, IsOf, CarriesNothing}
use Rattle.brc_table.specs.Views.{main_view, worker_view}
use Rattle.brc_heap.specs.Calls.{HasGiven}
use Rattle.brc_queue_tests.specs.Sharing.{HoldsRoot, small_layout, shared_row}
use Rattle.brc_queue_tests.proofs.Steps.{open_is, none_still}

-- Main's hand has nothing to do, and holds the root.
pub main_holds : {heap : TableState} {main : HandState} → IsOf heap main → main.view ≡ main_view small_layout
    → CarriesNothing main → HoldsRoot heap main
main_holds {heap} {main} table is none = record {
  table = table;
  layout = ap (λ (v : View). v.layout) is;
  status = ap (λ (v : View). v.actor.status) is;
  agenda = ap (λ (v : View). v.actor.agenda) is;
  aside = ap (λ (v : View). v.actor.aside) is;
  references = ap (λ (v : View). v.references) is;
  unlocked = ap (λ (v : View). v.actor.locked) is;
  none = none shared_row;
}

-- So does a worker's, just given out,
pub worker_holds : {heap : TableState} {hand : HandState} (thread : ℕ) → heap.layout ≡ small_layout → IsOf heap hand
    → hand.view ≡ worker_view heap.layout thread → CarriesNothing hand → HoldsRoot heap hand
worker_holds {heap} {hand} thread small table is none = record {
  table = table;
  layout = table.1 ∙ small;
  status = ap (λ (v : View). v.actor.status) is;
  agenda = ap (λ (v : View). v.actor.agenda) is;
  aside = ap (λ (v : View). v.actor.aside) is;
  references = ap (λ (v : View). v.references) is;
  unlocked = ap (λ (v : View). v.actor.locked) is;
  none = none shared_row;
}

-- and main's, once it has given out a worker's.
pub still_holds : {heap : TableState} {before after : HandState} (thread : ℕ) → HoldsRoot heap before
    → IsOf heap after → HasGiven thread before.view after.view → after.carried ≡ before.carried
    → HoldsRoot heap after
still_holds {heap} {before} {after} thread has table gives same = record {
  table = table;
  layout = gives.keeps.layout ∙ has.layout;
  status = gives.keeps.status ∙ has.status;
  agenda = gives.agenda;
  aside = gives.keeps.aside ∙ open_is has;
  references = gives.keeps.references ∙ has.references;
  unlocked = gives.keeps.locked ∙ has.unlocked;
  none = none_still before after same gives.keeps.layout has.none;
}
