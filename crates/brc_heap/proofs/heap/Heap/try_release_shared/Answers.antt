use Rattle.std.proofs.Common.{◌≡◌, List, [], ◌∷◌, ◌∙◌, subst, append-nil}
use Rattle.brc_model.specs.declared.duty.Duty.{Duty}
use Rattle.brc_model.specs.declared.duty.Duty.TheVariants.{SharedLoad}
use Rattle.brc_model.specs.declared.duty.Reason.{Reason}
use Rattle.brc_table.specs.Views.{turned, work_about}
use Rattle.brc_heap.specs.Calls.{shared_left}
use Rattle.brc_heap.specs.Steps.{HasStepped}
use Rattle.brc_heap.proofs.Leaving.{turned_works}
use Rattle.brc_heap.proofs.Stepping.{stepped_leaves}
use Rattle.brc_heap.proofs.Tries.{shared_piece, shared_chained}
use Rattle.brc_heap.proofs.heap.Heap.try_release_shared.Given as given
use Rattle.brc_heap.proofs.heap.Heap.try_release_shared.Goals.{After-release_shared}
use Rattle.brc_heap.proofs.heap.Heap.try_release_shared.Goals as goal

stepped : (g : given.Over) (c : After-release_shared g) (r : Reason)
    → work_about c.args.row c.args.hand.now.view ≡ SharedLoad c.args.row r ∷ []
    → HasStepped (turned c.args.hand.now.view c.args.row) (shared_left c.args.row r c.release_shared.result)
    c.release_shared.new.hand.view
stepped g c r duty =
    subst (λ (ds : List Duty). HasStepped (turned c.args.hand.now.view c.args.row) ds c.release_shared.new.hand.view)
    (append-nil (shared_left c.args.row r c.release_shared.result)) (c.release_shared.ensures.left r [] duty)

pub returns-clause-events : goal.returns-clause-events
returns-clause-events g c =
    let (word, found, answer, view) = c.release_shared.ensures.events in
    (word, found, answer, view ∙ shared_chained _ c.args.row word found _ _ answer c.requires.duty.1)

pub returns-clause-left : goal.returns-clause-left
returns-clause-left g c = λ r duty.
    stepped_leaves (turned_works c.args.row c.args.hand.now.view)
    (stepped g (goal.at.returns-clause-left g c).After-release_shared r duty)
    (shared_piece c.args.row r c.release_shared.result)

pub returns-clause-references : goal.returns-clause-references
returns-clause-references g c =
    (stepped g (goal.at.returns-clause-references g c).After-release_shared _ c.requires.duty.1).keeps.references
