use Rattle.std.proofs.Common.{[], sym, ap, ◌∙◌, subst}
use Rattle.brc_free.proofs.Working.{works_close}
use Rattle.brc_free.specs.Works.{ComesToSettle, AtOnce}
use Rattle.brc_table.specs.Hands.{TableState, IsOf}
use Rattle.brc_work.proofs.CallsBelow.{released_rests, released_acts}
use Rattle.brc_work.proofs.Counting.{asked_closes}
use Rattle.brc_work.proofs.Traces.Releasing.{releases}
use Rattle.brc_work.proofs.worker.Worker.release.Given as given
use Rattle.brc_work.proofs.worker.Worker.release.Goals.{After-release}
use Rattle.brc_work.proofs.worker.Worker.release.Goals as goal

-- Once the reference is given up, the hand settles next.
comes : (g : given.Over) (c : After-release g) → ComesToSettle c.release.new.hand.view []
comes g c =
    let released = c.release.ensures.released in
    AtOnce (released.keeps.status ∙ c.requires.rests.running)
    (released_rests c.args.hand.now c.release.new.hand c.args.row c.requires.rests released) released.agenda

pub settle-failed-requires-clause-duty : goal.settle-failed-requires-clause-duty
settle-failed-requires-clause-duty g c = λ κs lives. (
  [],
  comes g (goal.at.settle-failed-requires-clause-duty g c).After-release,
)

pub returns-clause-of : goal.returns-clause-of
returns-clause-of g c =
    subst (λ (w : TableState). IsOf w c.settle-failed.new.hand) (c.new-finaliser.ensures ∙ c.self.view_is)
    c.settle-failed.ensures.table

pub returns-clause-acts : goal.returns-clause-acts
returns-clause-acts g c =
    let work = c.settle-failed.ensures.work [] (comes g (goal.at.returns-clause-acts g c).After-release) in
    released_acts c.args.hand.now c.release.new.hand c.settle-failed.new.hand c.args.row work.0 c.requires.rests
    c.release.ensures.released work.1 c.settle-failed.ensures.chain
    (c.settle-failed.ensures.table.0
    ∙ (ap (λ (w : TableState). w.table) (c.new-finaliser.ensures ∙ c.self.view_is) ∙ sym c.requires.of.0))
    (c.settle-failed.ensures.carried ∙ c.release.ensures.carried)
    (c.settle-failed.ensures.fields ∙ c.release.ensures.fields)

pub returns-clause-less : goal.returns-clause-less
returns-clause-less g c =
    let work = c.settle-failed.ensures.work [] (comes g (goal.at.returns-clause-less g c).After-release) in
    work.1.keeps.references ∙ c.release.ensures.released.keeps.references

pub returns-clause-asked : goal.returns-clause-asked
returns-clause-asked g c =
    let steps = c.release.ensures.work in
    let work = c.settle-failed.ensures.work [] (comes g (goal.at.returns-clause-asked g c).After-release) in
    asked_closes work.0 c.settle-failed.result (works_close _ _ work.0 work.1.works) work.2 c.count_close_faults.ensures
    work.3
    (releases c.args.row steps.0 work.0 c.args.hand.now.view c.release.new.hand.view c.settle-failed.new.hand.view
    c.requires.rests.agenda steps.1 work.1 c.settle-failed.ensures.chain)
