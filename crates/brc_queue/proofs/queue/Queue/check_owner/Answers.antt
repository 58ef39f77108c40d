use Rattle.std.proofs.Common.{sym, ap, ◌∙◌}
use Rattle.brc_word.specs.Words.{mark_at}
use Rattle.brc_model.specs.declared.layout.Layout.{Layout}
use Rattle.brc_model.specs.Layout.{mark_bit}
use Rattle.brc_effect.specs.Outcomes.{taken_answer}
use Rattle.brc_table.specs.Hands.{TableState}
use Rattle.brc_heap.proofs.MarkTries.{runs, taken_back}
use Rattle.brc_queue.proofs.Scanning.{turned_layout}
use Rattle.brc_queue.proofs.queue.Queue.check_owner.Goals as goal

pub returns-then-runs-clause-left : goal.returns-then-runs-clause-left
returns-then-runs-clause-left g c = λ rest.
    runs c.go_on-said.result c.go_on-said.ensures.view (sym c.runs.ensures ∙ c.if-runs.true)

pub returns-clause-left : goal.returns-clause-left
returns-clause-left g c = λ rest.
    let layout = ap (λ (t : TableState). t.layout) (c.words-words.ensures ∙ c.self.view_is) ∙ sym c.requires.table.1
    ∙ sym (turned_layout c.args.work c.args.hand.now.view c.args.row) in
    taken_back c.taken.result c.go_on-said.result c.step-found.result c.go_on-said.ensures.view
    c.step-found.ensures.view (sym c.runs.ensures ∙ c.if-runs.false)
    (c.taken.ensures ∙ ap taken_answer (c.mark.ensures
    ∙ ap (λ (l : Layout). mark_at c.step-found.result (mark_bit l c.args.row)) layout))
