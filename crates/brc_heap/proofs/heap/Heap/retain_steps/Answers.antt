use Rattle.std.proofs.Common.{sym, ap, ◌∙◌, subst}
use Rattle.brc_model.specs.declared.duty.Duty.TheVariants.{RetainAdd}
use Rattle.brc_model.specs.declared.duty.Holding.TheVariants.{AsCaller}
use Rattle.brc_model.specs.Machine.{is_running}
use Rattle.brc_table.specs.declared.view.View.{View}
use Rattle.brc_table.specs.Accesses.{IsNext}
use Rattle.brc_heap.proofs.Choices.{retain_shares}
use Rattle.brc_heap.proofs.heap.Heap.retain_steps.Goals as goal

pub step-requires-in-Share-clause-next : goal.step-requires-in-Share-clause-next
step-requires-in-Share-clause-next g c =
    subst (λ (v : View). IsNext (RetainAdd c.args.row AsCaller) v.actor.agenda) (sym c.retain_load-word.ensures.view)
    (retain_shares c.args.hand.now.view c.args.row c.retain_load-word.result c.thread.result c.is_running.result
    (c.thread.ensures ∙ ap (λ (v : View). v.thread) c.retain_load-word.ensures.view)
    (c.is_running.ensures ∙ ap (λ (v : View). is_running v.actor.status) c.retain_load-word.ensures.view)
    (sym c.retain_choice.ensures.word ∙ c.in-Share.is))
