use Rattle.std.proofs.Common.{List, [], ◌∷◌, inr, refl, sym, ap, ◌∙◌, subst}
use Rattle.std.proofs.lemmas.Bool.{eq-eqb}
use Rattle.std.specs.Prelude.{is_err}
use Rattle.brc_host.specs.HostCalls.{Close}
use Rattle.brc_host.proofs.Answering.{one_call}
use Rattle.brc_model.specs.declared.duty.Duty.{Duty}
use Rattle.brc_model.specs.declared.duty.Duty.TheVariants.{TakeField}
use Rattle.brc_table.specs.declared.view.View.{View}
use Rattle.brc_table.specs.Views.{view_after, field_emptied}
use Rattle.brc_list.specs.Calls.{TakesField}
use Rattle.brc_free.specs.Works.{HasWorked, behind}
use Rattle.brc_free.proofs.FirstDuties.{take_field_first}
use Rattle.brc_heap.proofs.Stepping.{finalising_unlocked}
use Rattle.brc_free.proofs.Working.{worked_first}
use Rattle.brc_free.proofs.SettleDuties.{ended_empty}
use Rattle.brc_free.proofs.finaliser.Finaliser.close_resource.Goals as goal

pub lend-resource-requires-clause-field : goal.lend-resource-requires-clause-field
lend-resource-requires-clause-field g c =
    inr (subst (TakesField c.args.row) (sym c.requires.duty.next) refl)

pub returns-clause-work : goal.returns-clause-work
returns-clause-work g c =
    let v = c.args.hand.now.view in
    let w = c.gate_close.new.hand.view in
    let duty = c.requires.duty in
    let found = c.gate_close.result in
    let failed = is_err c.close-closed.result in (
      Close failed ∷ [],
      subst (λ (ds : List Duty). HasWorked v (Close failed ∷ []) ds w) (sym (ap behind duty.next))
          (ended_empty v v w [] c.args.row found failed duty.rest
          (worked_first v (TakeField c.args.row ∷ duty.rest)
          (duty.next ∙ sym (take_field_first v.actor.head c.args.row duty.rest)))
          (c.gate_close.ensures.view ∙ ap (λ (z : View). view_after (field_emptied z) found)
          c.lend-resource.ensures.view)
          (finalising_unlocked v (TakeField c.args.row) duty.rest c.args.row c.rows_are_there.ensures duty.next
          (eq-eqb c.args.row c.args.row refl))),
      c.faults_of.ensures,
      one_call c.close-closed.ensures.answers c.close-closed.ensures.counted,
    )
