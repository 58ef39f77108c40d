use Rattle.std.proofs.Common.{List, ap, ◌∙◌}
use Rattle.std.specs.Prelude.{None}
use Rattle.brc_model.specs.declared.state.State.{State}
use Rattle.brc_model.specs.declared.state.Slot.{Slot}
use Rattle.brc_check.proofs.Calls.{entry_more, entry_past, entry_all}
use Rattle.brc_check.proofs.state.entry_of.Goals as goal
use Rattle.brc_check.proofs.state.entry_of.Goals.{then-number-parameters, else-number-parameters}

pub loop-number-preserved : goal.loop-number-preserved
loop-number-preserved c =
    elim c.if-number-parameters.branch [
      | then-number-parameters w ↦
          w.slots-is
          ∙ entry_more c.loop-number.slots c.args.parameters.now c.loop-number.number _
          w.parameter_var.result c.loop-number.invariant w.if-number-parameters.true w.parameter_var.ensures
      | else-number-parameters w ↦
          w.slots-is
          ∙ entry_past c.loop-number.slots c.args.parameters.now c.loop-number.number c.loop-number.invariant
          w.if-number-parameters.false
    ]

pub returns : goal.returns
returns c =
    ap (λ (vs : List Slot). let made : State = record { slots = vs; locked = None } in made)
    (entry_all c.loop-number.slots c.args.parameters.now c.loop-number.number c.loop-number.invariant
    c.loop-number-test.false)
