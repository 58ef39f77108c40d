use Rattle.std.proofs.Common.{sym, ◌∙◌, arith}
use Rattle.brc_machine.proofs.OwnedRows.{keeps_first, keeps_owned, keeps_none, keeps_all}
use Rattle.brc_machine.proofs.variables.owned_rows.Goals.{then-not-is_owned, else-not-is_owned}
use Rattle.brc_machine.proofs.variables.owned_rows.Goals as goal

pub loop-variable-init : goal.loop-variable-init
loop-variable-init c = keeps_first c.args.slots.now c.args.variables.now

pub loop-variable-preserved : goal.loop-variable-preserved
loop-variable-preserved c =
    let slots = c.args.slots.now in
    let rows = c.args.variables.now in
    let before = c.loop-variable.owned in
    let v = c.loop-variable.variable in
    elim c.if-not-is_owned.branch [
      | then-not-is_owned w ↦
          rw w.owned-is
          (keeps_none slots rows before v c.loop-variable.invariant
          (sym c.is_owned.ensures ∙ w.if-not-is_owned.true)
          (omega (arith, c.told-variables, c.loop-variable-test.true)))
      | else-not-is_owned w ↦
          rw w.owned-is
          (keeps_owned slots rows before v c.loop-variable.invariant
          (sym c.is_owned.ensures ∙ w.if-not-is_owned.false))
    ]

pub returns : goal.returns
returns c =
    keeps_all c.args.slots.now c.args.variables.now c.loop-variable.owned c.loop-variable.variable
    c.loop-variable.invariant (c.told-slots ∙ sym c.told-variables)
    (omega (arith, c.told-variables, c.loop-variable-test.false))
