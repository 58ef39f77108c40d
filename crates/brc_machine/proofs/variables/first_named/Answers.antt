use Rattle.std.proofs.Common.{sym, ◌∙◌, arith}
use Rattle.brc_model.proofs.Dispatch.Stopped.{first_names}
use Rattle.brc_machine.proofs.OwnedRows.{names_none_yet, names_none_more, first_is, first_past}
use Rattle.brc_machine.proofs.variables.first_named.Goals as goal

pub loop-variable-init : goal.loop-variable-init
loop-variable-init c = names_none_yet c.args.variables.now

pub loop-variable-preserved : goal.loop-variable-preserved
loop-variable-preserved c =
    names_none_more c.args.variables.now c.loop-variable.variable c.loop-variable.invariant
    (sym c.is_some.ensures ∙ c.if-is_some.false)

pub returns-then-is_some : goal.returns-then-is_some
returns-then-is_some c = record {
  first =
      first_is c.args.variables.now c.loop-variable.variable c.loop-variable.invariant
      (sym c.is_some.ensures ∙ c.if-is_some.true);
  low = λ some. c.loop-variable-test.true;
}

pub returns : goal.returns
returns c =
    let rows = c.args.variables.now in
    let past =
    first_past rows c.loop-variable.variable (omega (arith, c.told-variables, c.loop-variable-test.false))
    c.loop-variable.invariant in
    record {
      first = sym c.told-variables ∙ past;
      low = λ some. absurd (let within = (first_names rows some).2 in omega (arith, past, within));
    }
