use Rattle.std.proofs.Common.{◌∙◌, sym}
use Rattle.brc_command.specs.Calls.{is_callable}
use Rattle.brc_command.proofs.Calling.{looked_up, known_there, unknown_there, may_be_called}
use Rattle.brc_command.proofs.carrying.call_of.Goals as goal

pub returns-in-Some-clause-known : goal.returns-in-Some-clause-known
returns-in-Some-clause-known c = λ _.
    let m = c.args.module.now in
    let name = c.args.asked.now.function.now in
    known_there m name c.in-Some.number (sym (looked_up is_callable m name _ _ _ c.as_slice.ensures
    c.as_bytes.ensures.value c.number_of_callable.ensures) ∙ c.in-Some.is)

pub returns-in-None-clause-unknown : goal.returns-in-None-clause-unknown
returns-in-None-clause-unknown c = λ _.
    let m = c.args.module.now in
    let name = c.args.asked.now.function.now in
    unknown_there m name (sym (looked_up is_callable m name _ _ _ c.as_slice.ensures c.as_bytes.ensures.value
    c.number_of_callable.ensures) ∙ c.in-None.is)

pub returns-in-Some-clause-fits : goal.returns-in-Some-clause-fits
returns-in-Some-clause-fits c =
    let m = c.args.module.now in
    let name = c.args.asked.now.function.now in
    may_be_called m name c.in-Some.number c.args.asked.now.times (sym (looked_up is_callable m name _ _ _
    c.as_slice.ensures c.as_bytes.ensures.value c.number_of_callable.ensures) ∙ c.in-Some.is)
    c.args.asked.now.some_times c.args.asked.now.most_times
