use Rattle.std.proofs.Common.{List, ap, subst, sym, ◌∙◌}
use Rattle.std.proofs.lemmas.List.{take_all}
use Rattle.brc_schedule.specs.declared.schedule.PlannedCall.{PlannedCall}
use Rattle.brc_model.specs.Safety.{AreCalls}
use Rattle.brc_command.specs.Calls.{is_callable, calls_of, AreKnown, IsFirstUnknown}
use Rattle.brc_command.proofs.Calling.{made, known_there, known_next, calls_next, first_unknown, calls_fit, looked_up}
use Rattle.brc_command.proofs.calls.calls_of.Goals as goal

pub returns-in_default-clause-fault : goal.returns-in_default-clause-fault
returns-in_default-clause-fault c =
    let m = c.args.module.now in
    let call = c.call-item.result in
    let found = looked_up is_callable m call.name _ _ _ c.as_slice-functions.ensures c.as_bytes.ensures.value
    c.number_of_callable.ensures in
    subst (λ (l : List PlannedCall). IsFirstUnknown m l call.name) c.as_slice-planned.ensures
    (first_unknown m c.as_slice-planned.result.now c.loop-call.call-index call c.loop-call-test.true
    (sym c.call-item.is) c.loop-call.invariant.1 (sym found ∙ c.in_default.is))

pub loop-call-preserved : goal.loop-call-preserved
loop-call-preserved c =
    let m = c.args.module.now in
    let planned = c.as_slice-planned.result.now in
    let i = c.loop-call.call-index in
    let call = c.call-item.result in
    let looked = looked_up is_callable m call.name _ _ _ c.as_slice-functions.ensures c.as_bytes.ensures.value
    c.number_of_callable.ensures in
    let found = sym looked ∙ c.in-Some.is in
    let before = c.loop-call.invariant in
    let pushed = c.in_ok-push.ensures.items ∙ made m call c.in-Some.function _ _ found before.0 in (
      pushed ∙ calls_next m planned i call c.loop-call-test.true (sym c.call-item.is),
      known_next m planned i call c.loop-call-test.true (sym c.call-item.is) before.1
          (known_there m call.name c.in-Some.function found),
    )

pub returns-clause-calls_fit : goal.returns-clause-calls_fit
returns-clause-calls_fit c =
    let m = c.args.module.now in
    let planned = c.as_slice-planned.result.now in
    let all = take_all c.loop-call.call-index planned c.loop-call-test.false ∙ c.as_slice-planned.ensures in
    let known = subst (AreKnown m) all c.loop-call.invariant.1 in
    let same = c.loop-call.invariant.0 ∙ ap (calls_of m) all in
    subst (AreCalls m) (sym same) (calls_fit m c.args.schedule.now c.requires known)
