-- Where the thread is decides at which instruction it is.
use Rattle.std.proofs.Common.{ap}
use Rattle.brc_plain.specs.Places.{context_in, place_in}
use Rattle.brc_plain.proofs.Calling.{is_action, found_at, in_call, inside, idle}
use Rattle.brc_plain.proofs.dispatch.dispatch.Goals as goal

pub returns-in-Some : goal.returns-in-Some
returns-in-Some c =
    let there = c.in-Some.ensures.lookup in
    is_action c.instruction.result _ _
    (idle c.args.layout c.args.thread c.args.used c.args.code.now (place_in c.args.place.now) c.in-Idle.left
    (context_in c.first-context.result) c.entry_variables-variables.result c.in-Some.instr.now
    (ap place_in c.in-Idle.is) c.if-left-eq0.false c.first-context.ensures c.entry_variables-variables.ensures
    (found_at c.args.code.now 0 c.in-Some.instr.now there.3.0 there.1))
    c.instruction.ensures

pub returns-in-Some-get : goal.returns-in-Some-get
returns-in-Some-get c =
    let there = c.in-Some-get.ensures.lookup in
    is_action c.instruction-in-InCall.result _ _
    (in_call c.args.layout c.args.thread c.args.used c.args.code.now (place_in c.args.place.now)
    (context_in c.in-InCall.context) c.in-InCall.at c.in-InCall.variables c.in-Some-get.instr.now
    (ap place_in c.in-InCall.is)
    (found_at c.args.code.now c.in-InCall.at c.in-Some-get.instr.now there.3.0 there.1))
    c.instruction-in-InCall.ensures

pub returns-in-Some-get-2 : goal.returns-in-Some-get-2
returns-in-Some-get-2 c =
    let there = c.in-Some-get-2.ensures.lookup in
    is_action c.inside.result _ _
    (inside c.args.layout c.args.thread c.args.used c.args.code.now (place_in c.args.place.now)
    (context_in c.in-Inside.context) c.in-Inside.at c.in-Inside.variables c.in-Some-get-2.instr.now c.in-Inside.stage
    (ap place_in c.in-Inside.is)
    (found_at c.args.code.now c.in-Inside.at c.in-Some-get-2.instr.now there.3.0 there.1))
    c.inside.ensures
