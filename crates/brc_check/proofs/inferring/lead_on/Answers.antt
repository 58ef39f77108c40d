use Rattle.std.proofs.Common.{arith, length, sym, ap, ◌∙◌, subst}
use Rattle.brc_model.specs.declared.state.Exit.TheVariants.{Success}
use Rattle.brc_check.specs.declared.filling.Filling.{Filling}
use Rattle.brc_check.specs.Filling.{AreReached}
use Rattle.brc_check.proofs.Kept.{one_exit}
use Rattle.brc_check.proofs.Settling.{entry-within}
use Rattle.brc_check.proofs.Turns.{led-length, filled_one, first_reached}
use Rattle.brc_check.proofs.Points.{first_reported, second_result, both_led}
use Rattle.brc_check.proofs.inferring.lead_on.Goals as goal

pub lead-requires-2-clause-same_length : goal.lead-requires-2-clause-same_length
lead-requires-2-clause-same_length c =
    led-length c.as_slice-code.result.now c.args.filling.now c.lead.new.filling c.in-Some.at c.in-Some.state Success
    (c.requires.same_length ∙ ap length (sym c.as_slice-code.ensures)) c.in_ok-reported.ensures.filled

pub returns-in-Some-2-clause-filled : goal.returns-in-Some-2-clause-filled
returns-in-Some-2-clause-filled c =
    first_reported c.args.function.now c.args.filling.now c.lead.new.filling c.args.turn c.in-Some.at c.in-Some.state
    c.in-Some-2.reported.at c.in-Some-2.reported.code c.requires c.in-Some.ensures.known
    (rw c.as_slice-code.ensures at c.in_ok-reported.ensures.filled)
    (rw c.as_slice-code.ensures at (rw c.in-Some-2.is at c.in_ok-reported.ensures.reported))

pub returns-clause-filled : goal.returns-clause-filled
returns-clause-filled c =
    second_result c.args.function.now c.args.filling.now c.lead.new.filling c.lead-2.new.filling c.args.turn
    c.in-Some.at c.in-Some.state c.lead-2.result c.requires c.in-Some.ensures.found c.in-Some.ensures.known
    (rw c.as_slice-code.ensures at c.in_ok-reported.ensures.filled)
    (rw c.as_slice-code.ensures at (rw c.in_default-2.is at c.in_ok-reported.ensures.reported))
    (rw c.as_slice-code.ensures at c.lead-2.ensures.filled) (rw c.as_slice-code.ensures at c.lead-2.ensures.reported)

pub returns-in-Some-2-clause-reached : goal.returns-in-Some-2-clause-reached
returns-in-Some-2-clause-reached c =
    subst (λ (f : Filling). AreReached c.args.function.now f.entries) (sym
    (rw c.as_slice-code.ensures at c.in_ok-reported.ensures.filled))
    (first_reached c.args.function.now c.args.filling.now c.args.turn c.in-Some.at c.in-Some.state c.requires
    c.in-Some.ensures.known)

pub returns-clause-reached : goal.returns-clause-reached
returns-clause-reached c =
    both_led c.args.function.now c.args.filling.now c.lead.new.filling c.lead-2.new.filling c.args.turn c.in-Some.at
    c.in-Some.state c.lead-2.result c.requires c.in-Some.ensures.known
    (rw c.as_slice-code.ensures at c.in_ok-reported.ensures.filled)
    (rw c.as_slice-code.ensures at c.lead-2.ensures.filled)

pub returns-then-not-has_two_exits-clause-filled : goal.returns-then-not-has_two_exits-clause-filled
returns-then-not-has_two_exits-clause-filled c =
    filled_one c.args.function.now c.args.filling.now c.lead.new.filling c.args.turn c.in-Some.at c.in-Some.state
    c.requires c.in-Some.ensures.found c.in-Some.ensures.known
    (rw c.as_slice-code.ensures at c.in_ok-reported.ensures.filled)
    (rw c.as_slice-code.ensures at (rw c.in_default-2.is at c.in_ok-reported.ensures.reported))
    (one_exit c.args.function.now.code c.in-Some.at c.index-code-at.result c.in-Some.state
    (let within = entry-within c.args.filling.now.entries c.in-Some.at c.in-Some.state c.in-Some.ensures.known in
    let same = c.requires.same_length in omega (arith, within, same))
    (rw c.as_slice-code.ensures at c.index-code-at.is)
    (c.has_two_exits.ensures c.if-not-has_two_exits.true))

pub returns-then-not-has_two_exits-clause-reached : goal.returns-then-not-has_two_exits-clause-reached
returns-then-not-has_two_exits-clause-reached c =
    subst (λ (f : Filling). AreReached c.args.function.now f.entries) (sym
    (rw c.as_slice-code.ensures at c.in_ok-reported.ensures.filled))
    (first_reached c.args.function.now c.args.filling.now c.args.turn c.in-Some.at c.in-Some.state c.requires
    c.in-Some.ensures.known)
