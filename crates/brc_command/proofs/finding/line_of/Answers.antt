use Rattle.std.proofs.Common.{List, take, ap, sym, ◌∙◌, arith}
use Rattle.brc_lang.specs.declared.module.Function.{Function}
use Rattle.brc_command.specs.Accepted.{instruction_count}
use Rattle.brc_command.specs.Calls.{is_named}
use Rattle.brc_command.proofs.Calling.{looked_up}
use Rattle.brc_command.proofs.Found.{few_lines, most_above}
use Rattle.brc_command.proofs.finding.line_of.Goals as goal

pub instruction_count-requires : goal.instruction_count-requires
instruction_count-requires c =
    rw c.as_slice-functions.ensures (most_above c.args.module.now c.in_ok-number.number c.requires.fits)

pub overflow_add-above : goal.overflow_add-above
overflow_add-above c =
    let m = c.args.module.now in
    let r = c.args.refused.now in
    let found = sym (looked_up is_named m r.function _ _ _ c.as_slice-functions.ensures c.as_bytes.ensures.value
    c.number_of.ensures) ∙ c.in_ok-number.was in
    let few = few_lines m r c.in_ok-number.number c.requires.fits c.requires.refusal found in
    let same = c.instruction_count.ensures
    ∙ ap (λ (fs : List Function). instruction_count (take c.in_ok-number.number fs)) c.as_slice-functions.ensures in
    omega (arith, few, same, c.len-top.ensures)

pub overflow_add-above-2 : goal.overflow_add-above-2
overflow_add-above-2 c =
    let m = c.args.module.now in
    let r = c.args.refused.now in
    let found = sym (looked_up is_named m r.function _ _ _ c.as_slice-functions.ensures c.as_bytes.ensures.value
    c.number_of.ensures) ∙ c.in_ok-number.was in
    let few = few_lines m r c.in_ok-number.number c.requires.fits c.requires.refusal found in
    let same = c.instruction_count.ensures
    ∙ ap (λ (fs : List Function). instruction_count (take c.in_ok-number.number fs)) c.as_slice-functions.ensures in
    omega (arith, few, same, c.len-top.ensures)

pub overflow_add-result : goal.overflow_add-result
overflow_add-result c =
    let m = c.args.module.now in
    let r = c.args.refused.now in
    let found = sym (looked_up is_named m r.function _ _ _ c.as_slice-functions.ensures c.as_bytes.ensures.value
    c.number_of.ensures) ∙ c.in_ok-number.was in
    let few = few_lines m r c.in_ok-number.number c.requires.fits c.requires.refusal found in
    let same = c.instruction_count.ensures
    ∙ ap (λ (fs : List Function). instruction_count (take c.in_ok-number.number fs)) c.as_slice-functions.ensures in
    omega (arith, few, same, c.len-top.ensures)

pub overflow_add-result-2 : goal.overflow_add-result-2
overflow_add-result-2 c =
    let m = c.args.module.now in
    let r = c.args.refused.now in
    let found = sym (looked_up is_named m r.function _ _ _ c.as_slice-functions.ensures c.as_bytes.ensures.value
    c.number_of.ensures) ∙ c.in_ok-number.was in
    let few = few_lines m r c.in_ok-number.number c.requires.fits c.requires.refusal found in
    let same = c.instruction_count.ensures
    ∙ ap (λ (fs : List Function). instruction_count (take c.in_ok-number.number fs)) c.as_slice-functions.ensures in
    omega (arith, few, same, c.len-top.ensures)
