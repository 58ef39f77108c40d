-- What becomes of a call whose callee has stopped: it gives up what it owns, and stops too.
use Rattle.std.proofs.Common.{◌≡◌, ℕ, zero, suc, ◌-◌, ◌<◌, List, Option, Some, refl, sym, ap, ◌∙◌, subst, arith}
use Rattle.std.specs.Prelude.{slice_get}
use Rattle.brc_lang.specs.declared.module.Instr.{Instr}
use Rattle.brc_lang.specs.declared.module.Instr.TheVariants.{Call}
use Rattle.brc_lang.specs.declared.parameter.Argument.{Argument}
use Rattle.brc_model.specs.Actions.{kept_rows, passed_variables}
use Rattle.brc_model.specs.Tables.{Reaches}
use Rattle.brc_model.specs.Threads.{function_at}
use Rattle.brc_model.specs.SlotStates.{after}
use Rattle.brc_model.specs.declared.state.Exit.TheVariants.{Fault}
use Rattle.brc_model.specs.declared.state.State.{State}
use Rattle.brc_work.specs.declared.end.End.TheVariants.{Stopped}
use Rattle.brc_work.specs.Fits.{Fits}
use Rattle.brc_work.specs.Stopping.{unchained, MakesReleases}
use Rattle.brc_work.proofs.Counting.{asked_then}
use Rattle.brc_work.proofs.Nesting.{point_low, all_named, holds_still, owns_as_much, same_ends, same_runs}
use Rattle.brc_work.proofs.Traces.Calls as traces
use Rattle.brc_work.proofs.Traces.Seen.{runs_know}
use Rattle.brc_work.proofs.worker.Worker.+call.Goals as goal

pub some_left : (n : ℕ) → (n ≡ 0 → ⊥) → 0 < n
some_left zero none = absurd (none refl)
some_left (suc n) none = omega arith

pub give_up_owned-requires : goal.give_up_owned-requires
give_up_owned-requires g t c =
    let m = c.args.checked.now.module in
    let number = c.args.function in
    let f = function_at m.functions number in
    let known = c.states_are_true.ensures in
    let checked = c.code_of-code.ensures.accepted in
    let at = c.loop.at in
    let rows = c.loop.rows in
    let hand = c.loop.hand in
    let later = c.call.new.hand in
    let to = c.in-Call.to in
    let callee = c.in-Call.callee in
    let arguments = c.in-Call.arguments in
    let otherwise = c.in-Call.otherwise in
    let i = Call to callee arguments otherwise in
    let found = ap (λ (code : List Instr). slice_get code at) (sym c.code_of-code.ensures.value)
    ∙ (c.instruction_at-instr.ensures ∙ ap Some c.in-Call.is) in
    let entry = passed_variables rows arguments in
    let is_entry = c.passed-inner.ensures ∙ ap (passed_variables rows) c.as_slice.ensures.value in
    let is_rows =
    c.keep.ensures ∙ ap (λ (xs : List Argument). kept_rows rows xs to) c.as_slice-in-Call.ensures.value in
    let is_state : (s : State) → Reaches f at s → c.apply.new.state ≡ after i Fault s = λ s reaches.
    c.apply.ensures
    ∙ ap (λ (s : State). after c.instruction_at-instr.result.now Fault s)
    (c.state_at-state-in-Stopped.ensures s reaches)
    ∙ ap (λ (j : Instr). after j Fault s) c.in-Call.is in
    let ends =
    same_ends m.functions c.callee_at-number.result callee c.passed-inner.result entry Stopped hand later
    c.callee_at-number.ensures.value is_entry
    c.in-Stopped.ensures.ends in
    let asked = c.in-Stopped.ensures.asked in
    let more =
    runs_know m.functions callee entry (c.loop.left - 1) c.call.new.left asked.calls hand.view later.view Stopped
    (same_runs m.functions c.callee_at-number.result callee c.passed-inner.result entry
    (c.loop.left - 1) c.call.new.left Stopped
    asked.calls hand.view later.view c.callee_at-number.ensures.value is_entry asked.made) in
    let base = c.requires.may.base in
    let begins = c.requires.may.begins in
    let goes = c.loop.invariant.1 base begins in
    record {
      fits = record {
        base = base;
        state = after i Fault goes.state;
        of = c.in-Stopped.ensures.of;
        fits = subst (λ (rs : List (Option ℕ)). Fits base (after i Fault goes.state) rs (unchained later)) (sym is_rows)
            (holds_still m _ known.fits known.acceptable known.truth number c.requires.function checked at rows hand to
            callee arguments otherwise found base goes begins.root begins.room later ends more);
        can_do = owns_as_much m _ known.fits known.acceptable known.truth number c.requires.function checked at rows
            hand to callee arguments otherwise found base goes begins.root begins.room c.apply.new.state
            (is_state goes.state goes.reaches);
      };
    }

pub returns-in-Stopped-clause-ends : goal.returns-in-Stopped-clause-ends
returns-in-Stopped-clause-ends g t c = λ base begins.
    let m = c.args.checked.now.module in
    let number = c.args.function in
    let f = function_at m.functions number in
    let known = c.states_are_true.ensures in
    let checked = c.code_of-code.ensures.accepted in
    let at = c.loop.at in
    let rows = c.loop.rows in
    let hand = c.loop.hand in
    let later = c.call.new.hand in
    let to = c.in-Call.to in
    let callee = c.in-Call.callee in
    let arguments = c.in-Call.arguments in
    let otherwise = c.in-Call.otherwise in
    let i = Call to callee arguments otherwise in
    let found = ap (λ (code : List Instr). slice_get code at) (sym c.code_of-code.ensures.value)
    ∙ (c.instruction_at-instr.ensures ∙ ap Some c.in-Call.is) in
    let entry = passed_variables rows arguments in
    let is_entry = c.passed-inner.ensures ∙ ap (passed_variables rows) c.as_slice.ensures.value in
    let is_rows =
    c.keep.ensures ∙ ap (λ (xs : List Argument). kept_rows rows xs to) c.as_slice-in-Call.ensures.value in
    let is_state : (s : State) → Reaches f at s → c.apply.new.state ≡ after i Fault s = λ s reaches.
    c.apply.ensures
    ∙ ap (λ (s : State). after c.instruction_at-instr.result.now Fault s)
    (c.state_at-state-in-Stopped.ensures s reaches)
    ∙ ap (λ (j : Instr). after j Fault s) c.in-Call.is in
    let ends =
    same_ends m.functions c.callee_at-number.result callee c.passed-inner.result entry Stopped hand later
    c.callee_at-number.ensures.value is_entry
    c.in-Stopped.ensures.ends in
    let asked = c.in-Stopped.ensures.asked in
    let more =
    runs_know m.functions callee entry (c.loop.left - 1) c.call.new.left asked.calls hand.view later.view Stopped
    (same_runs m.functions c.callee_at-number.result callee c.passed-inner.result entry
    (c.loop.left - 1) c.call.new.left Stopped
    asked.calls hand.view later.view c.callee_at-number.ensures.value is_entry asked.made) in
    let goes = c.loop.invariant.1 base begins in
    c.give_up_owned.ensures.returned base (after i Fault goes.state)
    (subst (λ (rs : List (Option ℕ)). Fits base (after i Fault goes.state) rs (unchained later)) (sym is_rows)
    (holds_still m _ known.fits known.acceptable known.truth number c.requires.function checked at rows hand to callee
    arguments otherwise found base goes begins.root begins.room later ends more))
    (owns_as_much m _ known.fits known.acceptable known.truth number c.requires.function checked at rows hand to callee
    arguments otherwise found base goes begins.root begins.room c.apply.new.state (is_state goes.state goes.reaches))

pub returns-in-Stopped-clause-asked : goal.returns-in-Stopped-clause-asked
returns-in-Stopped-clause-asked g t c =
    let m = c.args.checked.now.module in
    let number = c.args.function in
    let f = function_at m.functions number in
    let known = c.states_are_true.ensures in
    let checked = c.code_of-code.ensures.accepted in
    let at = c.loop.at in
    let rows = c.loop.rows in
    let hand = c.loop.hand in
    let later = c.call.new.hand in
    let to = c.in-Call.to in
    let callee = c.in-Call.callee in
    let arguments = c.in-Call.arguments in
    let otherwise = c.in-Call.otherwise in
    let i = Call to callee arguments otherwise in
    let found = ap (λ (code : List Instr). slice_get code at) (sym c.code_of-code.ensures.value)
    ∙ (c.instruction_at-instr.ensures ∙ ap Some c.in-Call.is) in
    let entry = passed_variables rows arguments in
    let is_entry = c.passed-inner.ensures ∙ ap (passed_variables rows) c.as_slice.ensures.value in
    let is_rows =
    c.keep.ensures ∙ ap (λ (xs : List Argument). kept_rows rows xs to) c.as_slice-in-Call.ensures.value in
    let is_state : (s : State) → Reaches f at s → c.apply.new.state ≡ after i Fault s = λ s reaches.
    c.apply.ensures
    ∙ ap (λ (s : State). after c.instruction_at-instr.result.now Fault s)
    (c.state_at-state-in-Stopped.ensures s reaches)
    ∙ ap (λ (j : Instr). after j Fault s) c.in-Call.is in
    let asked = c.in-Stopped.ensures.asked in
    let base = c.requires.may.base in
    let goes = c.loop.invariant.1 base c.requires.may.begins in
    let low = point_low f checked base at rows hand goes in
    let named =
    all_named m _ known.fits known.acceptable known.truth number c.requires.function checked at rows hand to callee
    arguments otherwise found base goes in
    let x = c.give_up_owned.new.hand.view in
    let releases =
    subst (λ (s : State). MakesReleases s (kept_rows rows arguments to) later.view x)
    (is_state goes.state goes.reaches)
    (subst (λ (rs : List (Option ℕ)). MakesReleases c.apply.new.state rs later.view x) is_rows
    c.give_up_owned.ensures.made) in
    asked_then (λ cs ds come runs.
    traces.stops_around m.functions number c.args.entry.now c.args.left.now c.loop.left cs
    c.args.hand.now.view at c.loop.turns rows hand.view come to callee arguments otherwise found low
    (some_left c.loop.left c.if-left-eq0.false) named c.call.new.left ds later.view x goes.state
    (same_runs m.functions c.callee_at-number.result callee c.passed-inner.result entry
    (c.loop.left - 1) c.call.new.left
    Stopped ds hand.view later.view c.callee_at-number.ensures.value is_entry runs) goes.reaches releases)
    c.loop.invariant.2 asked
