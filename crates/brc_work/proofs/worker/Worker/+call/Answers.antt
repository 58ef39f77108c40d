mod Stopped
use Rattle.std.proofs.Common.{ℕ, ◌+◌, ◌-◌, ◌<◌, List, ◌++◌, length, Option, Some, sym, ap, ◌∙◌, subst, arith}
use Rattle.std.specs.Prelude.{slice_get, slice_set}
use Rattle.brc_lang.specs.Grammar.{IsInstruction}
use Rattle.brc_lang.specs.declared.module.Instr.{Instr}
use Rattle.brc_lang.specs.declared.module.Instr.TheVariants.{Ret, Fail}
use Rattle.brc_lang.specs.declared.parameter.Argument.{Argument}
use Rattle.brc_model.specs.Actions.{kept_rows, passed_variables}
use Rattle.brc_model.specs.Tables.{Reaches}
use Rattle.brc_model.specs.Threads.{function_at}
use Rattle.brc_model.specs.declared.state.State.{State}
use Rattle.brc_model.proofs.Basics.Lists.{all_of_found}
use Rattle.brc_work.specs.declared.end.End.TheVariants.{Returned, Failed}
use Rattle.brc_work.specs.Calls.{GoesTo}
use Rattle.brc_work.specs.Fits.{Fits}
use Rattle.brc_work.proofs.Counting.{asked_nothing, asked_as, asked_then}
use Rattle.brc_work.proofs.Nesting.{point_there, point_low, point_passes, ret_names, all_named, within, callee_may, goes_on_returned, goes_on_failed, same_ends, same_runs, same_begins}
use Rattle.brc_work.proofs.Stepping.{begins_at, ends_with, fails, layout_allows, goes_there}
use Rattle.brc_work.proofs.Traces.Calls.{Comes, comes_first, stops_here, comes_on, ends_returning, ends_failing}
use Rattle.brc_work.proofs.Traces.Calls as traces
use Rattle.brc_work.proofs.Traces.Seen.{runs_know}
use Rattle.brc_work.proofs.worker.Worker.+call.Goals as goal
use Rattle.brc_work.proofs.worker.Worker.+call.Answers.Stopped.{some_left}
use Rattle.brc_work.proofs.worker.Worker.+call.Answers.Stopped as stopped

pub loop-init : goal.loop-init
loop-init g t c =
    let m = c.args.checked.now.module in
    let f = function_at m.functions c.args.function in (
      c.requires.may.of,
      λ base begins. record { state = _; fits = begins.fits; reaches = begins_at f },
      asked_nothing (comes_first m.functions c.args.function c.args.entry.now c.args.left.now c.args.hand.now.view),
    )

-- ---- a stop

pub stop-requires : goal.stop-requires
stop-requires g t c =
    let base = c.requires.may.base in
    let goes = c.loop.invariant.1 base c.requires.may.begins in
    record {
      fits = record {
        base = base;
        state = goes.state;
        of = c.loop.invariant.0;
        fits = goes.fits;
        can_do = sym (c.state_at-state.ensures goes.state goes.reaches);
      };
    }

pub returns-then-left-eq0-clause-ends : goal.returns-then-left-eq0-clause-ends
returns-then-left-eq0-clause-ends g t c = λ base begins.
    let goes = c.loop.invariant.1 base begins in
    c.stop.ensures.returned base
    (subst (λ (s : State). Fits base s c.loop.rows c.loop.hand)
    (sym (c.state_at-state.ensures goes.state goes.reaches)) goes.fits)

pub returns-then-left-eq0-clause-asked : goal.returns-then-left-eq0-clause-asked
returns-then-left-eq0-clause-asked g t c =
    let m = c.args.checked.now.module in
    let goes = c.loop.invariant.1 c.requires.may.base c.requires.may.begins in
    asked_as (λ cs come.
    stops_here m.functions c.args.function c.args.entry.now c.args.left.now c.loop.left cs c.args.hand.now.view
    c.loop.at c.loop.turns c.loop.rows c.loop.hand.view come c.loop.left c.stop.new.hand.view
    c.state_at-state.result c.if-left-eq0.true
    (subst (Reaches (function_at m.functions c.args.function) c.loop.at)
    (sym (c.state_at-state.ensures goes.state goes.reaches)) goes.reaches)
    c.stop.ensures.made) c.loop.invariant.2

-- ---- an instruction

pub instruction_at-instr-requires : goal.instruction_at-instr-requires
instruction_at-instr-requires g t c =
    let f = function_at c.args.checked.now.module.functions c.args.function in
    let base = c.requires.may.base in
    let goes = c.loop.invariant.1 base c.requires.may.begins in
    subst (λ (code : List Instr). c.loop.at < length code) (sym c.code_of-code.ensures.value)
    (point_there f c.code_of-code.ensures.accepted base c.loop.at c.loop.rows c.loop.hand goes)

pub row_in-requires : goal.row_in-requires
row_in-requires g t c =
    let f = function_at c.args.checked.now.module.functions c.args.function in
    let base = c.requires.may.base in
    let goes = c.loop.invariant.1 base c.requires.may.begins in
    ret_names f c.code_of-code.ensures.accepted base c.loop.at c.loop.rows c.loop.hand goes c.in-Ret.from
    (ap (λ (code : List Instr). slice_get code c.loop.at) (sym c.code_of-code.ensures.value)
    ∙ (c.instruction_at-instr.ensures ∙ ap Some c.in-Ret.is))

pub returns-in-Ret-clause-ends : goal.returns-in-Ret-clause-ends
returns-in-Ret-clause-ends g t c = λ base begins.
    let f = function_at c.args.checked.now.module.functions c.args.function in
    let goes = c.loop.invariant.1 base begins in
    let found = ap (λ (code : List Instr). slice_get code c.loop.at) (sym c.code_of-code.ensures.value)
    ∙ (c.instruction_at-instr.ensures ∙ ap Some c.in-Ret.is) in
    ends_with base goes.state c.loop.rows c.loop.hand c.in-Ret.from c.row_in.result goes.fits
    (point_passes f c.code_of-code.ensures.accepted base c.loop.at c.loop.rows c.loop.hand goes (Ret c.in-Ret.from)
    found) c.row_in.ensures

pub returns-in-Ret-clause-asked : goal.returns-in-Ret-clause-asked
returns-in-Ret-clause-asked g t c =
    let m = c.args.checked.now.module in
    let f = function_at m.functions c.args.function in
    let base = c.requires.may.base in
    let goes = c.loop.invariant.1 base c.requires.may.begins in
    let found = ap (λ (code : List Instr). slice_get code c.loop.at) (sym c.code_of-code.ensures.value)
    ∙ (c.instruction_at-instr.ensures ∙ ap Some c.in-Ret.is) in
    asked_as (λ cs come.
    ends_returning m.functions c.args.function c.args.entry.now c.args.left.now c.loop.left cs c.args.hand.now.view
    c.loop.at c.loop.turns c.loop.rows c.loop.hand.view c.in-Ret.from c.row_in.result come found
    (point_low f c.code_of-code.ensures.accepted base c.loop.at c.loop.rows c.loop.hand goes)
    (some_left c.loop.left c.if-left-eq0.false) c.row_in.ensures) c.loop.invariant.2

pub returns-in-Fail-clause-ends : goal.returns-in-Fail-clause-ends
returns-in-Fail-clause-ends g t c = λ base begins.
    let f = function_at c.args.checked.now.module.functions c.args.function in
    let goes = c.loop.invariant.1 base begins in
    let found = ap (λ (code : List Instr). slice_get code c.loop.at) (sym c.code_of-code.ensures.value)
    ∙ (c.instruction_at-instr.ensures ∙ ap Some c.in-Fail.is) in
    fails base goes.state c.loop.rows c.loop.hand goes.fits
    (point_passes f c.code_of-code.ensures.accepted base c.loop.at c.loop.rows c.loop.hand goes Fail found)

pub returns-in-Fail-clause-asked : goal.returns-in-Fail-clause-asked
returns-in-Fail-clause-asked g t c =
    let m = c.args.checked.now.module in
    let f = function_at m.functions c.args.function in
    let base = c.requires.may.base in
    let goes = c.loop.invariant.1 base c.requires.may.begins in
    let found = ap (λ (code : List Instr). slice_get code c.loop.at) (sym c.code_of-code.ensures.value)
    ∙ (c.instruction_at-instr.ensures ∙ ap Some c.in-Fail.is) in
    asked_as (λ cs come.
    ends_failing m.functions c.args.function c.args.entry.now c.args.left.now c.loop.left cs c.args.hand.now.view
    c.loop.at c.loop.turns c.loop.rows c.loop.hand.view come found
    (point_low f c.code_of-code.ensures.accepted base c.loop.at c.loop.rows c.loop.hand goes)
    (some_left c.loop.left c.if-left-eq0.false)) c.loop.invariant.2

-- ---- an instruction that stays in the call

pub step-at-requires-clause-may : goal.step-at-requires-clause-may
step-at-requires-clause-may g t c κs within =
    let f = function_at c.args.checked.now.module.functions c.args.function in
    let base = c.requires.may.base in
    let goes = c.loop.invariant.1 base c.requires.may.begins in
    record {
      base = base;
      state = goes.state;
      of = c.loop.invariant.0;
      fits = goes.fits;
      passes = point_passes f c.code_of-code.ensures.accepted base c.loop.at c.loop.rows c.loop.hand goes
          c.instruction_at-instr.result.now
          (ap (λ (code : List Instr). slice_get code c.loop.at) (sym c.code_of-code.ensures.value)
          ∙ c.instruction_at-instr.ensures);
    }

pub step-at-requires-clause-form : goal.step-at-requires-clause-form
step-at-requires-clause-form g t c κs within =
    let f = function_at c.args.checked.now.module.functions c.args.function in
    all_of_found IsInstruction f.code c.loop.at c.instruction_at-instr.result.now c.code_of-code.ensures.accepted.each
    (ap (λ (code : List Instr). slice_get code c.loop.at) (sym c.code_of-code.ensures.value)
    ∙ c.instruction_at-instr.ensures)

pub step-at-requires-clause-allowed : goal.step-at-requires-clause-allowed
step-at-requires-clause-allowed g t c κs within =
    layout_allows c.args.checked.now.module c.args.self.now c.args.function c.loop.at c.instruction_at-instr.result.now
    c.states_are_true.ensures.fits c.requires.heap c.requires.function
    (ap (λ (code : List Instr). slice_get code c.loop.at) (sym c.code_of-code.ensures.value)
    ∙ c.instruction_at-instr.ensures)

pub step-at-requires-clause-low : goal.step-at-requires-clause-low
step-at-requires-clause-low g t c κs within =
    let f = function_at c.args.checked.now.module.functions c.args.function in
    let base = c.requires.may.base in
    let goes = c.loop.invariant.1 base c.requires.may.begins in
    point_low f c.code_of-code.ensures.accepted base c.loop.at c.loop.rows c.loop.hand goes

pub loop-preserved : goal.loop-preserved
loop-preserved g t c =
    let m = c.args.checked.now.module in
    let f = function_at m.functions c.args.function in
    let i = c.instruction_at-instr.result.now in
    let found = ap (λ (code : List Instr). slice_get code c.loop.at) (sym c.code_of-code.ensures.value)
    ∙ c.instruction_at-instr.ensures in
    let base = c.requires.may.base in
    let low =
    point_low f c.code_of-code.ensures.accepted base c.loop.at c.loop.rows c.loop.hand
    (c.loop.invariant.1 base c.requires.may.begins) in (
      c.step-at.ensures.of,
      λ base begins.
          goes_there base f c.loop.at c.step-at.result i c.loop.rows c.step-at.new.rows c.loop.hand c.step-at.new.hand
          c.code_of-code.ensures.accepted.accepted found (c.loop.invariant.1 base begins) c.step-at.ensures.goes,
      asked_then (λ cs ds come steps.
          comes_on m.functions c.args.function c.args.entry.now c.args.left.now c.loop.left cs c.args.hand.now.view
          c.loop.at c.loop.turns c.loop.rows c.loop.hand.view come i found low ds c.step-at.result c.step-at.new.turns
          c.step-at.new.rows c.step-at.new.hand.view (some_left c.loop.left c.if-left-eq0.false) steps)
          c.loop.invariant.2 c.step-at.ensures.asked,
    )

-- ---- a call that the function makes

pub callee_at-number-requires : goal.callee_at-number-requires
callee_at-number-requires g t c = record {
  function = c.requires.function;
  calls = (
    c.in-Call.to,
    c.in-Call.arguments,
    c.in-Call.otherwise,
    ap (λ (code : List Instr). slice_get code c.loop.at) (sym c.code_of-code.ensures.value)
        ∙ (c.instruction_at-instr.ensures ∙ ap Some c.in-Call.is),
  );
}

pub call-requires-clause-may : goal.call-requires-clause-may
call-requires-clause-may g t c κs lives =
    let m = c.args.checked.now.module in
    let known = c.states_are_true.ensures in
    let rows = c.loop.rows in
    let to = c.in-Call.to in
    let callee = c.in-Call.callee in
    let arguments = c.in-Call.arguments in
    let found = ap (λ (code : List Instr). slice_get code c.loop.at) (sym c.code_of-code.ensures.value)
    ∙ (c.instruction_at-instr.ensures ∙ ap Some c.in-Call.is) in
    let base = c.requires.may.base in
    let begins = c.requires.may.begins in
    let goes = c.loop.invariant.1 base begins in
    same_begins c.args.self.now m.functions c.callee_at-number.result callee c.passed-inner.result
    (passed_variables rows arguments) c.loop.hand c.callee_at-number.ensures.value
    (c.passed-inner.ensures ∙ ap (passed_variables rows) c.as_slice.ensures.value) (record {
      base = within m _ known.fits known.acceptable known.truth c.args.function c.requires.function
          c.code_of-code.ensures.accepted c.loop.at rows c.loop.hand to callee arguments c.in-Call.otherwise found base
          goes;
      of = c.loop.invariant.0;
      begins = callee_may m _ known.fits known.acceptable known.truth c.args.function c.requires.function
          c.code_of-code.ensures.accepted c.loop.at rows c.loop.hand to callee arguments c.in-Call.otherwise found base
          goes begins.root begins.room;
    })

pub overflow_add-at : goal.overflow_add-at
overflow_add-at g t c =
    let f = function_at c.args.checked.now.module.functions c.args.function in
    let base = c.requires.may.base in
    let goes = c.loop.invariant.1 base c.requires.may.begins in
    let low = point_low f c.code_of-code.ensures.accepted base c.loop.at c.loop.rows c.loop.hand goes in
    omega (arith, low)

pub loop-preserved-in-Returned : goal.loop-preserved-in-Returned
loop-preserved-in-Returned g t c =
    let m = c.args.checked.now.module in
    let number = c.args.function in
    let f = function_at m.functions number in
    let known = c.states_are_true.ensures in
    let checked = c.code_of-code.ensures.accepted in
    let at = c.loop.at in
    let rows = c.loop.rows in
    let hand = c.loop.hand in
    let later = c.call.new.hand in
    let to = c.in-Call.to in
    let callee = c.in-Call.callee in
    let arguments = c.in-Call.arguments in
    let otherwise = c.in-Call.otherwise in
    let row = c.in-Returned.row in
    let found = ap (λ (code : List Instr). slice_get code at) (sym c.code_of-code.ensures.value)
    ∙ (c.instruction_at-instr.ensures ∙ ap Some c.in-Call.is) in
    let entry = passed_variables rows arguments in
    let is_entry = c.passed-inner.ensures ∙ ap (passed_variables rows) c.as_slice.ensures.value in
    let is_rows = c.name.ensures.named
    ∙ ap (λ (rs : List (Option ℕ)). slice_set rs to (Some row))
    (c.keep.ensures ∙ ap (λ (xs : List Argument). kept_rows rows xs to) c.as_slice-in-Call.ensures.value) in
    let ends =
    same_ends m.functions c.callee_at-number.result callee c.passed-inner.result entry
    (Returned row) hand later c.callee_at-number.ensures.value
    is_entry c.in-Returned.ensures.ends in
    let asked = c.in-Returned.ensures.asked in
    let more =
    runs_know m.functions callee entry (c.loop.left - 1) c.call.new.left asked.calls hand.view later.view (Returned row)
    (same_runs m.functions c.callee_at-number.result callee c.passed-inner.result entry
    (c.loop.left - 1) c.call.new.left
    (Returned row) asked.calls hand.view later.view c.callee_at-number.ensures.value is_entry asked.made) in
    let base = c.requires.may.base in
    let goes = c.loop.invariant.1 base c.requires.may.begins in
    let low = point_low f checked base at rows hand goes in
    let named =
    all_named m _ known.fits known.acceptable known.truth number c.requires.function checked at rows hand to callee
    arguments otherwise found base goes in (
      c.in-Returned.ensures.of,
      λ base begins.
          subst (λ (rs : List (Option ℕ)). GoesTo base f (at + 1) rs later) (sym is_rows)
          (goes_on_returned m _ known.fits known.acceptable known.truth number c.requires.function checked at rows hand
          to callee arguments otherwise found base (c.loop.invariant.1 base begins) begins.root begins.room later row
          ends more),
      asked_then (λ cs ds come runs.
          subst (λ (rs : List (Option ℕ)). Comes m.functions number c.args.entry.now c.args.left.now c.call.new.left
          (cs ++ ds) c.args.hand.now.view (at + 1) c.loop.turns rs later.view) (sym is_rows)
          (traces.goes_on_returned m.functions number c.args.entry.now c.args.left.now c.loop.left cs
          c.args.hand.now.view at c.loop.turns rows hand.view come to callee arguments otherwise found low
          (some_left c.loop.left c.if-left-eq0.false) named c.call.new.left ds later.view row
          (same_runs m.functions c.callee_at-number.result callee c.passed-inner.result entry
          (c.loop.left - 1) c.call.new.left
          (Returned row) ds hand.view later.view c.callee_at-number.ensures.value is_entry runs)))
          c.loop.invariant.2 asked,
    )

pub loop-preserved-in-Failed : goal.loop-preserved-in-Failed
loop-preserved-in-Failed g t c =
    let m = c.args.checked.now.module in
    let number = c.args.function in
    let f = function_at m.functions number in
    let known = c.states_are_true.ensures in
    let checked = c.code_of-code.ensures.accepted in
    let at = c.loop.at in
    let rows = c.loop.rows in
    let hand = c.loop.hand in
    let later = c.call.new.hand in
    let to = c.in-Call.to in
    let callee = c.in-Call.callee in
    let arguments = c.in-Call.arguments in
    let otherwise = c.in-Call.otherwise in
    let found = ap (λ (code : List Instr). slice_get code at) (sym c.code_of-code.ensures.value)
    ∙ (c.instruction_at-instr.ensures ∙ ap Some c.in-Call.is) in
    let entry = passed_variables rows arguments in
    let is_entry = c.passed-inner.ensures ∙ ap (passed_variables rows) c.as_slice.ensures.value in
    let is_rows =
    c.keep.ensures ∙ ap (λ (xs : List Argument). kept_rows rows xs to) c.as_slice-in-Call.ensures.value in
    let ends =
    same_ends m.functions c.callee_at-number.result callee c.passed-inner.result entry Failed hand later
    c.callee_at-number.ensures.value is_entry
    c.in-Failed.ensures.ends in
    let asked = c.in-Failed.ensures.asked in
    let more =
    runs_know m.functions callee entry (c.loop.left - 1) c.call.new.left asked.calls hand.view later.view Failed
    (same_runs m.functions c.callee_at-number.result callee c.passed-inner.result entry
    (c.loop.left - 1) c.call.new.left Failed
    asked.calls hand.view later.view c.callee_at-number.ensures.value is_entry asked.made) in
    let base = c.requires.may.base in
    let goes = c.loop.invariant.1 base c.requires.may.begins in
    let low = point_low f checked base at rows hand goes in
    let named =
    all_named m _ known.fits known.acceptable known.truth number c.requires.function checked at rows hand to callee
    arguments otherwise found base goes in (
      c.in-Failed.ensures.of,
      λ base begins.
          subst (λ (k : ℕ). GoesTo base f k c.keep.new.rows later) (sym c.from-at.ensures)
          (subst (λ (rs : List (Option ℕ)). GoesTo base f otherwise rs later) (sym is_rows)
          (goes_on_failed m _ known.fits known.acceptable known.truth number c.requires.function checked at rows hand
          to callee arguments otherwise found base (c.loop.invariant.1 base begins) begins.root begins.room later ends
          more)),
      asked_then (λ cs ds come runs.
          subst (λ (k : ℕ). Comes m.functions number c.args.entry.now c.args.left.now c.call.new.left (cs ++ ds)
          c.args.hand.now.view k c.loop.turns c.keep.new.rows later.view) (sym c.from-at.ensures)
          (subst (λ (rs : List (Option ℕ)). Comes m.functions number c.args.entry.now c.args.left.now c.call.new.left
          (cs ++ ds) c.args.hand.now.view otherwise c.loop.turns rs later.view) (sym is_rows)
          (traces.goes_on_failed m.functions number c.args.entry.now c.args.left.now c.loop.left cs
          c.args.hand.now.view at c.loop.turns rows hand.view come to callee arguments otherwise found low
          (some_left c.loop.left c.if-left-eq0.false) named c.call.new.left ds later.view
          (same_runs m.functions c.callee_at-number.result callee c.passed-inner.result entry
          (c.loop.left - 1) c.call.new.left
          Failed ds hand.view later.view c.callee_at-number.ensures.value is_entry runs))))
          c.loop.invariant.2 asked,
    )

-- ---- a callee that has stopped: Answers/Stopped.antt

pub give_up_owned-requires : goal.give_up_owned-requires
give_up_owned-requires = stopped.give_up_owned-requires

pub returns-in-Stopped-clause-ends : goal.returns-in-Stopped-clause-ends
returns-in-Stopped-clause-ends = stopped.returns-in-Stopped-clause-ends

pub returns-in-Stopped-clause-asked : goal.returns-in-Stopped-clause-asked
returns-in-Stopped-clause-asked = stopped.returns-in-Stopped-clause-asked
