-- Where each dispatch leads: to another place than the thread's, unless it waits for a lock.
use Rattle.std.proofs.Common.{◌≡◌, ◌≢◌, ℕ, zero, suc, ◌+◌, ◌<◌, List, [], ◌∷◌, length, Option, refl, ap, arith, get_or-set_same, None, Some}
use Rattle.std.specs.Prelude.{slice_set}
use Rattle.brc_word.specs.Words.{free_word}
use Rattle.brc_model.specs.declared.duty.Duty.{Duty}
use Rattle.brc_model.specs.declared.duty.Duty.TheVariants.{LockGate}
use Rattle.brc_model.specs.declared.actor.Place.{Place}
use Rattle.brc_model.specs.declared.actor.Context.{Context}
use Rattle.brc_model.specs.declared.actor.Place.TheVariants.{Idle, InCall, Inside, Stopping, Exiting}
use Rattle.brc_model.specs.declared.actor.Stage.{Stage}
use Rattle.brc_model.specs.declared.layout.Layout.{Layout}
use Rattle.brc_model.specs.Actions.{Action, turns_at, with_turn, waiting_context, callee_context, passed_variables}
use Rattle.brc_model.specs.Dispatch.{dispatch}
use Rattle.brc_model.proofs.Promises.Leading.{Leads, LeadsTo, HoldsAtEnd, HoldsBeyond, dispatch_leads, count_named}
use Rattle.brc_model.proofs.Promises.Turns.{CountsTurns, FitsCode}
use Rattle.brc_model.proofs.Dispatch.Decided.{stopping_decides}
use Rattle.brc_model.specs.Threads.{function_in}
use Rattle.brc_model.specs.declared.actor.OpenCall.{OpenCall}
use Rattle.brc_lang.specs.declared.module.Function.{Function}

-- The action leads the thread to another place, unless it waits for a lock.
abbrev pub IsElsewhere : Place → Action → Type 0
IsElsewhere place x = LeadsTo (λ next. next ≢ place) place x

-- What a duty finds where it can go on: a lock's gate is free.
abbrev pub FindsFree : Duty → ℕ → Type 0
FindsFree (LockGate x) found = found ≡ free_word
FindsFree d found = Unit {0}

-- Where a duty can go on, it leads to a place that has the property.
pub leads_free : (P : Place → Type 0) (place : Place) (d : Duty) (found : ℕ) (next : Place) → FindsFree d found
    → Leads P place d found next → P next
leads_free P place (LockGate x) found next free leads = leads.0 free
leads_free P place d found next free leads = leads

-- The point at which a thread goes back counts one turn more.
pub one_turn_more : (context : Context) (at : ℕ) → at < length context.turns
    → turns_at (with_turn context at) at ≡ turns_at context at + 1
one_turn_more context at low = get_or-set_same context.turns at (turns_at context at + 1) 0 low

one_call_less : (left : ℕ) → Idle left ≢ Idle (suc left)
one_call_less left e = (let same : left ≡ suc left = cc in omega (arith, same))

one_point_on : (context : Context) (at next : ℕ) (variables later : List (Option ℕ)) → at < next
    → InCall context next later ≢ InCall context at variables
one_point_on context at next variables later on e = (let same : next ≡ at = cc in omega (arith, same, on))

turned_apart : (context : Context) (at to : ℕ) (variables : List (Option ℕ)) → at < length context.turns
    → InCall (with_turn context at) to variables ≢ InCall context at variables
turned_apart context at to variables low e =
    let same : with_turn context at ≡ context = cc in
    let turns : turns_at (with_turn context at) at ≡ turns_at context at = ap (λ (c : Context). turns_at c at) same in
    omega (arith, turns, one_turn_more context at low)

other_stage : (context : Context) (at : ℕ) (variables : List (Option ℕ)) (stage further : Stage) → further ≢ stage
    → Inside context at variables further ≢ Inside context at variables stage
other_stage context at variables stage further apart e = (let same : further ≡ stage = cc in apart same)

fewer_calls : (fewer calls : List (List (Option ℕ))) → count_named fewer < count_named calls
    → Stopping None fewer ≢ Stopping None calls
fewer_calls fewer calls less e =
    (let same : fewer ≡ calls = cc in let one = ap count_named same in omega (arith, less, one))

-- A call that is open around more calls is another one.
deeper_apart : (one other : Context) (at next : ℕ) (variables later : List (Option ℕ))
    → length one.outer ≢ length other.outer → InCall one at variables ≢ InCall other next later
deeper_apart one other at next variables later apart e =
    (let same : one ≡ other = cc in apart (ap (λ (c : Context). length c.outer) same))

elsewhere_at_end : (context : Context) (at left : ℕ) (variables : List (Option ℕ)) (outer : List OpenCall)
    → length context.outer ≡ length outer → HoldsAtEnd (λ next. next ≢ InCall context at variables) left outer
elsewhere_at_end context at left variables [] deep = λ e. cc
elsewhere_at_end context at left variables (o ∷ outer) deep = (
  λ row. deeper_apart (waiting_context left o outer) context (o.at + 1) at (slice_set o.variables o.to (Some row))
      variables (λ e. omega (arith, e, deep)),
  deeper_apart (waiting_context left o outer) context o.otherwise at o.variables variables
      (λ e. omega (arith, e, deep)),
)

elsewhere_beyond : (functions : List Function) (first : ℕ) (place : Place)
    → FitsCode (function_in functions first place).code → CountsTurns functions first place
    → HoldsBeyond (λ next. next ≢ place) (function_in functions first place).code place
elsewhere_beyond functions first Exiting fits all = tt
elsewhere_beyond functions first (Idle zero) fits all = λ e. cc
elsewhere_beyond functions first (Idle (suc left)) fits all = λ low. record {
  on = λ next later ahead e. cc;
  back = λ to i is less e. cc;
  into = λ stage e. cc;
  calls = λ to callee arguments otherwise is e. cc;
  ends = one_call_less left;
}
elsewhere_beyond functions first (InCall context at variables) fits all = λ low. record {
  on = λ next later ahead. one_point_on context at next variables later ahead;
  back = λ to i is less.
      turned_apart context at to variables (omega (arith, low, fits.few, all.0));
  into = λ stage e. cc;
  calls = λ to callee arguments otherwise is.
      deeper_apart (callee_context context at variables to callee arguments otherwise) context 0 at
      (passed_variables variables arguments) variables (λ e. omega (arith, e));
  ends = elsewhere_at_end context at context.left variables context.outer refl;
}
elsewhere_beyond functions first (Inside context at variables stage) fits all = record {
  on = λ next later ahead e. cc;
  into = λ further apart. other_stage context at variables stage further apart;
}
elsewhere_beyond functions first (Stopping (Some row) calls) fits all =
    stopping_decides (λ next. next ≢ Stopping (Some row) calls) None calls (λ e. cc) (λ e. cc)
elsewhere_beyond functions first (Stopping None calls) fits all = λ fewer less.
    stopping_decides (λ next. next ≢ Stopping None calls) None fewer (fewer_calls fewer calls less) (λ e. cc)

pub dispatch_elsewhere : (functions : List Function) (first : ℕ) (layout : Layout) (t used : ℕ) (place : Place)
    → FitsCode (function_in functions first place).code → CountsTurns functions first place
    → IsElsewhere place (dispatch layout t used (function_in functions first place).code place)
dispatch_elsewhere functions first layout t used place fits all =
    let code = (function_in functions first place).code in
    dispatch_leads (λ next. next ≢ place) layout t used code place fits.forward
    (elsewhere_beyond functions first place fits all)
