-- How many instructions a thread can still begin: a number that each beginning lowers and that no step raises. It
-- counts the calls still to make, and in each call that is open the turns that instructions `again` have left and the
-- points from the call's own to the end of its code, each with room for a call.
use Rattle.std.proofs.Common.{◌≡◌, ◌≢◌, ℕ, zero, suc, ◌+◌, ◌-◌, ◌*◌, ◌<◌, ◌≤◌, List, [], ◌∷◌, length, Option, Some, refl, ap, subst, arith, get_or-set_other, None}
use Rattle.std.specs.Prelude.{slice_get, sum_by, replicate}
use Rattle.std.specs.List.{slice_index_or}
use Rattle.std.proofs.lemmas.Option.{slice_get_within}
use Rattle.std.proofs.lemmas.List.{length-replicate}
use Rattle.std.proofs.lemmas.List.Sums.{sum_by-cons}
use Rattle.std.proofs.lemmas.Nat.{mul-le}
use Rattle.brc_lang.specs.declared.module.Instr.{Instr}
use Rattle.brc_lang.specs.declared.module.Instr.TheVariants.{Call}
use Rattle.brc_model.specs.declared.actor.Context.{Context}
use Rattle.brc_model.specs.declared.actor.Place.{Place}
use Rattle.brc_model.specs.declared.actor.Place.TheVariants.{Idle, InCall, Inside, Stopping, Exiting}
use Rattle.brc_model.specs.declared.layout.Layout.{Layout}
use Rattle.brc_model.specs.References.{one_if}
use Rattle.brc_model.specs.Threads.{entry_variables, function_at, function_in, number_under, number_in}
use Rattle.brc_model.specs.Actions.{first_context, turns_at, with_turn, stopping}
use Rattle.brc_model.specs.Dispatch.{dispatch, is_before_instruction}
use Rattle.brc_model.specs.Bounded.{times_of, own_limit, greatest_called, limits_of, call_limit}
use Rattle.brc_model.proofs.Basics.Lists.{some_is, none_some}
use Rattle.brc_model.proofs.Promises.Leading.{LeadsTo, HoldsAtEnd, HoldsAfter, HoldsBeyond, dispatch_leads}
use Rattle.brc_model.proofs.Promises.Turns.{CountsTurns, FitsCode, AreMade}
use Rattle.brc_model.proofs.Promises.Elsewhere.{one_turn_more}
use Rattle.brc_model.proofs.Promises.CallLimits.{LimitsFit, called_within}
use Rattle.brc_model.proofs.Dispatch.Decided.{stopping_decides}
use Rattle.brc_model.specs.declared.actor.OpenCall.{OpenCall}
use Rattle.brc_lang.specs.declared.module.Function.{Function}

-- ---- turns

-- how often the instructions `again` of the code, which begins at the point, can still go back
abbrev pub turns_left : List ℕ → ℕ → List Instr → ℕ
turns_left turns at [] = 0
turns_left turns at (i ∷ code) = (times_of i - slice_index_or turns at 0) + turns_left turns (at + 1) code

turns_bounded : (turns : List ℕ) (at : ℕ) (code : List Instr) → turns_left turns at code ≤ sum_by times_of code
turns_bounded turns at [] = omega arith
turns_bounded turns at (i ∷ code) =
    omega (arith, turns_bounded turns (at + 1) code, sum_by-cons times_of i code)

turns_elsewhere : (context : Context) (at other : ℕ) → other ≢ at
    → turns_at (with_turn context at) other ≡ turns_at context other
turns_elsewhere context at other apart =
    get_or-set_other context.turns at other (turns_at context at + 1) 0 apart

-- The points after the one that goes back have the turns that they had.
turns_behind : (context : Context) (at from : ℕ) (code : List Instr) → at < from
    → turns_left (with_turn context at).turns from code ≡ turns_left context.turns from code
turns_behind context at from [] behind = refl
turns_behind context at from (i ∷ code) behind =
    let here : turns_at (with_turn context at) from ≡ turns_at context from =
    turns_elsewhere context at from (λ e. omega (arith, e, behind)) in
    let rest : turns_left (with_turn context at).turns (from + 1) code ≡ turns_left context.turns (from + 1) code =
    turns_behind context at (from + 1) code (omega arith) in
    omega (arith, here, rest)

-- An instruction that goes back has one turn less.
turn_taken : (context : Context) (at from n : ℕ) (code : List Instr) (i : Instr) → at ≡ from + n
    → slice_get code n ≡ Some i → at < length context.turns → turns_at context at < times_of i
    → turns_left (with_turn context at).turns from code < turns_left context.turns from code
turn_taken context at from n [] i spot is low less = absurd (none_some i is)
turn_taken context at from zero (j ∷ code) i spot is low less =
    let same : times_of j ≡ times_of i = ap times_of (some_is j i is) in
    let here : at ≡ from = omega arith in
    let more : turns_at (with_turn context at) from ≡ turns_at context from + 1 =
    subst (λ (k : ℕ). turns_at (with_turn context at) k ≡ turns_at context k + 1) here (one_turn_more context at low) in
    let fewer : turns_at context from < times_of i = subst (λ (k : ℕ). turns_at context k < times_of i) here less in
    let rest : turns_left (with_turn context at).turns (from + 1) code ≡ turns_left context.turns (from + 1) code =
    turns_behind context at (from + 1) code (omega arith) in
    omega (arith, same, more, fewer, rest)
turn_taken context at from (suc n) (j ∷ code) i spot is low less =
    let here : turns_at (with_turn context at) from ≡ turns_at context from =
    turns_elsewhere context at from (λ e. omega (arith, e, spot)) in
    let rest : turns_left (with_turn context at).turns (from + 1) code < turns_left context.turns (from + 1) code =
    turn_taken context at (from + 1) n code i (omega arith) is low less in
    omega (arith, here, rest)

-- ---- one call

-- the instructions that a thread can begin in a call from the point on, but for those of the calls that it makes
abbrev pub call_left : List Instr → List ℕ → ℕ → ℕ
call_left code turns at = turns_left turns 0 code * length code + (length code - at)

-- At first it can begin no more than its own limit.
pub call_bounded : (code : List Instr) (turns : List ℕ) (at : ℕ) → call_left code turns at ≤ own_limit code
call_bounded code turns at =
    let again : turns_left turns 0 code * length code ≤ sum_by times_of code * length code =
    mul-le (turns_left turns 0 code) (length code) (sum_by times_of code) (length code)
    (turns_bounded turns 0 code) (omega arith) in
    omega (arith, again)

-- Further on in the code a thread can begin less.
point_later : (code : List Instr) (turns : List ℕ) (at next : ℕ) → at ≤ next
    → call_left code turns next ≤ call_left code turns at
point_later code turns at next later = omega arith

point_passed : (code : List Instr) (turns : List ℕ) (at next : ℕ) → at < length code → at < next
    → call_left code turns next < call_left code turns at
point_passed code turns at next low later = omega arith

-- So it can after a turn, wherever that leads.
point_turned : (code : List Instr) (context : Context) (at to : ℕ) (i : Instr) → at < length code
    → slice_get code at ≡ Some i → at < length context.turns → turns_at context at < times_of i
    → call_left code (with_turn context at).turns to < call_left code context.turns at
point_turned code context at to i low is counted less =
    let fewer : turns_left (with_turn context at).turns 0 code < turns_left context.turns 0 code =
    turn_taken context at 0 at code i (omega arith) is counted less in
    let turns : suc (turns_left (with_turn context at).turns 0 code) * length code
    ≤ turns_left context.turns 0 code * length code =
    mul-le (suc (turns_left (with_turn context at).turns 0 code)) (length code) (turns_left context.turns 0 code)
    (length code) (omega (arith, fewer)) (omega arith) in
    omega (arith, turns, low)

-- ---- with the calls that it makes

-- How many instructions a call begins that begins this many of its function's own: each may be a call, which begins at
-- most as many as the greatest limit of what the function calls.
abbrev pub weigh : List Function → ℕ → ℕ → ℕ
weigh functions number own =
    own * (1 + greatest_called (limits_of functions) (function_at functions number).code)

-- More of its own instructions begin no fewer in all.
weigh_mono : (functions : List Function) (number one other : ℕ) → one ≤ other
    → weigh functions number one ≤ weigh functions number other
weigh_mono functions number one other le =
    let more = 1 + greatest_called (limits_of functions) (function_at functions number).code in
    mul-le one more other more le (omega arith)

-- Each instruction leaves room for itself and for a call.
weigh_less : (functions : List Function) (number one other : ℕ) → one < other
    → 1 + greatest_called (limits_of functions) (function_at functions number).code + weigh functions number one
    ≤ weigh functions number other
weigh_less functions number one other lt =
    let le = weigh_mono functions number (suc one) other (omega (arith, lt)) in omega (arith, le)

-- what the calls that are open can begin once they go on
abbrev pub outer_left : List Function → ℕ → List OpenCall → ℕ
outer_left functions first [] = 0
outer_left functions first (o ∷ outer) =
    weigh functions (number_under first outer)
    (call_left (function_at functions (number_under first outer)).code o.turns (o.at + 1))
    + outer_left functions first outer

-- what the innermost call can begin from the point on, and the calls around it
abbrev pub context_left : List Function → ℕ → Context → ℕ → ℕ
context_left functions first context at =
    weigh functions (number_under first context.outer)
    (call_left (function_at functions (number_under first context.outer)).code context.turns at)
    + outer_left functions first context.outer

-- the instructions that a thread at the place can still begin in all its calls
abbrev pub instructions_left : List Function → ℕ → Place → ℕ
instructions_left functions first (Idle left) = left * call_limit functions first
instructions_left functions first (InCall context at variables) =
    context.left * call_limit functions first + context_left functions first context at
instructions_left functions first (Inside context at variables stage) =
    context.left * call_limit functions first + context_left functions first context (at + 1)
instructions_left functions first (Stopping lock calls) = 0
instructions_left functions first Exiting = 0

-- A call begins no more than its function's limit.
one_within : (functions : List Function) (number own : ℕ) → LimitsFit functions
    → own ≤ own_limit (function_at functions number).code → weigh functions number own ≤ call_limit functions number
one_within functions number own limits le =
    let more = weigh_mono functions number own (own_limit (function_at functions number).code) le in
    omega (arith, more, limits.enough number)

-- So do all calls of a thread that are open, together.
outer_within : (functions : List Function) (first own : ℕ) (outer : List OpenCall) → LimitsFit functions
    → AreMade functions first outer
    → own ≤ own_limit (function_at functions (number_under first outer)).code
    → weigh functions (number_under first outer) own + outer_left functions first outer ≤ call_limit functions first
outer_within functions first own [] limits made le =
    let one = one_within functions first own limits le in omega (arith, one)
outer_within functions first own (o ∷ outer) limits made le =
    let number = number_under first outer in
    let code = (function_at functions number).code in
    let call = Call o.to o.callee made.0.arguments o.otherwise in
    let low = slice_get_within code o.at call made.0.found in
    let one = one_within functions o.callee own limits le in
    let called = called_within (limits_of functions) code o.at o.to o.callee made.0.arguments o.otherwise
    made.0.found in
    let less = weigh_less functions number (call_left code o.turns (o.at + 1)) (call_left code o.turns o.at)
    (point_passed code o.turns o.at (o.at + 1) low (omega arith)) in
    let rest = outer_within functions first (call_left code o.turns o.at) outer limits made.1
    (call_bounded code o.turns o.at) in
    omega (arith, one, called, less, rest)

-- So the innermost call and those around it begin no more than the limit of the outermost one's function.
pub context_within : (functions : List Function) (first : ℕ) (context : Context) (at : ℕ) → LimitsFit functions
    → AreMade functions first context.outer → context_left functions first context at ≤ call_limit functions first
context_within functions first context at limits made =
    let code = (function_at functions (number_under first context.outer)).code in
    outer_within functions first (call_left code context.turns at) context.outer limits made
    (call_bounded code context.turns at)

-- ---- where each dispatch leads

-- What the functions of a module are, for the count of what a thread begins.
pub record AreBounded (functions : List Function) : Type 0 where
  pub fits : (number : ℕ) → FitsCode (function_at functions number).code
  pub limits : LimitsFit functions

-- The thread can begin no more at the next place than at the place, and less if the place is before an instruction.
abbrev pub Lowers : List Function → ℕ → Place → Place → Type 0
Lowers functions first place next =
    one_if (is_before_instruction place) + instructions_left functions first next
    ≤ instructions_left functions first place

-- The end of a call leads to where the thread can begin what the calls around it can.
lowers_at_end : (functions : List Function) (first left most : ℕ) (outer : List OpenCall) → AreBounded functions
    → AreMade functions first outer → 1 + left * call_limit functions first + outer_left functions first outer ≤ most
    → HoldsAtEnd (λ next. 1 + instructions_left functions first next ≤ most) left outer
lowers_at_end functions first left most [] are made bound = omega (arith, bound)
lowers_at_end functions first left most (o ∷ outer) are made bound =
    let number = number_under first outer in
    let code = (function_at functions number).code in
    let ahead = ((are.fits number).forward o.at (Call o.to o.callee made.0.arguments o.otherwise) o.otherwise
    made.0.found refl).0 in
    let later = weigh_mono functions number (call_left code o.turns o.otherwise) (call_left code o.turns (o.at + 1))
    (point_later code o.turns (o.at + 1) o.otherwise (omega (arith, ahead))) in
    (λ row. omega (arith, bound), omega (arith, bound, later))

-- An instruction at the point leads to where the thread can begin less than it could.
lowers_after : (functions : List Function) (first : ℕ) (context : Context) (at : ℕ) (variables : List (Option ℕ))
    (most : ℕ) → AreBounded functions → AreMade functions first context.outer
    → at < length (function_at functions (number_under first context.outer)).code → at < length context.turns
    → context.left * call_limit functions first + context_left functions first context at ≤ most
    → HoldsAfter (λ next. 1 + instructions_left functions first next ≤ most)
    (function_at functions (number_under first context.outer)).code context at variables
lowers_after functions first context at variables most are made low counted bound =
    let number = number_under first context.outer in
    let code = (function_at functions number).code in
    let turns = context.turns in
    let passed : (next : ℕ) → at < next
    → 1 + greatest_called (limits_of functions) code + weigh functions number (call_left code turns next)
    ≤ weigh functions number (call_left code turns at) = λ next ahead.
    weigh_less functions number (call_left code turns next) (call_left code turns at)
    (point_passed code turns at next low ahead) in
    let on = passed (at + 1) (omega arith) in
    record {
      on = λ next later ahead. let less = passed next ahead in omega (arith, bound, less);
      back = λ to i is less.
          let fewer = weigh_less functions number (call_left code (with_turn context at).turns to)
          (call_left code turns at) (point_turned code context at to i low is counted less) in
          omega (arith, bound, fewer);
      into = λ stage. omega (arith, bound, on);
      calls = λ to callee arguments otherwise is.
          let entered = one_within functions callee
          (call_left (function_at functions callee).code (replicate 256 0) 0) are.limits
          (call_bounded (function_at functions callee).code (replicate 256 0) 0) in
          let called = called_within (limits_of functions) code at to callee arguments otherwise is in
          omega (arith, bound, on, entered, called);
      ends = lowers_at_end functions first context.left most context.outer are made (omega (arith, bound, on));
    }

-- A stopped thread begins nothing.
stopped_lowers : (functions : List Function) (first : ℕ) (lock : Option ℕ) (calls left : List (List (Option ℕ)))
    → Lowers functions first (Stopping lock calls) (stopping None left)
stopped_lowers functions first lock calls left =
    stopping_decides (Lowers functions first (Stopping lock calls)) None left (omega arith) (omega arith)

lowers_beyond : (functions : List Function) (first : ℕ) (place : Place) → AreBounded functions
    → CountsTurns functions first place
    → HoldsBeyond (Lowers functions first place) (function_in functions first place).code place
lowers_beyond functions first Exiting are all = tt
lowers_beyond functions first (Idle zero) are all = omega arith
lowers_beyond functions first (Idle (suc left)) are all = λ low.
    let within = context_within functions first (first_context left) 0 are.limits tt in
    lowers_after functions first (first_context left) 0 entry_variables (suc left * call_limit functions first) are tt
    low
    (omega (arith, length-replicate {A = ℕ} 256 0)) (omega (arith, within))
lowers_beyond functions first (InCall context at variables) are all = λ low.
    let few = (are.fits (number_under first context.outer)).few in
    lowers_after functions first context at variables
    (instructions_left functions first (InCall context at variables)) are all.1 low
    (omega (arith, low, all.0, few)) (omega arith)
lowers_beyond functions first (Inside context at variables stage) are all =
    let number = number_under first context.outer in
    let code = (function_at functions number).code in
    record {
      on = λ next later ahead.
          let less = weigh_mono functions number (call_left code context.turns next)
          (call_left code context.turns (at + 1))
          (point_later code context.turns (at + 1) next (omega (arith, ahead))) in
          omega (arith, less);
      into = λ further apart. omega arith;
    }
lowers_beyond functions first (Stopping (Some row) calls) are all =
    stopped_lowers functions first (Some row) calls calls
lowers_beyond functions first (Stopping None calls) are all = λ fewer less.
    stopped_lowers functions first None calls fewer

pub dispatch_lowers : (functions : List Function) (first : ℕ) (layout : Layout) (t used : ℕ) (place : Place)
    → AreBounded functions → CountsTurns functions first place
    → LeadsTo (Lowers functions first place) place
    (dispatch layout t used (function_in functions first place).code place)
dispatch_lowers functions first layout t used place are all =
    let code = (function_in functions first place).code in
    dispatch_leads (Lowers functions first place) layout t used code place
    (are.fits (number_in first place)).forward (lowers_beyond functions first place are all)
