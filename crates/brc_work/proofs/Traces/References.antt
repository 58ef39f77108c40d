-- `none`, `take`, `newref`, `move` and `drop`; and calls of functions, with the instructions that end one.
use Rattle.std.proofs.Common.{◌≡◌, ℕ, suc, ◌+◌, Bool, true, cond, List, [], ◌∷◌, length, Option, None, Some, refl, sym, ap, ◌∙◌, subst}
use Rattle.std.specs.Prelude.{is_some, slice_set}
use Rattle.std.specs.List.{list_all}
use Rattle.brc_host.specs.HostCalls.{HostCall}
use Rattle.brc_lang.specs.declared.module.Instr.{Instr}
use Rattle.brc_lang.specs.declared.module.Instr.TheVariants as instructions
use Rattle.brc_lang.specs.declared.parameter.Argument.{Argument}
use Rattle.brc_model.specs.Actions.{Stuck, Silent, Does, always, with_row, by_variable, depth_of, argument_rows, passed_variables, handed_rows, callee_context, waiting_context, ret_action}
use Rattle.brc_model.specs.Layout.{none_row, first_immortal_list}
use Rattle.brc_model.specs.Moves.{gain, pass_on}
use Rattle.brc_model.specs.Threads.{row_of}
use Rattle.brc_model.specs.declared.actor.Context.{Context}
use Rattle.brc_model.specs.declared.actor.OpenCall.{OpenCall}
use Rattle.brc_model.specs.declared.actor.Place.{Place}
use Rattle.brc_model.specs.declared.actor.Place.TheVariants.{Idle, InCall}
use Rattle.brc_model.specs.declared.duty.Duty.TheVariants.{RetainLoad}
use Rattle.brc_model.specs.declared.duty.Holding.TheVariants.{ByVariable}
use Rattle.brc_model.specs.declared.state.Exit.{Exit}
use Rattle.brc_model.specs.declared.state.Exit.TheVariants.{Success}
use Rattle.brc_table.specs.declared.view.View.{View}
use Rattle.brc_heap.specs.Calls.{retained}
use Rattle.brc_work.specs.Traces.{Program, MakesTrace}
use Rattle.brc_work.specs.Performs.{IsBefore, Performs, PerformsAt, MakesRelease, GivesUp}
use Rattle.brc_work.proofs.Traces.Places.{begins, begins_with, begins_one}
use Rattle.brc_work.proofs.Traces.Starting.{goes_silently, retains}

-- An instruction that doesn't count how often it has gone back.
pub at_point : {cs : List HostCall} (at : ℕ) (i j : Instr) (exit : Exit) (turns : List ℕ) (rows after_rows : List
    (Option ℕ)) (v u : View)
    → i ≡ j → Performs cs j exit rows v after_rows u → PerformsAt cs at i exit turns rows v turns after_rows u
at_point {cs} at i j exit turns rows after_rows v u is performs =
    subst (λ (k : Instr). PerformsAt cs at k exit turns rows v turns after_rows u) (sym is)
    (λ program place left outer before.
    performs program place (record { left = left; turns = turns; outer = outer }) at before)

pub makes_none : (to : ℕ) (rows after_rows : List (Option ℕ)) (v : View)
    → after_rows ≡ slice_set rows to (Some none_row) → Performs [] (instructions.NoneObject to) Success rows v
    after_rows v
makes_none to rows after_rows v named = λ program place context at before.
    let moves = gain v.thread (by_variable context to) none_row in
    begins_one before (goes_silently program place v (InCall context (at + 1) after_rows) moves
    (begins (instructions.NoneObject to) program place context at rows before v.layout v.thread v.actor.used
    ∙ ap (λ (rs : List (Option ℕ)). Silent moves (InCall context (at + 1) rs)) (sym named)))

pub makes_take : (to list : ℕ) (rows after_rows : List (Option ℕ)) (v : View)
    → after_rows ≡ slice_set rows to (Some (first_immortal_list v.layout + list))
    → Performs [] (instructions.Take to list) Success rows v after_rows v
makes_take to list rows after_rows v named = λ program place context at before.
    let moves = gain v.thread (by_variable context to) (first_immortal_list v.layout + list) in
    begins_one before (goes_silently program place v (InCall context (at + 1) after_rows) moves
    (begins (instructions.Take to list) program place context at rows before v.layout v.thread v.actor.used
    ∙ ap (λ (rs : List (Option ℕ)). Silent moves (InCall context (at + 1) rs)) (sym named)))

pub makes_newref : (to from row word found : ℕ) (rows after_rows : List (Option ℕ)) (v u : View) → v.actor.agenda ≡ []
    → row_of rows from ≡ Some row → after_rows ≡ slice_set rows to (Some row) → u ≡ retained v row word found
    → Performs [] (instructions.Newref to from) Success rows v after_rows u
makes_newref to from row word found rows after_rows v u none names named is = λ program place context at before.
    let next = λ (rs : List (Option ℕ)). always (InCall context (at + 1) rs) in
    let starts =
    begins_with (instructions.Newref to from) program place context at rows before v.layout v.thread v.actor.used from
    row
    (λ x. Does (RetainLoad x (by_variable context to)) [] (next (slice_set rows to (Some x)))) refl names in
    subst (MakesTrace 1 [] program place v (InCall context (at + 1) after_rows)) (sym is)
    (begins_one before (retains program place (next after_rows) v none row word found (by_variable context to)
    (starts ∙ ap (λ (rs : List (Option ℕ)). Does (RetainLoad row (by_variable context to)) [] (next rs)) (sym named))))

pub makes_move : (to from row : ℕ) (rows after_rows : List (Option ℕ)) (v : View) → row_of rows from ≡ Some row
    → after_rows ≡ slice_set (slice_set rows from None) to (Some row)
    → Performs [] (instructions.Move to from) Success rows v after_rows v
makes_move to from row rows after_rows v names named = λ program place context at before.
    let moves = λ (x : ℕ). pass_on v.thread (by_variable context from) (by_variable context to) x in
    begins_one before (goes_silently program place v (InCall context (at + 1) after_rows) (moves row)
    (begins_with (instructions.Move to from) program place context at rows before v.layout v.thread v.actor.used from
    row
    (λ x. Silent (moves x) (InCall context (at + 1) (slice_set (slice_set rows from None) to (Some x)))) refl names
    ∙ ap (λ (rs : List (Option ℕ)). Silent (moves row) (InCall context (at + 1) rs)) (sym named)))

pub makes_drop : {cs : List HostCall} (from : ℕ) (rows after_rows : List (Option ℕ)) (v u : View)
    → GivesUp cs from rows v after_rows u → Performs cs (instructions.Drop from) Success rows v after_rows u
makes_drop {cs} from rows after_rows v u gives = λ program place context at before.
    subst (λ (rs : List (Option ℕ)). MakesTrace 1 cs program place v (InCall context (at + 1) rs) u) (sym gives.emptied)
    (begins_one before (gives.makes program place (InCall context (at + 1) (slice_set rows from None))
    (by_variable context from) (begins (instructions.Drop from) program place context at rows before)))

-- An outermost call ends with the reference that the function returns, which its caller gives up,
pub makes_ret : {cs : List HostCall} (from row : ℕ) (rows : List (Option ℕ)) (v u : View)
    → row_of rows from ≡ Some row → MakesRelease cs row v u
    → (program : Program) (place : Place) (left : ℕ) (turns : List ℕ) (at : ℕ)
    → IsBefore (instructions.Ret from) program place (record { left = left; turns = turns; outer = [] }) at rows
    → MakesTrace 1 cs program place v (Idle left) u
makes_ret from row rows v u names releases program place left turns at before =
    let context : Context = record { left = left; turns = turns; outer = [] } in
    begins_one before
    (releases.first program place (Idle left) (ByVariable 0 from) (λ layout t used.
    begins (instructions.Ret from) program place context at rows before layout t used
    ∙ ap (λ (o : Option ℕ). with_row o (λ x. ret_action t left from x [])) names))

-- or without one.
pub makes_fail : (rows : List (Option ℕ)) (v : View) (program : Program) (place : Place) (left : ℕ) (turns : List ℕ)
    (at : ℕ) → IsBefore instructions.Fail program place (record { left = left; turns = turns; outer = [] }) at rows
    → MakesTrace 1 [] program place v (Idle left) v
makes_fail rows v program place left turns at before =
    let context : Context = record { left = left; turns = turns; outer = [] } in
    begins_one before (goes_silently program place v (Idle left) []
    (begins instructions.Fail program place context at rows before v.layout v.thread v.actor.used))

-- ---- calls of functions

-- the context of an open call in which its function goes on
abbrev pub with_turns : Context → List ℕ → Context
with_turns context turns = record { left = context.left; turns = turns; outer = context.outer }

-- A call begins with the arguments that it lends and hands over,
pub makes_call : (to callee : ℕ) (arguments : List Argument) (otherwise : ℕ) (rows : List (Option ℕ)) (v : View)
    → list_all is_some (argument_rows rows arguments) ≡ true
    → (program : Program) (place : Place) (context : Context) (at : ℕ)
    → IsBefore (instructions.Call to callee arguments otherwise) program place context at rows
    → MakesTrace 1 [] program place v
    (InCall (callee_context context at rows to callee arguments otherwise) 0 (passed_variables rows arguments)) v
makes_call to callee arguments otherwise rows v named program place context at before =
    let moves = handed_rows v.thread (depth_of context) rows 1 arguments in
    let next =
    InCall (callee_context context at rows to callee arguments otherwise) 0 (passed_variables rows arguments) in
    begins_one before (goes_silently program place v next moves
    (begins (instructions.Call to callee arguments otherwise) program place context at rows before v.layout v.thread
    v.actor.used
    ∙ ap (λ (b : Bool). cond b (Silent moves next) Stuck) named))

-- and ends with the reference that it returns,
pub returns_on : (from row : ℕ) (rows : List (Option ℕ)) (v : View) → row_of rows from ≡ Some row
    → (program : Program) (place : Place) (left : ℕ) (turns : List ℕ) (o : OpenCall) (outer : List OpenCall) (at : ℕ)
    → IsBefore (instructions.Ret from) program place (record { left = left; turns = turns; outer = o ∷ outer }) at rows
    → MakesTrace 1 [] program place v
    (InCall (waiting_context left o outer) (o.at + 1) (slice_set o.variables o.to (Some row))) v
returns_on from row rows v names program place left turns o outer at before =
    let context : Context = record { left = left; turns = turns; outer = o ∷ outer } in
    let moves = pass_on v.thread (ByVariable (suc (length outer)) from) (ByVariable (length outer) o.to) row in
    begins_one before (goes_silently program place v
    (InCall (waiting_context left o outer) (o.at + 1) (slice_set o.variables o.to (Some row))) moves
    (begins (instructions.Ret from) program place context at rows before v.layout v.thread v.actor.used
    ∙ ap (λ (p : Option ℕ). with_row p (λ x. ret_action v.thread left from x (o ∷ outer))) names))

-- or without one.
pub fails_on : (rows : List (Option ℕ)) (v : View) (program : Program) (place : Place) (left : ℕ) (turns : List ℕ)
    (o : OpenCall) (outer : List OpenCall) (at : ℕ)
    → IsBefore instructions.Fail program place (record { left = left; turns = turns; outer = o ∷ outer }) at rows
    → MakesTrace 1 [] program place v (InCall (waiting_context left o outer) o.otherwise o.variables) v
fails_on rows v program place left turns o outer at before =
    let context : Context = record { left = left; turns = turns; outer = o ∷ outer } in
    begins_one before (goes_silently program place v (InCall (waiting_context left o outer) o.otherwise o.variables) []
    (begins instructions.Fail program place context at rows before v.layout v.thread v.actor.used))
