-- The next action of a thread that isn't gone is never `Skip`: the thread takes a step, or is stuck.
use Rattle.std.proofs.Common.{ℕ, zero, suc, Bool, true, false, cond, List, [], ◌∷◌, Option, None, Some}
use Rattle.std.specs.Prelude.{is_some, slice_get}
use Rattle.std.specs.List.{list_all}
use Rattle.brc_lang.specs.declared.module.Instr.{Instr}
use Rattle.brc_lang.specs.declared.module.Instr.TheVariants.{Num, List as ListObject, NoneObject, Take, Newref, Move as MoveReference, Drop, Lock, Unlock, Borrow, Fetch, Set, Put, Open, Connect, Read, Write, Goto, Again, Ret, Fail, As, Call}
use Rattle.brc_lang.specs.declared.module.Function.{Function}
use Rattle.brc_model.specs.declared.actor.OpenCall.{OpenCall}
use Rattle.brc_model.specs.Threads.{function_in, row_of, entry_variables}
use Rattle.brc_model.specs.declared.duty.Duty.{Duty}
use Rattle.brc_model.specs.declared.actor.Context.{Context}
use Rattle.brc_model.specs.declared.actor.Place.{Place}
use Rattle.brc_model.specs.declared.actor.Place.TheVariants.{Idle, InCall, Inside, Stopping, Exiting}
use Rattle.brc_model.specs.declared.actor.Stage.{Stage}
use Rattle.brc_model.specs.declared.actor.Stage.TheVariants.{InRange, OutOfRange, Found, Retained, Loaded, Lent, Called, Granted}
use Rattle.brc_model.specs.declared.state.Exit.TheVariants.{Success, Fault}
use Rattle.brc_model.specs.Machine.{has_room}
use Rattle.brc_model.proofs.Dispatch.Decided.{give_up_decides}
use Rattle.brc_model.specs.declared.layout.Layout.{Layout}
use Rattle.brc_model.specs.Actions.{StepActor, Action, Skip, with_row, first_context, argument_rows, ret_action, fail_action, dispatch_instruction, dispatch_inside}
use Rattle.brc_model.specs.Dispatch.{dispatch, agenda_action}

-- the action isn't `Skip`
abbrev pub TakesStep : Action → Type 0
TakesStep Skip = ⊥
TakesStep _ = Unit {0}

row_steps : (o : Option ℕ) (work : ℕ → Action) → ((row : ℕ) → TakesStep (work row)) → TakesStep (with_row o work)
row_steps None work each = tt
row_steps (Some row) work each = each row

either_steps : (b : Bool) (one two : Action) → TakesStep one → TakesStep two → TakesStep (cond b one two)
either_steps true one two first second = first
either_steps false one two first second = second

ret_steps : (t left from row : ℕ) (outer : List OpenCall) → TakesStep (ret_action t left from row outer)
ret_steps t left from row [] = tt
ret_steps t left from row (o ∷ outer) = tt

fail_steps : (left : ℕ) (outer : List OpenCall) → TakesStep (fail_action left outer)
fail_steps left [] = tt
fail_steps left (o ∷ outer) = tt

instruction_steps : (layout : Layout) (t used : ℕ) (before : Place) (context : Context) (at : ℕ)
    (variables : List (Option ℕ))
    (i : Option Instr)
    → TakesStep (dispatch_instruction layout t used before context at variables i)
instruction_steps layout t used before context at variables None = tt
instruction_steps layout t used before context at variables (Some (Num to value otherwise)) =
    either_steps (has_room layout t used) _ _ tt tt
instruction_steps layout t used before context at variables (Some (ListObject to cells otherwise)) =
    either_steps (has_room layout t used) _ _ tt tt
instruction_steps layout t used before context at variables (Some (NoneObject to)) = tt
instruction_steps layout t used before context at variables (Some (Take to list)) = tt
instruction_steps layout t used before context at variables (Some (Newref to from)) =
    row_steps (row_of variables from) _ (λ row. tt)
instruction_steps layout t used before context at variables (Some (MoveReference to from)) =
    row_steps (row_of variables from) _ (λ row. tt)
instruction_steps layout t used before context at variables (Some (Drop from)) =
    row_steps (row_of variables from) _ (λ row. tt)
instruction_steps layout t used before context at variables (Some (Lock object)) =
    row_steps (row_of variables object) _ (λ row. tt)
instruction_steps layout t used before context at variables (Some (Unlock object)) =
    row_steps (row_of variables object) _ (λ row. tt)
instruction_steps layout t used before context at variables (Some (Borrow to list index otherwise)) =
    row_steps (row_of variables list) _ (λ row. tt)
instruction_steps layout t used before context at variables (Some (Fetch to list index otherwise)) =
    row_steps (row_of variables list) _ (λ row. tt)
instruction_steps layout t used before context at variables (Some (Set list index from otherwise)) =
    row_steps (row_of variables list) _ (λ row. tt)
instruction_steps layout t used before context at variables (Some (Put list index from otherwise)) =
    row_steps (row_of variables list) _ (λ row. tt)
instruction_steps layout t used before context at variables (Some (Open to path mode otherwise)) =
    either_steps (has_room layout t used) _ _ tt tt
instruction_steps layout t used before context at variables (Some (Connect to peer otherwise)) =
    either_steps (has_room layout t used) _ _ tt tt
instruction_steps layout t used before context at variables (Some (Read to file most otherwise)) =
    either_steps (has_room layout t used) _ _ (row_steps (row_of variables file) _ (λ row. tt)) tt
instruction_steps layout t used before context at variables (Some (Write file number otherwise)) =
    row_steps (row_of variables number) _ (λ row. tt)
instruction_steps layout t used before context at variables (Some (As from kind otherwise)) =
    row_steps (row_of variables from) _ (λ row. tt)
instruction_steps layout t used before context at variables (Some (Call to callee arguments otherwise)) =
    either_steps (list_all is_some (argument_rows variables arguments)) _ _ tt tt
instruction_steps layout t used before context at variables (Some (Goto to)) = tt
instruction_steps layout t used before context at variables (Some (Again to times)) = tt
instruction_steps layout t used before context at variables (Some (Ret from)) =
    row_steps (row_of variables from) _ (λ row. ret_steps t context.left from row context.outer)
instruction_steps layout t used before context at variables (Some Fail) = fail_steps context.left context.outer

inside_steps : (layout : Layout) (t used : ℕ) (context : Context) (at : ℕ) (variables : List (Option ℕ))
    (stage : Stage) (i : Option Instr)
    → TakesStep (dispatch_inside layout t used context at variables stage i)
inside_steps layout t used context at variables InRange (Some (Borrow to list index otherwise)) =
    row_steps (row_of variables list) _ (λ row. tt)
inside_steps layout t used context at variables InRange (Some (Fetch to list index otherwise)) =
    row_steps (row_of variables list) _ (λ row. tt)
inside_steps layout t used context at variables InRange (Some (Set list index from otherwise)) =
    row_steps (row_of variables list) _ (λ row. row_steps (row_of variables from) _ (λ item. tt))
inside_steps layout t used context at variables InRange (Some (Put list index from otherwise)) =
    row_steps (row_of variables from) _ (λ item. tt)
inside_steps layout t used context at variables OutOfRange (Some (Set list index from otherwise)) =
    row_steps (row_of variables from) _ (λ item. tt)
inside_steps layout t used context at variables Retained (Some (Put list index from otherwise)) =
    row_steps (row_of variables list) _ (λ row. row_steps (row_of variables from) _ (λ item. tt))
inside_steps layout t used context at variables (Found item) (Some (Fetch to list index otherwise)) = tt
inside_steps layout t used context at variables Granted (Some (Open to path mode otherwise)) = tt
inside_steps layout t used context at variables Granted (Some (Connect to peer otherwise)) = tt
inside_steps layout t used context at variables Lent (Some (Read to file most otherwise)) = tt
inside_steps layout t used context at variables (Called Success) (Some (Read to file most otherwise)) =
    row_steps (row_of variables file) _ (λ row. tt)
inside_steps layout t used context at variables (Called Fault) (Some (Read to file most otherwise)) =
    row_steps (row_of variables file) _ (λ row. tt)
inside_steps layout t used context at variables Granted (Some (Read to file most otherwise)) = tt
inside_steps layout t used context at variables Loaded (Some (Write file number otherwise)) =
    row_steps (row_of variables file) _ (λ row. tt)
inside_steps layout t used context at variables Lent (Some (Write file number otherwise)) = tt
inside_steps layout t used context at variables (Called Success) (Some (Write file number otherwise)) =
    row_steps (row_of variables file) _ (λ row. tt)
inside_steps layout t used context at variables (Called Fault) (Some (Write file number otherwise)) =
    row_steps (row_of variables file) _ (λ row. tt)
inside_steps layout t used context at variables stage i = tt

dispatch_steps : (layout : Layout) (t used : ℕ) (code : List Instr) (place : Place)
    → TakesStep (dispatch layout t used code place)
dispatch_steps layout t used code (Stopping (Some row) calls) = tt
dispatch_steps layout t used code (Stopping None calls) =
    give_up_decides TakesStep tt (λ row depth v after. tt) calls
dispatch_steps layout t used code Exiting = tt
dispatch_steps layout t used code (Idle zero) = tt
dispatch_steps layout t used code (Idle (suc left)) =
    instruction_steps layout t used (Idle (suc left)) (first_context left) 0 entry_variables (slice_get code 0)
dispatch_steps layout t used code (InCall context at variables) =
    instruction_steps layout t used (InCall context at variables) context at variables (slice_get code at)
dispatch_steps layout t used code (Inside context at variables stage) =
    inside_steps layout t used context at variables stage (slice_get code at)

-- Neither an agenda's first duty nor a dispatch is `Skip`.
pub agenda_steps : (functions : List Function) (layout : Layout) (t : ℕ) (a : StepActor) (agenda : List Duty)
    → TakesStep (agenda_action functions layout t a agenda)
agenda_steps functions layout t a [] =
    dispatch_steps layout t a.actor.used (function_in functions a.function a.place).code a.place
agenda_steps functions layout t a (d ∷ rest) = tt
