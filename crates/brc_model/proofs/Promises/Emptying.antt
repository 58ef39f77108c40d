-- A thread with nothing left to do has an empty dying chain: a settling comes after each duty that can make a row die.
-- A thread that has stopped settles once, after the last of its releases.
use Rattle.brc_model.specs.declared.state.Exit.TheVariants.{Success, Fault as FaultExit}
use Rattle.std.proofs.Common.{◌≡◌, ℕ, zero, suc, Bool, true, false, cond, List, [], ◌∷◌, ◌++◌, Option, None, Some, refl, sym, ap, ◌∙◌, subst}
use Rattle.std.specs.Prelude.{is_some, not, slice_get}
use Rattle.std.specs.List.{list_all}
use Rattle.brc_lang.specs.declared.module.Instr.{Instr}
use Rattle.brc_lang.specs.declared.module.Instr.TheVariants.{Num, List as ListObject, NoneObject, Take, Newref, Move as MoveReference, Drop, Lock, Unlock, Borrow, Fetch, Set, Put, Goto, Again, Ret, Fail, As, Open, Connect, Read, Write, Call}
use Rattle.brc_model.specs.Threads.{row_of}
use Rattle.brc_model.specs.declared.duty.Duty.{Duty}
use Rattle.brc_model.specs.declared.duty.Duty.TheVariants.{Die, Settle, Scan, TakeFound}
use Rattle.brc_model.specs.Duties.{continuation, new_head, ready}
use Rattle.brc_model.specs.declared.actor.Place.{Place}
use Rattle.brc_model.specs.declared.actor.Context.{Context}
use Rattle.brc_model.specs.declared.actor.Place.TheVariants.{Idle, InCall, Inside, Stopping, Exiting}
use Rattle.brc_model.specs.declared.actor.Stage.{Stage}
use Rattle.brc_model.specs.declared.actor.Stage.TheVariants.{InRange, OutOfRange, Found, Retained, Loaded, Lent, Called, Granted}
use Rattle.brc_model.specs.Machine.{is_running, has_room}
use Rattle.brc_model.specs.declared.state.Exit.{Exit}
use Rattle.brc_model.specs.Actions.{StepActor, Action, Skip, Stuck, Silent, Calls, Does, with_row, dispatch_instruction, dispatch_inside, ret_action, fail_action, argument_rows}
use Rattle.brc_model.specs.StepMachine.{step_actor}
use Rattle.brc_model.proofs.Basics.Lists.{either}
use Rattle.brc_model.proofs.Basics.Continuation.{leaves_chain, fills_chain, may_fill, is_inner, Traits, Continuation, Ends, GoesOn, Frees, Claims, ClaimsNone, Takes, TakesNone, continues}
use Rattle.brc_model.specs.declared.layout.Layout.{Layout}
use Rattle.brc_model.proofs.Promises.Turns.{EachPlace}
use Rattle.std.proofs.lemmas.List.{append-nil, append_assoc}
use Rattle.brc_model.specs.declared.actor.OpenCall.{OpenCall}

-- ---- agendas

abbrev some_chain : ℕ → Bool
some_chain zero = false
some_chain (suc head) = true

-- Says whether the chain is certainly empty once the agenda is done. `full` says whether it may have rows before.
-- `ready` skips a settling only while the chain is empty, and a settling that takes a row is followed by another.
abbrev pub empties : Bool → List Duty → Bool
empties full [] = not full
empties full (d ∷ rest) = empties (may_fill full d) rest

abbrev pub Empties : ℕ → List Duty → Type 0
Empties head agenda = empties (some_chain head) agenda ≡ true

-- An agenda that empties a full chain also leaves an empty one empty.
asks_less : (full : Bool) (agenda : List Duty) → empties true agenda ≡ true → empties full agenda ≡ true
asks_less true agenda e = e
asks_less false [] e = refl
asks_less false (d ∷ rest) e =
    (elim (leaves_chain d) as (λ b. empties (cond b true (fills_chain d)) rest ≡ true
    → empties (cond b false (fills_chain d)) rest ≡ true) [
      | true ↦ λ e. asks_less false rest e
      | false ↦ λ e. e
    ]) e

asks_least : (full : Bool) (agenda : List Duty) → empties full agenda ≡ true → empties false agenda ≡ true
asks_least true agenda e = asks_less false agenda e
asks_least false agenda e = e

ready_empties : (head : ℕ) (agenda : List Duty) → Empties head agenda → Empties head (ready head agenda)
ready_empties zero (Settle ∷ rest) e = ready_empties zero rest e
ready_empties zero (Scan x zero ∷ rest) e = ready_empties zero rest e
ready_empties (suc head) (Scan x zero ∷ rest) e = ready_empties (suc head) rest e
ready_empties zero (TakeFound w zero ∷ rest) e = ready_empties zero rest e
ready_empties (suc head) (TakeFound w zero ∷ rest) e = ready_empties (suc head) rest e
ready_empties _ _ e = cc

-- ---- one duty

-- A duty fills the chain only if `may_fill` says so.
kept_full : (head : ℕ) (d : Duty) (found : ℕ)
    → may_fill (some_chain (new_head head d found)) d ≡ may_fill (some_chain head) d
kept_full head (Die x) found = refl
kept_full head Settle found = refl
kept_full head _ found = refl

inner_less : (full : Bool) (d : Duty) (rest : List Duty) → is_inner d ≡ true → empties (may_fill full d) rest ≡ true
    → empties full rest ≡ true
inner_less full Settle rest inner e = absurd cc
inner_less full d rest inner e =
    (elim (leaves_chain d) as (λ b. empties (cond b full true) rest ≡ true → empties full rest ≡ true) [
      | true ↦ λ e. e
      | false ↦ asks_less full rest
    ]) e

next_empties : {layout : Layout} {t head found : ℕ} (d : Duty) (next rest : List Duty)
    → Continuation layout t head found d next → Empties head (d ∷ rest)
    → empties (some_chain (new_head head d found)) (next ++ rest) ≡ true
next_empties {head = head} {found = found} d next rest (Ends inner) e =
    inner_less (some_chain (new_head head d found)) d rest inner
    (subst (λ (full : Bool). empties full rest ≡ true) (sym (kept_full head d found)) e)
next_empties {head = head} {found = found} d next rest (GoesOn c leads) e =
    let same = ap (λ (s : Traits). s.chain (some_chain (new_head head d found))) leads.same in
    subst (λ (full : Bool). empties full rest ≡ true) (sym (same ∙ kept_full head d found)) e
next_empties d next rest (Frees x i n y c some leads) e =
    subst (λ (full : Bool). empties full rest ≡ true) (sym (ap (λ (s : Traits). s.chain true) leads.same)) e
next_empties {head = head} d next rest (Claims x set) e = asks_least (some_chain head) rest e
next_empties {head = head} d next rest (ClaimsNone x) e = asks_least (some_chain head) rest e
next_empties {head = head} d next rest (Takes w n set) e = asks_least (some_chain head) rest e
next_empties {head = head} d next rest (TakesNone w n) e = asks_least (some_chain head) rest e
next_empties d next rest _ e = e

-- ---- all threads

-- What a thread does at the place after its agenda: between two releases of a stopped thread the settling is still to
-- come.
abbrev pub behind : Place → List Duty
behind (Stopping None calls) = Settle ∷ []
behind _ = []

abbrev pub IsEmptied : StepActor → Type 0
IsEmptied a = Empties a.actor.head (a.actor.agenda ++ behind a.place)

abbrev pub AreEmptied : List StepActor → Type 0
AreEmptied actors = (t : ℕ) (a : StepActor) → slice_get actors t ≡ Some a → IsEmptied a

-- A settling empties the chain, whatever comes before it.
pub settled_empties : (full : Bool) (agenda : List Duty) → empties full (agenda ++ Settle ∷ []) ≡ true
settled_empties full [] = refl
settled_empties full (d ∷ rest) = settled_empties (may_fill full d) rest

-- Where nothing comes after the agenda, `ready` changes nothing of this.
none_behind : (head : ℕ) (agenda : List Duty) → Empties head (agenda ++ []) → Empties head (ready head agenda ++ [])
none_behind head agenda e =
    subst (Empties head) (sym (append-nil (ready head agenda)))
    (ready_empties head agenda (subst (Empties head) (append-nil agenda) e))

-- After the duties that `ready` leaves comes what came after them before.
ready_behind : (head : ℕ) (agenda : List Duty) (place : Place) → Empties head (agenda ++ behind place)
    → Empties head (ready head agenda ++ behind place)
ready_behind head agenda (Stopping None calls) e = settled_empties (some_chain head) (ready head agenda)
ready_behind head agenda (Stopping (Some row) calls) e = none_behind head agenda e
ready_behind head agenda (Idle left) e = none_behind head agenda e
ready_behind head agenda (InCall context at variables) e = none_behind head agenda e
ready_behind head agenda (Inside context at variables stage) e = none_behind head agenda e
ready_behind head agenda Exiting e = none_behind head agenda e

pub duty_emptied : (layout : Layout) (t : ℕ) (a : StepActor) (d : Duty) (rest : List Duty) (place : Place) (found : ℕ)
    → Empties a.actor.head ((d ∷ rest) ++ behind place) → IsEmptied (step_actor layout t a d rest place found)
duty_emptied layout t a d rest place found e =
    let next = continuation layout t (is_running a.actor.status) a.actor.head d found in
    let head = new_head a.actor.head d found in
    ready_behind head (next ++ rest) place
    (subst (λ (l : List Duty). Empties head l) (sym (append_assoc next rest (behind place)))
    (next_empties d next (rest ++ behind place) (continues layout t (is_running a.actor.status) a.actor.head d found)
    e))

-- ---- actions

-- The chain is empty once the duties of the action are done, if no settling comes after them.
abbrev pub ActionEmpties : ℕ → Action → Type 0
ActionEmpties head Skip = Unit {0}
ActionEmpties head Stuck = Unit {0}
ActionEmpties head (Silent moves place) = Unit {0}
ActionEmpties head (Calls row place) = Unit {0}
ActionEmpties head (Does d rest place) = Empties head (d ∷ rest)

-- The chain is empty once the duties of the action are done, and the settling that comes after them. A silent step and
-- a host call leave the thread this agenda.
abbrev pub ActionSettles : ℕ → List Duty → Action → Type 0
ActionSettles head agenda Skip = Unit {0}
ActionSettles head agenda Stuck = Unit {0}
ActionSettles head agenda (Silent moves place) = Empties head (agenda ++ behind place)
ActionSettles head agenda (Calls row place) = (exit : Exit) → Empties head (agenda ++ behind (place exit))
ActionSettles head agenda (Does d rest place) = (found : ℕ) → Empties head ((d ∷ rest) ++ behind (place found))

-- Nothing comes after the agenda at the place.
abbrev pub HasNoneBehind : Place → Type 0
HasNoneBehind place = behind place ≡ []

-- So it is from an empty chain, where nothing comes after the action's duties.
action_settles : (x : Action) → ActionEmpties 0 x → EachPlace HasNoneBehind x → ActionSettles 0 [] x
action_settles Skip e none = tt
action_settles Stuck e none = tt
action_settles (Silent moves place) e none = ap (empties false) none
action_settles (Calls row place) e none = λ exit. ap (empties false) (none exit)
action_settles (Does d rest place) e none = λ found.
    ap (λ (l : List Duty). empties false ((d ∷ rest) ++ l)) (none found)
    ∙ ap (empties false) (append-nil (d ∷ rest)) ∙ e

pub no_chain : (head : ℕ) → Empties head [] → head ≡ 0
no_chain zero e = refl
no_chain (suc head) e = absurd cc

pub from_empty : (head : ℕ) → Empties head [] → (x : Action) → ActionEmpties 0 x → EachPlace HasNoneBehind x
    → ActionSettles head [] x
from_empty head empty x e none =
    subst (λ (h : ℕ). ActionSettles h [] x) (sym (no_chain head empty)) (action_settles x e none)

pub row_empties : (o : Option ℕ) (work : ℕ → Action) → ((row : ℕ) → ActionEmpties 0 (work row))
    → ActionEmpties 0 (with_row o work)
row_empties None work each = tt
row_empties (Some row) work each = each row

ret_empties : (t left from row : ℕ) (outer : List OpenCall) → ActionEmpties 0 (ret_action t left from row outer)
ret_empties t left from row [] = refl
ret_empties t left from row (o ∷ outer) = tt

fail_empties : (left : ℕ) (outer : List OpenCall) → ActionEmpties 0 (fail_action left outer)
fail_empties left [] = tt
fail_empties left (o ∷ outer) = tt

-- What an instruction dispatches leaves an empty chain empty once it is done.
pub instruction_empties : (layout : Layout) (t used : ℕ) (before : Place) (context : Context) (at : ℕ)
    (variables : List (Option ℕ))
    (i : Option Instr)
    → ActionEmpties 0 (dispatch_instruction layout t used before context at variables i)
instruction_empties layout t used before context at variables None = tt
instruction_empties layout t used before context at variables (Some (Num to value otherwise)) =
    either (ActionEmpties 0) (has_room layout t used) _ _ (λ _. refl) tt
instruction_empties layout t used before context at variables (Some (ListObject to cells otherwise)) =
    either (ActionEmpties 0) (has_room layout t used) _ _ (λ _. refl) tt
instruction_empties layout t used before context at variables (Some (NoneObject to)) = tt
instruction_empties layout t used before context at variables (Some (Take to list)) = tt
instruction_empties layout t used before context at variables (Some (Newref to from)) =
    row_empties (row_of variables from) _ (λ row. refl)
instruction_empties layout t used before context at variables (Some (MoveReference to from)) =
    row_empties (row_of variables from) _ (λ row. tt)
instruction_empties layout t used before context at variables (Some (Drop from)) =
    row_empties (row_of variables from) _ (λ row. refl)
instruction_empties layout t used before context at variables (Some (Lock object)) =
    row_empties (row_of variables object) _ (λ row. refl)
instruction_empties layout t used before context at variables (Some (Unlock object)) =
    row_empties (row_of variables object) _ (λ row. refl)
instruction_empties layout t used before context at variables (Some (Borrow to list index otherwise)) =
    row_empties (row_of variables list) _ (λ row. refl)
instruction_empties layout t used before context at variables (Some (Fetch to list index otherwise)) =
    row_empties (row_of variables list) _ (λ row. refl)
instruction_empties layout t used before context at variables (Some (Set list index from otherwise)) =
    row_empties (row_of variables list) _ (λ row. refl)
instruction_empties layout t used before context at variables (Some (Put list index from otherwise)) =
    row_empties (row_of variables list) _ (λ row. refl)
instruction_empties layout t used before context at variables (Some (Open to path mode otherwise)) =
    either (ActionEmpties 0) (has_room layout t used) _ _ (λ room. tt) tt
instruction_empties layout t used before context at variables (Some (Connect to peer otherwise)) =
    either (ActionEmpties 0) (has_room layout t used) _ _ (λ room. tt) tt
instruction_empties layout t used before context at variables (Some (Read to file most otherwise)) =
    either (ActionEmpties 0) (has_room layout t used) _ _
    (λ room. row_empties (row_of variables file) _ (λ row. refl)) tt
instruction_empties layout t used before context at variables (Some (Write file number otherwise)) =
    row_empties (row_of variables number) _ (λ row. refl)
instruction_empties layout t used before context at variables (Some (As from kind otherwise)) =
    row_empties (row_of variables from) _ (λ row. refl)
instruction_empties layout t used before context at variables (Some (Goto to)) = tt
instruction_empties layout t used before context at variables (Some (Again to times)) = tt
instruction_empties layout t used before context at variables (Some (Call to callee arguments otherwise)) =
    either (ActionEmpties 0) (list_all is_some (argument_rows variables arguments)) _ _ (λ named. tt) tt
instruction_empties layout t used before context at variables (Some (Ret from)) =
    row_empties (row_of variables from) _ (λ row. ret_empties t context.left from row context.outer)
instruction_empties layout t used before context at variables (Some Fail) = fail_empties context.left context.outer

pub inside_empties : (layout : Layout) (t used : ℕ) (context : Context) (at : ℕ) (variables : List (Option ℕ))
    (stage : Stage) (i : Option Instr)
    → ActionEmpties 0 (dispatch_inside layout t used context at variables stage i)
inside_empties layout t used context at variables InRange (Some (Borrow to list index otherwise)) =
    row_empties (row_of variables list) _ (λ row. refl)
inside_empties layout t used context at variables InRange (Some (Fetch to list index otherwise)) =
    row_empties (row_of variables list) _ (λ row. refl)
inside_empties layout t used context at variables (Found item) (Some (Fetch to list index otherwise)) = refl
inside_empties layout t used context at variables InRange (Some (Set list index from otherwise)) =
    row_empties (row_of variables list) _ (λ row. row_empties (row_of variables from) _ (λ item. refl))
inside_empties layout t used context at variables OutOfRange (Some (Set list index from otherwise)) =
    row_empties (row_of variables from) _ (λ item. refl)
inside_empties layout t used context at variables InRange (Some (Put list index from otherwise)) =
    row_empties (row_of variables from) _ (λ item. refl)
inside_empties layout t used context at variables Retained (Some (Put list index from otherwise)) =
    row_empties (row_of variables list) _ (λ row. row_empties (row_of variables from) _ (λ item. refl))
inside_empties layout t used context at variables Granted (Some (Open to path mode otherwise)) = refl
inside_empties layout t used context at variables Granted (Some (Connect to peer otherwise)) = refl
inside_empties layout t used context at variables Lent (Some (Read to file most otherwise)) = tt
inside_empties layout t used context at variables (Called Success) (Some (Read to file most otherwise)) =
    row_empties (row_of variables file) _ (λ row. refl)
inside_empties layout t used context at variables (Called FaultExit) (Some (Read to file most otherwise)) =
    row_empties (row_of variables file) _ (λ row. refl)
inside_empties layout t used context at variables Granted (Some (Read to file most otherwise)) = refl
inside_empties layout t used context at variables Loaded (Some (Write file number otherwise)) =
    row_empties (row_of variables file) _ (λ row. refl)
inside_empties layout t used context at variables Lent (Some (Write file number otherwise)) = tt
inside_empties layout t used context at variables (Called Success) (Some (Write file number otherwise)) =
    row_empties (row_of variables file) _ (λ row. refl)
inside_empties layout t used context at variables (Called FaultExit) (Some (Write file number otherwise)) =
    row_empties (row_of variables file) _ (λ row. refl)
inside_empties layout t used context at variables stage i = tt
