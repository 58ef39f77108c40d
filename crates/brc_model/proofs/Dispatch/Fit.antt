-- Each instruction that a thread of accepted code begins has what it needs: the kind of the object that it locks, the
-- lock that it ends, and no lock at the end of a call.
use Rattle.std.proofs.Common.{◌≡◌, ℕ, zero, suc, true, false, List, [], ◌∷◌, Option, None, Some, refl, ap, ◌∙◌, subst, Bool, inl, inr, sym}
use Rattle.std.specs.Prelude.{◌&&◌, not, is_some, slice_get}
use Rattle.std.specs.List.{AllByRecursion, list_all}
use Rattle.brc_model.proofs.Dispatch.Calls.{ArgumentMet, call_met}
use Rattle.std.proofs.lemmas.Bool.{eq-eqb, not-false}
use Rattle.brc_lang.specs.declared.module.Instr.{Instr}
use Rattle.brc_lang.specs.declared.module.Instr.TheVariants.{Lock, Unlock, Borrow, Fetch, Set, Put, Ret, Fail, Read, Write, Call}
use Rattle.brc_lang.specs.declared.kind.Kind.{Kind}
use Rattle.brc_lang.specs.declared.kind.Kind.TheVariants as kinds
use Rattle.brc_model.specs.Kinds.{kind_of_word}
use Rattle.brc_lang.specs.declared.module.Module.{Module}
use Rattle.brc_model.specs.declared.state.State.{State}
use Rattle.brc_model.specs.declared.actor.Place.{Place}
use Rattle.brc_model.specs.declared.actor.Place.TheVariants.{Idle, InCall, Inside, Stopping, Exiting}
use Rattle.brc_model.specs.declared.address.Address.{Address}
use Rattle.brc_model.specs.declared.address.Address.TheVariants.{KindOf}
use Rattle.brc_model.specs.declared.duty.Duty.{Duty}
use Rattle.brc_model.specs.declared.thread.Choice.{Choice}
use Rattle.brc_model.specs.declared.thread.Choice.TheVariants.{Ok, Fault, Claim, Stop}
use Rattle.brc_model.specs.SlotStates.{var_of, is_empty, kind_of, names, is_one_of, lockable, with_resource, entry_of}
use Rattle.brc_model.specs.Threads.{row_of, entry_variables}
use Rattle.brc_model.specs.KnownKinds.{IsTrueKind, HaveTrueKinds, kind_words}
use Rattle.brc_model.specs.Needs.{kind_at, suits_kind, has_its_kind, has_locked, has_needs, lacks_needs, starts_unfit}
use Rattle.brc_model.specs.Events.{begins_unfit, chooses_unfit}
use Rattle.brc_model.specs.Accounts.{Account}
use Rattle.brc_model.specs.Actions.{first_context, StepActor}
use Rattle.brc_model.specs.StepMachine.{StepMachine}
use Rattle.brc_model.proofs.Basics.Lists.{first_false, second_false}
use Rattle.brc_model.proofs.Dispatch.Grounded.{IsGrounded, IsInside, named_row, entry_in_call, function_of_call, running_accepted}
use Rattle.brc_model.proofs.Dispatch.Guards.{LocksAgree, guards_none, guards_row}
use Rattle.brc_model.proofs.Dispatch.Passing.{AreMet, passes_on}
use Rattle.brc_model.proofs.Dispatch.Coded.{PlaceSays}
use Rattle.brc_model.proofs.Dispatch.Lockable.{lockable_word}
use Rattle.brc_model.proofs.Dispatch.Kinds.{entry_true, KnowsAll, knows_first}
use Rattle.brc_model.proofs.Keeping.CodeInvariant.{CodeInvariant}
use Rattle.brc_model.proofs.Dispatch.Holds.{Activation, call_of}
use Rattle.brc_model.proofs.Dispatch.Programs.{Program, IsSound, code_at, program_of}
use Rattle.brc_model.specs.Paths.{IsAcceptableFunction}
use Rattle.brc_lang.specs.declared.parameter.Argument.{Argument}

-- What a thread knows at an instruction whose conditions are met.
record Meets (call : Activation) (memory : Address → ℕ) (locked : Option ℕ) (variables : List (Option ℕ)) (s : State)
    (i : Instr) : Type 0
  where
    grounded : (v : ℕ) → IsGrounded call (var_of s v) (row_of variables v)
    guards : LocksAgree s variables locked
    kinds : HaveTrueKinds (λ x. memory (KindOf x)) s variables
    met : AreMet i s

no_lock : (locked : Option ℕ) → locked ≡ None → not (is_some locked) ≡ true
no_lock locked none = ap (λ (o : Option ℕ). not (is_some o)) none

-- An object's kind word says that it is of one of the kinds, if the checker knows it.
kind_fits : (asked : List Kind) (kind : Kind) (word : ℕ) → is_one_of kinds.Any asked ≡ false → IsTrueKind kind word
    → is_one_of kind asked ≡ true → is_one_of (kind_of_word word) asked ≡ true
kind_fits asked kind word none (inl any) can =
    absurd (let wrong : false ≡ true = sym none ∙ sym (ap (λ (k : Kind). is_one_of k asked) any) ∙ can in cc)
kind_fits asked kind word none (inr names) can = ap (λ (k : Kind). is_one_of k asked) names ∙ can

-- The kind of the object that a variable names.
named_fit : (call : Activation) (memory : Address → ℕ) (variables : List (Option ℕ)) (s : State) (v : ℕ)
    (asked : List Kind)
    → is_one_of kinds.Any asked ≡ false → is_empty (var_of s v) ≡ false
    → is_one_of (kind_of (var_of s v)) asked ≡ true
    → IsGrounded call (var_of s v) (row_of variables v) → HaveTrueKinds (λ x. memory (KindOf x)) s variables
    → is_one_of (kind_at memory (row_of variables v)) asked ≡ true
named_fit call memory variables s v asked none some can grounded kinds_known =
    let row = named_row call (var_of s v) (row_of variables v) some grounded in
    ap (λ (o : Option ℕ). is_one_of (kind_at memory o) asked) row.1
    ∙ kind_fits asked (kind_of (var_of s v)) (memory (KindOf row.0)) none (kinds_known v row.0 row.1) can

-- The object of such a kind that the thread has locked.
locked_fit : (call : Activation) (memory : Address → ℕ) (locked : Option ℕ) (variables : List (Option ℕ)) (s : State)
    (v : ℕ)
    (asked : List Kind) → is_one_of kinds.Any asked ≡ false
    → is_empty (var_of s v) ≡ false → is_one_of (kind_of (var_of s v)) asked ≡ true
    → names s.locked v ≡ true → ((v : ℕ) → IsGrounded call (var_of s v) (row_of variables v))
    → LocksAgree s variables locked → HaveTrueKinds (λ x. memory (KindOf x)) s variables
    → (is_one_of (kind_at memory (row_of variables v)) asked && has_locked locked (row_of variables v)) ≡ true
locked_fit call memory locked variables s v asked none some can this grounded guards kinds_known =
    let row = named_row call (var_of s v) (row_of variables v) some (grounded v) in
    let has = guards_row s variables v row.0 s.locked locked this row.1 guards in
    ap (λ (b : Bool). b && has_locked locked (row_of variables v))
    (named_fit call memory variables s v asked none some can (grounded v) kinds_known)
    ∙ ap (has_locked locked) row.1
    ∙ ap (λ (o : Option ℕ). has_locked o (Some row.0)) has ∙ eq-eqb row.0 row.0 refl

-- An argument's object is of its parameter's kind.
suits_itself : (kind : Kind) → suits_kind kind kind ≡ true
suits_itself kinds.Any = refl
suits_itself _ = cc

suits_any : (kind asked : Kind) → asked ≡ kinds.Any → suits_kind kind asked ≡ true
suits_any kind asked any = subst (λ (k : Kind). suits_kind kind k ≡ true) (sym any) refl

-- A kind word that names a parameter's kind suits it.
suits_word : (asked : Kind) (word : ℕ) → IsTrueKind asked word → suits_kind (kind_of_word word) asked ≡ true
suits_word asked word (inl any) = suits_any (kind_of_word word) asked any
suits_word asked word (inr names) = subst (λ (k : Kind). suits_kind k asked ≡ true) (sym names) (suits_itself asked)

argument_fit : (call : Activation) (memory : Address → ℕ) (variables : List (Option ℕ)) (s : State) (a : Argument)
    → ArgumentMet s a → IsGrounded call (var_of s a.from) (row_of variables a.from)
    → HaveTrueKinds (λ x. memory (KindOf x)) s variables → has_its_kind memory variables a ≡ true
argument_fit call memory variables s a met grounded kinds_known =
    let row = named_row call (var_of s a.from) (row_of variables a.from) met.some grounded in
    let asked = a.parameter.kind in
    ap (λ (o : Option ℕ). suits_kind (kind_at memory o) asked) row.1
    ∙ suits_word asked (memory (KindOf row.0)) (elim met.kind [
      | inl any ↦ inl any
      | inr same ↦
          subst (λ (k : Kind). IsTrueKind k (memory (KindOf row.0))) same (kinds_known a.from row.0 row.1)
    ])

arguments_fit : (call : Activation) (memory : Address → ℕ) (variables : List (Option ℕ)) (s : State)
    (arguments : List Argument)
    → AllByRecursion (ArgumentMet s) arguments → ((v : ℕ) → IsGrounded call (var_of s v) (row_of variables v))
    → HaveTrueKinds (λ x. memory (KindOf x)) s variables → list_all (has_its_kind memory variables) arguments ≡ true
arguments_fit call memory variables s [] met grounded kinds_known = refl
arguments_fit call memory variables s (a ∷ others) met grounded kinds_known =
    ap (λ (b : Bool). b && list_all (has_its_kind memory variables) others)
    (argument_fit call memory variables s a met.0 (grounded a.from) kinds_known)
    ∙ arguments_fit call memory variables s others met.1 grounded kinds_known

instruction_fit : (call : Activation) (memory : Address → ℕ) (locked : Option ℕ) (variables : List (Option ℕ))
    (s : State) (i : Instr)
    → Meets call memory locked variables s i → has_needs memory locked variables i ≡ true
instruction_fit call memory locked variables s (Lock object) meets =
    let some : is_empty (var_of s object) ≡ false = first_false _ _ meets.met.not_empty in
    let row = named_row call (var_of s object) (row_of variables object) some (meets.grounded object) in
    let can = not-false _ (first_false _ _ meets.met.right_kind) in
    let word = lockable_word (kind_of (var_of s object)) (memory (KindOf row.0))
    (meets.kinds object row.0 row.1) can in
    let free = guards_none s variables s.locked locked (first_false _ _ meets.met.first_lock) meets.guards in
    ap (λ (o : Option ℕ). is_one_of (kind_at memory o) lockable && not (is_some locked)) row.1
    ∙ ap (λ (b : Bool). b && not (is_some locked)) word ∙ no_lock locked free
instruction_fit call memory locked variables s (Unlock object) meets =
    let some : is_empty (var_of s object) ≡ false = first_false _ _ meets.met.not_empty in
    let row = named_row call (var_of s object) (row_of variables object) some (meets.grounded object) in
    let this = not-false _ (first_false _ _ meets.met.has_lock) in
    let has = guards_row s variables object row.0 s.locked locked this row.1 meets.guards in
    ap (λ (o : Option ℕ). has_locked o (row_of variables object)) has
    ∙ ap (λ (o : Option ℕ). has_locked (Some row.0) o) row.1 ∙ eq-eqb row.0 row.0 refl
instruction_fit call memory locked variables s (Borrow to list index otherwise) meets =
    locked_fit call memory locked variables s list (kinds.List ∷ []) refl (first_false _ _ meets.met.not_empty)
    (not-false _ (first_false _ _ meets.met.right_kind)) (not-false _ (first_false _ _ meets.met.has_lock))
    meets.grounded meets.guards meets.kinds
instruction_fit call memory locked variables s (Fetch to list index otherwise) meets =
    locked_fit call memory locked variables s list (kinds.List ∷ []) refl (first_false _ _ meets.met.not_empty)
    (not-false _ (first_false _ _ meets.met.right_kind)) (not-false _ (first_false _ _ meets.met.has_lock))
    meets.grounded meets.guards meets.kinds
instruction_fit call memory locked variables s (Set list index from otherwise) meets =
    locked_fit call memory locked variables s list (kinds.List ∷ []) refl
    (first_false _ _ (second_false _ _ meets.met.not_empty))
    (not-false _ (first_false _ _ meets.met.right_kind)) (not-false _ (first_false _ _ meets.met.has_lock))
    meets.grounded meets.guards meets.kinds
instruction_fit call memory locked variables s (Put list index from otherwise) meets =
    let row = named_row call (var_of s from) (row_of variables from) (first_false _ _ meets.met.not_empty)
    (meets.grounded from) in
    ap (λ (b : Bool). b && is_some (row_of variables from))
    (locked_fit call memory locked variables s list (kinds.List ∷ []) refl
    (first_false _ _ (second_false _ _ meets.met.not_empty))
    (not-false _ (first_false _ _ meets.met.right_kind)) (not-false _ (first_false _ _ meets.met.has_lock))
    meets.grounded meets.guards meets.kinds)
    ∙ ap is_some row.1
instruction_fit call memory locked variables s (Read to file most otherwise) meets =
    locked_fit call memory locked variables s file with_resource refl (first_false _ _ meets.met.not_empty)
    (not-false _ (first_false _ _ meets.met.right_kind)) (not-false _ (first_false _ _ meets.met.has_lock))
    meets.grounded meets.guards meets.kinds
instruction_fit call memory locked variables s (Write file number otherwise) meets =
    ap (λ (b : Bool). b && is_one_of (kind_at memory (row_of variables number)) (kinds.Num ∷ []))
    (locked_fit call memory locked variables s file with_resource refl (first_false _ _ meets.met.not_empty)
    (not-false _ (first_false _ _ meets.met.right_kind)) (not-false _ (first_false _ _ meets.met.has_lock))
    meets.grounded meets.guards meets.kinds)
    ∙ named_fit call memory variables s number (kinds.Num ∷ []) refl
    (first_false _ _ (second_false _ _ meets.met.not_empty))
    (not-false _ (first_false _ _ (second_false _ _ meets.met.right_kind))) (meets.grounded number) meets.kinds
instruction_fit call memory locked variables s (Call to callee arguments otherwise) meets =
    let known = call_met s to callee otherwise arguments meets.met in
    ap (λ (b : Bool). b && list_all (has_its_kind memory variables) arguments)
    (no_lock locked (guards_none s variables s.locked locked (ap is_some known.unlocked) meets.guards))
    ∙ arguments_fit call memory variables s arguments known.each meets.grounded meets.kinds
instruction_fit call memory locked variables s (Ret from) meets =
    no_lock locked (guards_none s variables s.locked locked (first_false _ _ meets.met.no_lock_left) meets.guards)
instruction_fit call memory locked variables s Fail meets =
    no_lock locked (guards_none s variables s.locked locked (first_false _ _ meets.met.no_lock_left) meets.guards)
instruction_fit call memory locked variables s _ meets = refl

in_call_fit : (call : Activation) (memory : Address → ℕ) (locked : Option ℕ) (at : ℕ) (variables : List (Option ℕ))
    (s : State)
    → IsAcceptableFunction (function_of_call call) → IsInside call at variables s → LocksAgree s variables locked
    → HaveTrueKinds (λ x. memory (KindOf x)) s variables
    → lacks_needs memory locked variables (slice_get (function_of_call call).code at) ≡ false
in_call_fit call memory locked at variables s accepted inside guards kinds =
    let on = passes_on (function_of_call call) inside.exits at s accepted inside.arrived in
    let fit = instruction_fit call memory locked variables s on.here (record {
      grounded = inside.grounded;
      guards = guards;
      kinds = kinds;
      met = on.met;
    }) in
    ap (lacks_needs memory locked variables) on.found ∙ ap not fit

place_fit : (program : Program) (memory : Address → ℕ) (locked : Option ℕ) (place : Place) (account : Account)
    → IsSound program → PlaceSays program place locked account
    → HaveTrueKinds (λ x. memory (KindOf x)) (entry_of []) entry_variables
    → KnowsAll program (λ x. memory (KindOf x)) place
    → starts_unfit memory locked (code_at program place) place ≡ false
place_fit program memory locked (Idle zero) account sound says begins knows = ap is_some says.0
place_fit program memory locked (Idle (suc left)) account sound says begins knows =
    in_call_fit (call_of program (first_context left)) memory locked 0 entry_variables (entry_of [])
    (running_accepted program [] sound says.2) (entry_in_call program says.2) says.0 begins
place_fit program memory locked (InCall context at variables) account sound says begins knows =
    in_call_fit (call_of program context) memory locked at variables says.0
    (running_accepted program context.outer sound says.1.is_call.open_calls) says.1 says.2
    (knows.0 says.1.exits says.0 says.1.arrived)
place_fit program memory locked (Inside context at variables stage) account sound says begins knows =
    in_call_fit (call_of program context) memory locked at variables says.0
    (running_accepted program context.outer sound says.1.is_call.open_calls) says.1 says.2
    (knows.0 says.1.exits says.0 says.1.arrived)
place_fit program memory locked (Stopping lock calls) account sound says begins knows = refl
place_fit program memory locked Exiting account sound says begins knows = refl

agenda_fit : (p : Module) (n : ℕ) (m : StepMachine) (t : ℕ) (a : StepActor) (agenda : List Duty) → CodeInvariant p n m
    → slice_get m.actors t ≡ Some a → begins_unfit m a agenda ≡ false
agenda_fit p n m t a (d ∷ rest) whole found = refl
agenda_fit p n m t a [] whole found =
    let own = whole.coded t a found in
    place_fit (program_of m.functions m.states a) m.memory a.actor.locked a.place (whole.accounts t) whole.sound
    own.says
    (entry_true (kind_words m) (knows_first p.statics m.layout (kind_words m) whole.kinds.named).root)
    (whole.kinds.known t a found)

-- No thread of accepted code begins an instruction that lacks what it needs.
pub choice_fit : (p : Module) (n : ℕ) (m : StepMachine) (t : ℕ) (a : StepActor) (choice : Choice) → CodeInvariant p n m
    → slice_get m.actors t ≡ Some a → chooses_unfit m a choice ≡ false
choice_fit p n m t a Ok whole found = agenda_fit p n m t a a.actor.agenda whole found
choice_fit p n m t a Fault whole found = agenda_fit p n m t a a.actor.agenda whole found
choice_fit p n m t a Stop whole found = refl
choice_fit p n m t a (Claim row) whole found = refl
