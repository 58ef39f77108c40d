-- What a thread of accepted code takes up at each instruction meets its condition.
use Rattle.std.proofs.Common.{◌≡◌, ◌≢◌, ℕ, zero, suc, ◌+◌, ◌<◌, false, List, [], ◌∷◌, ◌++◌, length, Option, None, Some, refl, sym, ap, ◌∙◌, subst, arith, true}
use Rattle.std.specs.Prelude.{◌==◌, ◌&&◌, is_some, slice_get, slice_set}
use Rattle.std.specs.List.{list_any}
use Rattle.std.proofs.lemmas.List.{length-set}
use Rattle.brc_lang.specs.declared.module.Instr.{Instr}
use Rattle.brc_lang.specs.declared.module.Instr.TheVariants.{Num, List as ListObject, NoneObject, Take, Newref, Move as MoveReference, Drop, Lock, Unlock, Borrow, Fetch, Set, Put, Goto, Again, Ret, Fail, As, Open, Connect, Read, Write, Call}
use Rattle.brc_model.specs.declared.state.Slot.TheVariants.{Empty, Owned}
use Rattle.brc_model.specs.declared.state.State.{State}
use Rattle.brc_model.specs.declared.state.Exit.TheVariants.{Success}
use Rattle.brc_model.specs.SlotStates.{var_of, is_empty, is_owned, kind_of, put, names, entry_of}
use Rattle.brc_model.specs.declared.duty.Holding.{Holding}
use Rattle.brc_model.specs.declared.duty.Holding.TheVariants.{ByVariable, AsCaller, InFlight}
use Rattle.brc_model.specs.AbstractState.{Reference, same_holding}
use Rattle.brc_model.specs.Threads.{row_of, entry_variables}
use Rattle.brc_model.specs.declared.duty.Duty.TheVariants.{RetainLoad, ReleaseLoad, Settle, Leave}
use Rattle.brc_model.specs.declared.actor.Place.{Place}
use Rattle.brc_model.specs.declared.actor.Context.{Context}
use Rattle.brc_model.specs.declared.actor.Place.TheVariants.{Idle, InCall, Inside, Stopping, Exiting}
use Rattle.brc_model.specs.declared.actor.Stage.{Stage}
use Rattle.brc_model.specs.Actions.{Does, always, first_context, dispatch_instruction, dispatch_inside, by_variable, ret_action}
use Rattle.brc_model.specs.Dispatch.{dispatch}
use Rattle.brc_model.proofs.Basics.Bag.{held-le-references_to}
use Rattle.brc_model.specs.References.{held, one_if, reference_of}
use Rattle.brc_model.proofs.Basics.Lists.{first_false, none_some}
use Rattle.brc_model.proofs.Dispatch.Holds.{once_each, the_root, of_variables, Holds, of_inside, call_of}
use Rattle.brc_model.proofs.Dispatch.Grounded.{IsInside, owned_var, owned_row, grounded-put, entry_in_call, running_accepted, running_instructions, entry_holds}
use Rattle.brc_model.proofs.Dispatch.Guards.{LocksAgree, guards-put, guards_none}
use Rattle.brc_model.proofs.Dispatch.Standing.{named_at, given_referenced, keeps_all, keeps_given}
use Rattle.brc_model.specs.KnownKinds.{HaveTrueKinds}
use Rattle.brc_model.specs.Items.{HaveItems, StageKnows}
use Rattle.brc_model.proofs.Dispatch.TakingBirths.{num_taken, list_taken}
use Rattle.brc_model.proofs.Dispatch.TakingLocks.{lock_taken, unlock_taken}
use Rattle.brc_model.proofs.Dispatch.TakingItems.{borrow_taken, fetch_taken, set_taken, put_taken}
use Rattle.brc_model.proofs.Dispatch.TakingHost.{open_taken, connect_taken, read_taken, write_taken}
use Rattle.brc_model.proofs.Dispatch.TakingKinds.{as_taken}
use Rattle.brc_model.proofs.Dispatch.TakingStores.{inside_taken}
use Rattle.brc_model.proofs.Dispatch.Items.{entry_items, ItemsAt}
use Rattle.brc_model.proofs.Dispatch.Passing.{passes_on}
use Rattle.brc_model.proofs.Stepping.Counts.{flip_eqb}
use Rattle.brc_model.proofs.Frame.Aside.{HoldsAlone}
use Rattle.brc_model.proofs.Dispatch.Coded.{PlaceFits, has_stage, in_flight}
use Rattle.brc_model.proofs.Dispatch.Lending.{lent_to, lent_at}
use Rattle.brc_model.proofs.Dispatch.Rooms.{awaits_inside, awaits_birth}
use Rattle.brc_model.specs.Machine.{has_room}
use Rattle.brc_model.proofs.Dispatch.TakingUp.{Scene, words_of, StandsAt, holds_plain, Gives, Takes, Nothing, Settles, Exits, Taken, IsTaken, taken_with_row, in_call_stays, StandsInside}
use Rattle.brc_model.proofs.Dispatch.OneMoreOrLess.{newref_held, emptied_held}
use Rattle.brc_model.proofs.Dispatch.TakingCalls.{call_taken}
use Rattle.brc_model.proofs.Dispatch.TakingSilent.{none_taken, immortal_list_taken, move_taken, goto_taken, again_taken}
use Rattle.brc_model.specs.Layout.{root_row}
use Rattle.brc_model.proofs.Dispatch.TakingStops.{stopped_unlocks, give_up_taken}
use Rattle.brc_model.proofs.Dispatch.Programs.{Program, code_in, IsSound, running, code_at}
use Rattle.brc_model.proofs.Dispatch.Kinds.{KnowsAll}
use Rattle.brc_model.proofs.Dispatch.TakingEnds.{Ends, ret_by, fail_by}
use Rattle.brc_model.proofs.Dispatch.Allowed.{AreAllowedIn, allowed_at}

module _ {program : Program} {g : Scene} {before : Place} {context : Context} {at : ℕ} {variables : List (Option ℕ)}
    {s : State} where
  newref_taken : (to from : ℕ) → StandsAt program context g before at variables s (Newref to from)
      → IsTaken program g (dispatch_instruction g.layout g.thread g.used before context at variables
      (Some (Newref to from)))
  newref_taken to from here =
      let some : is_empty (var_of s from) ≡ false = first_false _ _ here.met.not_empty in
      let free : is_owned (var_of s to) ≡ false = first_false _ _ here.met.free in
      let live = named_at program context g before at variables s (Newref to from) from here some in
      let in_slots : to < length s.slots = omega (arith, here.variables.0, here.inside.slots) in
      let in_rows : to < length variables = omega (arith, here.variables.0, here.inside.rows) in
      let var = Owned (kind_of (var_of s from)) in
      let next : IsInside (call_of program context) (at + 1) (slice_set variables to (Some live.object))
      (put s to var) =
      record {
        is_call = here.inside.is_call;
        exits = here.inside.exits ++ Success ∷ [];
        arrived = here.leads Success (at + 1) refl;
        slots = length-set s.slots to var ∙ here.inside.slots;
        rows = length-set variables to (Some live.object) ∙ here.inside.rows;
        grounded =
            grounded-put (call_of program context) s variables to var (Some live.object) in_slots in_rows
            (live.object, refl) here.inside.grounded;
      } in
      let held_now : HoldsAlone g.bag g.thread
      (once_each (of_variables (call_of program context) (put s to var) (slice_set variables to (Some live.object))))
      (RetainLoad live.object (by_variable context to) ∷ []) =
      record {
        each = newref_held g.bag g.thread (call_of program context) s variables to live.object var in_slots in_rows
            free refl here.holds;
      } in
      let taken : (found : ℕ) → Taken program g found (InCall context (at + 1)
      (slice_set variables to (Some live.object)))
      (RetainLoad live.object (by_variable context to)) [] = λ found. record {
        placed = (
          put s to var,
          next,
          guards-put s variables to var (Some live.object) s.locked g.locked (first_false _ _ here.met.unlocked)
              here.guards,
          held_now,
        );
        starts = Takes live.object (by_variable context to) [] live.backs;
        follows = Nothing (in_call_stays context (at + 1) (slice_set variables to (Some live.object)));
        keeps = keeps_all program context g before at variables s (Newref to from)
            (RetainLoad live.object (by_variable context to)) here (λ k object. refl);
      } in
      taken_with_row program g live.object (row_of variables from)
      (λ row. Does (RetainLoad row (by_variable context to)) []
      (always (InCall context (at + 1) (slice_set variables to (Some row))))) live.is_row taken

  drop_taken : (from : ℕ) → StandsAt program context g before at variables s (Drop from)
      → IsTaken program g (dispatch_instruction g.layout g.thread g.used before context at variables (Some (Drop from)))
  drop_taken from here =
      let owned = owned_var (var_of s from) (first_false _ _ here.met.not_empty) (first_false _ _ here.met.owned) in
      let row = owned_row (call_of program context) (var_of s from) (row_of variables from) owned
      (here.inside.grounded from) in
      let in_slots : from < length s.slots = omega (arith, here.variables, here.inside.slots) in
      let in_rows : from < length variables = omega (arith, here.variables, here.inside.rows) in
      let next : IsInside (call_of program context) (at + 1) (slice_set variables from None) (put s from Empty) =
      record {
        is_call = here.inside.is_call;
        exits = here.inside.exits ++ Success ∷ [];
        arrived = here.leads Success (at + 1) refl;
        slots = length-set s.slots from Empty ∙ here.inside.slots;
        rows = length-set variables from None ∙ here.inside.rows;
        grounded = grounded-put (call_of program context) s variables from Empty None in_slots in_rows tt
            here.inside.grounded;
      } in
      let held_now : HoldsAlone g.bag g.thread (once_each (of_variables (call_of program context) (put s from Empty)
      (slice_set variables from None)))
      (ReleaseLoad row.0 (by_variable context from) ∷ Settle ∷ []) =
      record {
        each = emptied_held g.bag g.thread (call_of program context) s variables from row.0 in_slots owned row.1
            here.holds;
      } in
      let free : names s.locked from ≡ false = first_false _ _ here.met.unlocked in
      let taken : (found : ℕ) → Taken program g found (InCall context (at + 1) (slice_set variables from None))
      (ReleaseLoad row.0 (by_variable context from)) (Settle ∷ []) = λ found. record {
        placed = (
          put s from Empty,
          next,
          guards-put s variables from Empty None s.locked g.locked free here.guards,
          held_now,
        );
        starts =
            Gives row.0 (by_variable context from) (Settle ∷ [])
            (given_referenced g.bag g.thread (call_of program context) s variables from row.0 owned row.1 here.holds);
        follows = Settles (in_call_stays context (at + 1) (slice_set variables from None));
        keeps = keeps_given program context g before at variables s (Drop from) row.0 from here free;
      } in
      taken_with_row program g row.0 (row_of variables from)
      (λ r. Does (ReleaseLoad r (by_variable context from)) (Settle ∷ [])
      (always (InCall context (at + 1) (slice_set variables from None)))) row.1 taken

  -- At the end of a call its variables own nothing but what it returns.
  ends : (i : Instr) → StandsAt program context g before at variables s i → is_some s.locked ≡ false
      → Ends program g context.outer s variables
  ends i here none = record {
    sound = here.sound;
    opened = here.inside.is_call.open_calls;
    holds = here.holds;
    unlocked = guards_none s variables s.locked g.locked none here.guards;
  }

  ret_taken : (from : ℕ) → StandsAt program context g before at variables s (Ret from)
      → IsTaken program g (dispatch_instruction g.layout g.thread g.used before context at variables (Some (Ret from)))
  ret_taken from here =
      let owned = owned_var (var_of s from) (first_false _ _ here.met.not_empty) (first_false _ _ here.met.owned) in
      let row = owned_row (call_of program context) (var_of s from) (row_of variables from) owned
      (here.inside.grounded from) in
      let in_slots : from < length s.slots = omega (arith, here.variables, here.inside.slots) in
      let none : list_any is_owned (put s from Empty).slots ≡ false = first_false _ _ here.met.none_left in
      taken_with_row program g row.0 (row_of variables from)
      (λ r. ret_action g.thread context.left from r context.outer) row.1
      (ret_by program g context.left from row.0 context.outer s variables
      (ends (Ret from) here (first_false _ _ here.met.no_lock_left)) in_slots owned row.1 none)

  -- ---- each instruction

  instruction_taken : (i : Instr) → StandsAt program context g before at variables s i
      → IsTaken program g (dispatch_instruction g.layout g.thread g.used before context at variables (Some i))
  instruction_taken (Num to value otherwise) here = num_taken to value otherwise here
  instruction_taken (ListObject to cells otherwise) here = list_taken to cells otherwise here
  instruction_taken (NoneObject to) here = none_taken to here
  instruction_taken (Take to list) here = immortal_list_taken to list here
  instruction_taken (MoveReference to from) here = move_taken to from here
  instruction_taken (Newref to from) here = newref_taken to from here
  instruction_taken (Drop from) here = drop_taken from here
  instruction_taken (Lock object) here = lock_taken object here
  instruction_taken (Unlock object) here = unlock_taken object here
  instruction_taken (Borrow to list index otherwise) here = borrow_taken to list index otherwise here
  instruction_taken (Fetch to list index otherwise) here = fetch_taken to list index otherwise here
  instruction_taken (Set list index from otherwise) here = set_taken list index from otherwise here
  instruction_taken (Put list index from otherwise) here = put_taken list index from otherwise here
  instruction_taken (Open to path mode otherwise) here =
      open_taken program g context at variables s before to path mode otherwise here
  instruction_taken (Connect to peer otherwise) here =
      connect_taken program g context at variables s before to peer otherwise here
  instruction_taken (Read to file most otherwise) here =
      read_taken program g context at variables s before to file most otherwise here
  instruction_taken (Write file number otherwise) here =
      write_taken program g context at variables s before file number otherwise here
  instruction_taken (As from kind otherwise) here = as_taken from kind otherwise here
  instruction_taken (Ret from) here = ret_taken from here
  instruction_taken (Goto to) here = goto_taken to here
  instruction_taken (Again to times) here = again_taken to times here
  instruction_taken (Call to callee arguments otherwise) here = call_taken to callee arguments otherwise here
  instruction_taken Fail here =
      fail_by program g context.left context.outer s variables
      (ends Fail here (first_false _ _ here.met.no_lock_left)) (first_false _ _ here.met.none_left)

-- What the thread's words say of kinds and items, at its place and at the beginning of a call; what it has lent, and
-- whether it has room.
pub record SeesKinds (program : Program) (g : Scene) (place : Place) : Type 0 where
  pub begins : HaveTrueKinds (words_of g) (entry_of []) entry_variables
  pub knows : KnowsAll program (words_of g) place
  pub items : ItemsAt program g.memory g.locked place
  pub allowed : AreAllowedIn g.layout program.functions
  pub lent : g.lent ≡ lent_at program place
  pub room : awaits_birth program place ≡ true → has_room g.layout g.thread g.used ≡ true

in_call_taken : (program : Program) (g : Scene) (before : Place) (context : Context) (at : ℕ)
    (variables : List (Option ℕ)) (s : State)
    → IsSound program → IsInside (call_of program context) at variables s
    → LocksAgree s variables g.locked
    → Holds g.bag g.thread (of_variables (call_of program context) s variables) → HaveTrueKinds (words_of g) s variables
    → HaveItems g.memory g.locked s variables → AreAllowedIn g.layout program.functions → g.lent ≡ None
    → PlaceFits program g.bag g.thread [] g.locked before → (before ≢ Exiting)
    → IsTaken program g (dispatch_instruction g.layout g.thread g.used before context at variables
    (slice_get (code_in program context) at))
in_call_taken program g before context at variables s sound inside guards holds kinds items allowed unlent back
    remains =
    let opened = inside.is_call.open_calls in
    let on = passes_on (running program context.outer) inside.exits at s
    (running_accepted program context.outer sound opened) inside.arrived in
    let here : StandsAt program context g before at variables s on.here =
    record {
      sound = sound;
      found = on.found;
      inside = inside;
      holds = holds;
      guards = guards;
      kinds = kinds;
      items = items;
      unlent = unlent;
      back = back;
      remains = remains;
      variables = (running_instructions program context.outer sound opened).each at on.here on.found;
      allowed = allowed_at g.layout program context.outer at on.here allowed opened on.found;
      met = on.met;
      leads = on.leads;
    } in
    subst (λ (o : Option Instr). IsTaken program g
    (dispatch_instruction g.layout g.thread g.used before context at variables o))
    (sym on.found) (instruction_taken on.here here)

-- Inside an instruction the state before it is still true.
inside_call_taken : (program : Program) (g : Scene) (context : Context) (at : ℕ) (variables : List (Option ℕ))
    (stage : Stage) → IsSound program
    → PlaceFits program g.bag g.thread [] g.locked (Inside context at variables stage)
    → SeesKinds program g (Inside context at variables stage)
    → IsTaken program g
    (dispatch_inside g.layout g.thread g.used context at variables stage (slice_get (code_in program context) at))
inside_call_taken program g context at variables stage sound fits sees =
    let s = fits.0 in
    let inside = fits.1 in
    let opened = inside.is_call.open_calls in
    let on = passes_on (running program context.outer) inside.exits at s
    (running_accepted program context.outer sound opened) inside.arrived in
    let holds =
    holds_plain g.bag g.thread (of_inside (call_of program context) (in_flight (slice_get (code_in program context) at)
    stage variables) s
    variables) fits.3 in
    let here : StandsInside program context g at variables s stage on.here =
    record {
      found = on.found;
      inside = inside;
      holds = subst (λ (o : Option Instr). Holds g.bag g.thread
          (of_inside (call_of program context) (in_flight o stage variables) s variables))
          on.found holds;
      guards = fits.2;
      kinds = sees.knows.0 inside.exits s inside.arrived;
      items = sees.items.items inside.exits s inside.arrived;
      cell = subst (λ (o : Option Instr). StageKnows g.memory g.locked variables stage o) on.found sees.items.cell;
      staged = ap (λ (o : Option Instr). has_stage o stage) (sym on.found) ∙ fits.4;
      lent = sees.lent ∙ ap (λ (o : Option Instr). lent_to stage o variables) on.found;
      room = λ awaits. sees.room (ap (awaits_inside stage) on.found ∙ awaits);
      variables = (running_instructions program context.outer sound opened).each at on.here on.found;
      met = on.met;
      leads = on.leads;
    } in
    subst (λ (o : Option Instr). IsTaken program g
    (dispatch_inside g.layout g.thread g.used context at variables stage o)) (sym on.found)
    (inside_taken program g context at variables s on.here stage here)

-- The exit gives up the reference that the thread holds as the caller.
exit_held : (bag : List Reference) (t : ℕ) → Holds bag t the_root → (k : Holding) (object : ℕ)
    → held (reference_of t k object) bag + 0 ≡ 0 + one_if (same_holding AsCaller k && (root_row == object))
exit_held bag t holds AsCaller object =
    let flipped : one_if (object == root_row) ≡ one_if (root_row == object) = ap one_if (flip_eqb object root_row) in
    omega (arith, holds.each AsCaller object, flipped)
exit_held bag t holds InFlight object = omega (arith, holds.each InFlight object)
exit_held bag t holds (ByVariable depth v) object = omega (arith, holds.each (ByVariable depth v) object)

-- What a thread at rest takes up meets its condition, whatever it dispatches.
pub dispatch_taken : (program : Program) (g : Scene) (place : Place)
    → IsSound program → (place ≢ Exiting)
    → PlaceFits program g.bag g.thread [] g.locked place → SeesKinds program g place
    → IsTaken program g (dispatch g.layout g.thread g.used (code_at program place) place)
dispatch_taken program g Exiting sound stays fits sees = absurd (stays refl)
dispatch_taken program g (Idle zero) sound stays fits sees =
    let holds = holds_plain g.bag g.thread the_root fits.1 in
    let one : held (reference_of g.thread AsCaller root_row) g.bag ≡ 1 = holds.each AsCaller root_row in
    λ found. record {
      placed = (fits.0, record { each = exit_held g.bag g.thread holds });
      starts =
          Gives root_row AsCaller (Settle ∷ Leave 0 g.used ∷ [])
          (omega (arith, one, held-le-references_to (reference_of g.thread AsCaller root_row) g.bag));
      follows = Exits refl;
      keeps = λ x locked. absurd (none_some x (sym fits.0 ∙ locked));
    }
dispatch_taken program g (Idle (suc left)) sound stays fits sees =
    in_call_taken program g (Idle (suc left)) (first_context left) 0 entry_variables (entry_of []) sound
    (entry_in_call program fits.2)
    fits.0 (entry_holds g.bag g.thread program (holds_plain g.bag g.thread the_root fits.1))
    sees.begins
    (entry_items g.memory g.locked)
    sees.allowed sees.lent fits stays
dispatch_taken program g (Inside context at variables stage) sound stays fits sees =
    inside_call_taken program g context at variables stage sound fits sees
dispatch_taken program g (InCall context at variables) sound stays fits sees =
    in_call_taken program g (InCall context at variables) context at variables fits.0 sound fits.1 fits.2
    (holds_plain g.bag g.thread (of_variables (call_of program context) fits.0 variables) fits.3)
    (sees.knows.0 fits.1.exits fits.0 fits.1.arrived) (sees.items fits.1.exits fits.0 fits.1.arrived)
    sees.allowed sees.lent fits stays
dispatch_taken program g (Stopping (Some row) calls) sound stays fits sees =
    stopped_unlocks program g row calls fits sees.lent
dispatch_taken program g (Stopping None calls) sound stays fits sees =
    give_up_taken program g calls fits.0 fits.1 fits.3 fits.2
