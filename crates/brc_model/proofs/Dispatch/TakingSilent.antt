-- The silent steps of accepted code meet their condition: `none`, `move`, `goto` and `again`, which change no word.
use Rattle.std.proofs.Common.{◌≡◌, ℕ, ◌+◌, ◌<◌, true, false, List, [], ◌∷◌, ◌++◌, length, Option, None, Some, refl, ap, ◌∙◌, arith, Bool}
use Rattle.std.specs.Prelude.{◌==◌, ◌&&◌, nat_lt, slice_set}
use Rattle.std.specs.List.{list_any}
use Rattle.std.proofs.lemmas.List.{length-set}
use Rattle.brc_lang.specs.declared.module.Instr.{Instr}
use Rattle.brc_lang.specs.declared.module.Instr.TheVariants.{NoneObject, Take, Move as MoveReference, Goto, Again}
use Rattle.brc_lang.specs.declared.kind.Kind.TheVariants as kinds
use Rattle.brc_model.specs.declared.state.Slot.{Slot}
use Rattle.brc_model.specs.declared.state.Slot.TheVariants.{Empty, Owned}
use Rattle.brc_model.specs.declared.state.State.{State}
use Rattle.brc_model.specs.declared.state.Exit.{Exit}
use Rattle.brc_model.specs.declared.state.Exit.TheVariants.{Success, Fault}
use Rattle.brc_model.specs.SlotStates.{var_of, is_owned, kind_of, put, names, after, target}
use Rattle.brc_model.specs.Paths.{At}
use Rattle.brc_model.specs.declared.duty.Holding.{Holding}
use Rattle.brc_model.specs.declared.duty.Holding.TheVariants.{ByVariable}
use Rattle.brc_model.specs.AbstractState.{Reference, same_holding, same, without}
use Rattle.brc_model.specs.Threads.{row_of}
use Rattle.brc_model.specs.declared.actor.Place.{Place}
use Rattle.brc_model.specs.declared.actor.Context.{Context}
use Rattle.brc_model.specs.declared.actor.Place.TheVariants.{InCall}
use Rattle.brc_model.specs.Actions.{turns_at, with_turn, dispatch_instruction, Silent, by_variable}
use Rattle.brc_model.specs.Moves.{gain, pass_on}
use Rattle.brc_model.proofs.Basics.Bag.{held_has, held-without, held-cons}
use Rattle.brc_model.specs.References.{held, one_if, reference_of}
use Rattle.brc_model.proofs.Basics.Lists.{either, first_false, second_false}
use Rattle.brc_model.proofs.Dispatch.Holds.{Activation, of_variables, Holds, owned_has, call_of}
use Rattle.brc_model.proofs.Dispatch.Grounded.{IsInside, owned_var, owned_row, grounded-put}
use Rattle.brc_model.proofs.Stepping.Counts.{same_is}
use Rattle.brc_model.proofs.Dispatch.Guards.{guards-put}
use Rattle.brc_model.proofs.Dispatch.Coded.{PlaceFits}
use Rattle.brc_model.proofs.Dispatch.TakingUp.{Scene, StandsAt, holds_at_none, IsTaken, taken_with_row, in_call_stays, SilentTaken}
use Rattle.brc_model.proofs.Dispatch.OneMoreOrLess.{still_free, newref_held, emptied_held}
use Rattle.brc_model.proofs.Keeping.SilentMoves.{Stays, GainsImmortal, PassesOn}
use Rattle.brc_model.specs.Layout.{none_row, is_immortal_row, first_immortal_list}
use Rattle.brc_model.proofs.Dispatch.Programs.{Program}
use Rattle.brc_lang.specs.declared.kind.Kind.{Kind}
use Rattle.brc_lang.specs.Limits.{variable_count}
use Rattle.brc_model.proofs.Basics.Blocks.{list_immortal}

-- Gaining the reference that the thread lacks makes the bag fit what the thread is to hold.
pub gained_holds : (bag : List Reference) (t : ℕ) (by : Holding) (row : ℕ) (says : Holding → ℕ → Bool)
    → ((k : Holding) (object : ℕ) → held (reference_of t k object) bag
    + one_if (same_holding by k && (row == object)) ≡ one_if (says k object) + 0)
    → (k : Holding) (object : ℕ)
    → held (reference_of t k object) (reference_of t by row ∷ bag) ≡ one_if (says k object)
gained_holds bag t by row says lacks k object =
    let r = reference_of t k object in
    let one : one_if (same r (reference_of t by row)) ≡ one_if (same_holding by k && (row == object)) =
    ap one_if (same_is t row by k object) in
    omega (arith, lacks k object, held-cons r (reference_of t by row) bag, one)

-- ---- immortal objects

module _ {program : Program} {g : Scene} {before : Place} {context : Context} {at : ℕ} {variables : List (Option ℕ)}
    {s : State} where
  -- A variable that owns nothing takes a reference to an immortal object.
  immortal_taken : (to row : ℕ) (kind : Kind) (i : Instr) → StandsAt program context g before at variables s i
      → to < variable_count → is_owned (var_of s to) ≡ false → names s.locked to ≡ false
      → target i Success at ≡ Some (at + 1) → after i Success s ≡ put s to (Owned kind)
      → is_immortal_row g.layout row ≡ true
      → SilentTaken program g (gain g.thread (by_variable context to) row)
      (InCall context (at + 1) (slice_set variables to (Some row)))
  immortal_taken to row kind i here low free unlocked leads_on leaves immortal =
      let var : Slot = Owned kind in
      let in_slots : to < length s.slots = omega (arith, low, here.inside.slots) in
      let in_rows : to < length variables = omega (arith, low, here.inside.rows) in
      let next : IsInside (call_of program context) (at + 1) (slice_set variables to (Some row)) (put s to var) =
      record {
        is_call = here.inside.is_call;
        exits = here.inside.exits ++ Success ∷ [];
        arrived = here.leads Success (at + 1) leads_on ∙ ap (λ (state : State). At (at + 1) state) leaves;
        slots = length-set s.slots to var ∙ here.inside.slots;
        rows = length-set variables to (Some row) ∙ here.inside.rows;
        grounded =
            grounded-put (call_of program context) s variables to var (Some row) in_slots in_rows (row, refl)
            here.inside.grounded;
      } in
      let holds : Holds (reference_of g.thread (by_variable context to) row ∷ g.bag) g.thread
      (of_variables (call_of program context) (put s to var) (slice_set variables to (Some row))) =
      record {
        each = gained_holds g.bag g.thread (by_variable context to) row _
            (newref_held g.bag g.thread (call_of program context) s variables to row var in_slots in_rows free refl
            here.holds);
      } in
      record {
        moves_fit = GainsImmortal (by_variable context to) row immortal;
        placed = (
          put s to var,
          next,
          guards-put s variables to var (Some row) s.locked g.locked unlocked here.guards,
          holds_at_none _ g.thread _ holds,
        );
        stays = in_call_stays context (at + 1) (slice_set variables to (Some row));
      }

  pub none_taken : (to : ℕ) → StandsAt program context g before at variables s (NoneObject to)
      → IsTaken program g (dispatch_instruction g.layout g.thread g.used before context at variables
      (Some (NoneObject to)))
  none_taken to here =
      immortal_taken to none_row kinds.None (NoneObject to) here here.variables (first_false _ _ here.met.free)
      (first_false _ _ here.met.unlocked) refl refl refl

  pub immortal_list_taken : (to list : ℕ) → StandsAt program context g before at variables s (Take to list)
      → IsTaken program g (dispatch_instruction g.layout g.thread g.used before context at variables
      (Some (Take to list)))
  immortal_list_taken to list here =
      immortal_taken to (first_immortal_list g.layout + list) kinds.List (Take to list) here here.variables.0
      (first_false _ _ here.met.free) (first_false _ _ here.met.unlocked) refl refl
      (list_immortal g.layout (first_immortal_list g.layout + list) (omega arith) (omega (arith, here.allowed)))

-- ---- a reference passed on

-- Losing the reference that a variable owns, and emptying the variable, makes the bag fit what the thread is to hold.
pub lost_holds : (bag : List Reference) (t : ℕ) (call : Activation) (s : State) (variables : List (Option ℕ))
    (from row : ℕ)
    → from < length s.slots → is_owned (var_of s from) ≡ true → row_of variables from ≡ Some row
    → Holds bag t (of_variables call s variables)
    → list_any (same (reference_of t (ByVariable call.depth from) row)) bag ≡ true
    → Holds (without (reference_of t (ByVariable call.depth from) row) bag) t
    (of_variables call (put s from Empty) (slice_set variables from None))
lost_holds bag t call s variables from row in_slots owned is holds has = record {
  each = λ k object.
      let r = reference_of t k object in
      let by = ByVariable call.depth from in
      let one : one_if (same r (reference_of t by row)) ≡ one_if (same_holding by k && (row == object)) =
      ap one_if (same_is t row by k object) in
      omega (
        arith,
        emptied_held bag t call s variables from row in_slots owned is holds k object,
        held-without r (reference_of t by row) bag has,
        one,
      );
}

module _ {program : Program} {g : Scene} {before : Place} {context : Context} {at : ℕ} {variables : List (Option ℕ)}
    {s : State} where
  pub move_taken : (to from : ℕ) → StandsAt program context g before at variables s (MoveReference to from)
      → IsTaken program g (dispatch_instruction g.layout g.thread g.used before context at variables
      (Some (MoveReference to from)))
  move_taken to from here =
      let owned = owned_var (var_of s from) (first_false _ _ here.met.not_empty) (first_false _ _ here.met.owned) in
      let free : is_owned (var_of s to) ≡ false = first_false _ _ here.met.free in
      let row = owned_row (call_of program context) (var_of s from) (row_of variables from) owned
      (here.inside.grounded from) in
      let var : Slot = Owned (kind_of (var_of s from)) in
      let s1 = put s from Empty in
      let v1 = slice_set variables from None in
      let r = reference_of g.thread (by_variable context from) row.0 in
      let in_slots : from < length s.slots = omega (arith, here.variables.1, here.inside.slots) in
      let in_rows : from < length variables = omega (arith, here.variables.1, here.inside.rows) in
      let to_slots : to < length s1.slots =
      omega (arith, here.variables.0, here.inside.slots, length-set s.slots from Empty) in
      let to_rows : to < length v1 =
      omega (arith, here.variables.0, here.inside.rows, length-set variables from None) in
      let grounded = grounded-put (call_of program context) s variables from Empty None in_slots in_rows tt
      here.inside.grounded in
      let next : IsInside (call_of program context) (at + 1) (slice_set v1 to (Some row.0)) (put s1 to var) = record {
        is_call = here.inside.is_call;
        exits = here.inside.exits ++ Success ∷ [];
        arrived = here.leads Success (at + 1) refl;
        slots = length-set s1.slots to var ∙ length-set s.slots from Empty ∙ here.inside.slots;
        rows = length-set v1 to (Some row.0) ∙ length-set variables from None ∙ here.inside.rows;
        grounded = grounded-put (call_of program context) s1 v1 to var (Some row.0) to_slots to_rows (row.0, refl)
            grounded;
      } in
      let one : held r g.bag ≡ 1 = owned_has g.bag g.thread (call_of program context) s variables from row.0 owned row.1
      here.holds in
      let has = held_has r g.bag (omega (arith, one)) in
      let fewer = lost_holds g.bag g.thread (call_of program context) s variables from row.0 in_slots owned row.1
      here.holds has in
      let holds : Holds (reference_of g.thread (by_variable context to) row.0 ∷ without r g.bag) g.thread
      (of_variables (call_of program context) (put s1 to var) (slice_set v1 to (Some row.0))) =
      record {
        each = gained_holds (without r g.bag) g.thread (by_variable context to) row.0 _
            (newref_held (without r g.bag) g.thread (call_of program context) s1 v1 to row.0 var to_slots to_rows
            (still_free s from to in_slots free) refl fewer);
      } in
      let from_free : names s.locked from ≡ false = first_false _ _ here.met.unlocked in
      let to_free : names s.locked to ≡ false = first_false _ _ (second_false _ _ here.met.unlocked) in
      let guards =
      guards-put s1 v1 to var (Some row.0) s.locked g.locked to_free
      (guards-put s variables from Empty None s.locked g.locked from_free here.guards) in
      let taken : SilentTaken program g (pass_on g.thread (by_variable context from) (by_variable context to) row.0)
      (InCall context (at + 1) (slice_set v1 to (Some row.0))) =
      record {
        moves_fit = PassesOn (by_variable context from) (by_variable context to) row.0 [] has Stays;
        placed = (put s1 to var, next, guards, holds_at_none _ g.thread _ holds);
        stays = in_call_stays context (at + 1) (slice_set v1 to (Some row.0));
      } in
      taken_with_row program g row.0 (row_of variables from)
      (λ x. Silent (pass_on g.thread (by_variable context from) (by_variable context to) x)
      (InCall context (at + 1) (slice_set v1 to (Some x)))) row.1 taken

  -- ---- a jump

  -- An instruction that changes no variable leads to the point of its exit.
  jump_fits : (next : ℕ) (i : Instr) (exit : Exit) → StandsAt program context g before at variables s i
      → target i exit at ≡ Some next → after i exit s ≡ s
      → PlaceFits program g.bag g.thread [] g.locked (InCall context next variables)
  jump_fits next i exit here to same =
      let there : IsInside (call_of program context) next variables s = record {
        is_call = here.inside.is_call;
        exits = here.inside.exits ++ exit ∷ [];
        arrived = here.leads exit next to ∙ ap (At next) same;
        slots = here.inside.slots;
        rows = here.inside.rows;
        grounded = here.inside.grounded;
      } in
      (s, there, here.guards, holds_at_none g.bag g.thread _ here.holds)

jump_taken : (program : Program) (g : Scene) (context : Context) (next : ℕ) (variables : List (Option ℕ))
    → PlaceFits program g.bag g.thread [] g.locked (InCall context next variables)
    → SilentTaken program g [] (InCall context next variables)
jump_taken program g context next variables placed =
    record { moves_fit = Stays; placed = placed; stays = in_call_stays context next variables }

module _ {program : Program} {g : Scene} {before : Place} {context : Context} {at : ℕ} {variables : List (Option ℕ)}
    {s : State} where
  pub goto_taken : (to : ℕ) → StandsAt program context g before at variables s (Goto to)
      → IsTaken program g (dispatch_instruction g.layout g.thread g.used before context at variables (Some (Goto to)))
  goto_taken to here = jump_taken program g context to variables (jump_fits to (Goto to) Success here refl refl)

  -- Counting a turn leaves the calls that are open around this one, and so what the thread holds.
  pub again_taken : (to times : ℕ) → StandsAt program context g before at variables s (Again to times)
      → IsTaken program g (dispatch_instruction g.layout g.thread g.used before context at variables
      (Some (Again to times)))
  again_taken to times here =
      either (SilentTaken program g []) (nat_lt (turns_at context at) times)
      (InCall (with_turn context at) to variables)
      (InCall context (at + 1) variables)
      (λ more. jump_taken program g (with_turn context at) to variables
      (jump_fits to (Again to times) Fault here refl refl))
      (jump_taken program g context (at + 1) variables (jump_fits (at + 1) (Again to times) Success here refl refl))
