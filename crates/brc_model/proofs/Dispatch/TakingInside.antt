-- What a thread inside `borrow` or `fetch` takes up meets its condition, and what a thread inside an instruction that
-- uses a cell knows.
use Rattle.std.proofs.Common.{Bool, ◌≡◌, ℕ, suc, ◌+◌, ◌<◌, true, false, List, [], ◌∷◌, ◌++◌, length, Option, None, Some, refl, ap, ◌∙◌, arith, inl, inr}
use Rattle.std.specs.Prelude.{◌==◌, ◌&&◌, slice_set}
use Rattle.std.proofs.lemmas.List.{length-set, length-map}
use Rattle.std.proofs.lemmas.Bool.{not-false}
use Rattle.brc_lang.specs.declared.module.Instr.{Instr}
use Rattle.brc_lang.specs.declared.module.Instr.TheVariants.{Borrow, Fetch}
use Rattle.brc_lang.specs.declared.kind.Kind.TheVariants as kinds
use Rattle.brc_model.specs.declared.state.Slot.{Slot}
use Rattle.brc_model.specs.declared.state.Slot.TheVariants.{Empty, Owned, Locked}
use Rattle.brc_model.specs.declared.state.State.{State}
use Rattle.brc_model.specs.declared.state.Exit.{Exit}
use Rattle.brc_model.specs.declared.state.Exit.TheVariants.{Success, Fault}
use Rattle.brc_model.specs.declared.duty.Holding.{Holding}
use Rattle.brc_model.specs.declared.duty.Holding.TheVariants.{InFlight}
use Rattle.brc_model.specs.declared.duty.Duty.{Duty}
use Rattle.brc_model.specs.declared.duty.Duty.TheVariants.{RetainLoad, CellLoad, CellSwap}
use Rattle.brc_model.specs.declared.actor.Place.{Place}
use Rattle.brc_model.specs.declared.actor.Context.{Context}
use Rattle.brc_model.specs.declared.actor.Place.TheVariants.{InCall, Inside}
use Rattle.brc_model.specs.declared.actor.Stage.{Stage}
use Rattle.brc_model.specs.declared.actor.Stage.TheVariants.{InRange, Found}
use Rattle.brc_model.specs.SlotStates.{var_of, is_empty, is_owned, names, put, without_item, without_items}
use Rattle.brc_model.specs.Paths.{At, path_end}
use Rattle.brc_model.specs.Threads.{row_of}
use Rattle.brc_model.specs.Duties.{cells_of}
use Rattle.brc_model.specs.AbstractState.{same_holding}
use Rattle.brc_model.specs.Accounts.{extra}
use Rattle.brc_model.specs.References.{one_if}
use Rattle.brc_model.specs.Actions.{Does, by_item, dispatch_inside, by_variable, depth_of}
use Rattle.brc_model.proofs.Basics.Lists.{first_false}
use Rattle.brc_model.proofs.Dispatch.Holds.{of_variables, of_inside, inside_none, Holds, HoldsVariables, holds_inside, call_of}
use Rattle.brc_model.proofs.Dispatch.Grounded.{IsGrounded, IsInside, grounded-put, grounded-without}
use Rattle.brc_model.proofs.Dispatch.Guards.{outer_flight, HeldLocked, HeldBeside, guards-put, guards_row, guards_held}
use Rattle.brc_model.proofs.Dispatch.Coded.{in_flight}
use Rattle.brc_model.proofs.Dispatch.TakingUp.{Scene, words_of, StandsInside, Backs, ByList, Takes, Loads, Nothing, Taken, IsTaken, taken_with_row, in_call_stays, inside_stays}
use Rattle.brc_model.proofs.Dispatch.OneMoreOrLess.{newref_held, unowned_held, cleared_held}
use Rattle.brc_model.proofs.Dispatch.Standing.{Named, named_var}
use Rattle.brc_model.proofs.Dispatch.Decided.{item_decides}
use Rattle.brc_model.proofs.Dispatch.TakingItems.{inside_fits, holds_nothing_in_flight}
use Rattle.brc_model.proofs.Dispatch.Programs.{Program, running}

-- ---- what the thread knows inside an instruction

module _ (program : Program) (g : Scene) (context : Context) (at : ℕ) (rows : List (Option ℕ)) (s : State) where
  -- Before it has made a reference for the cell, the thread holds what its variables own.
  pub holds_still : (stage : Stage) (i : Instr) → StandsInside program context g at rows s stage i
      → in_flight (Some i) stage rows ≡ None → Holds g.bag g.thread (of_variables (call_of program context) s rows)
  holds_still stage i here is = record {
    each = λ k object.
        here.holds.each k object ∙ ap (λ (f : Option ℕ). one_if (of_inside (call_of program context) f s rows k object))
        is
        ∙ ap one_if (inside_none (call_of program context) s rows k object);
  }

  pub variables_held : (stage : Stage) (i : Instr) → StandsInside program context g at rows s stage i
      → HoldsVariables g.bag g.thread (call_of program context) s rows
  variables_held stage i here =
      holds_inside g.bag g.thread (call_of program context) (in_flight (Some i) stage rows) s rows here.holds

  pub named_inside : (stage : Stage) (i : Instr) (v : ℕ) → StandsInside program context g at rows s stage i
      → is_empty (var_of s v) ≡ false → Named g (row_of rows v)
  named_inside stage i v here some =
      named_var g (call_of program context) s rows v (var_of s v) refl some (here.inside.grounded v)
      (variables_held stage i here) here.items

  pub lock_inside : (stage : Stage) (i : Instr) → StandsInside program context g at rows s stage i → (x : ℕ) → g.locked
      ≡ Some x
      → HeldLocked g.bag g.thread (depth_of context) x s.locked
  lock_inside stage i here x locked =
      guards_held g.bag g.thread (call_of program context) s rows s.locked g.locked x here.guards locked
      here.inside.grounded
      (variables_held stage i here)

  -- A duty that gives up nothing leaves the thread what it has locked.
  pub all_kept : (stage : Stage) (i : Instr) (d : Duty) → StandsInside program context g at rows s stage i
      → ((k : Holding) (object : ℕ) → extra d k object ≡ false) → (x : ℕ) → g.locked ≡ Some x
      → HeldBeside g.bag g.thread x d
  all_kept stage i d here none x locked =
      let lock = lock_inside stage i here x locked in
      record { by = lock.by; held_so = lock.held_so; beside = none lock.by x }

  -- So does one that gives up the reference in flight.
  pub flight_kept : (stage : Stage) (i : Instr) (row index item : ℕ) → StandsInside program context g at rows s stage i
      → (x : ℕ)
      → g.locked ≡ Some x → HeldBeside g.bag g.thread x (CellSwap row index item InFlight)
  flight_kept stage i row index item here x locked =
      let lock = lock_inside stage i here x locked in
      record {
        by = lock.by;
        held_so = lock.held_so;
        beside = elim lock.sort [
          | inl variable ↦
              ap (λ (k : Holding). same_holding InFlight k && (item == x)) variable
          | inr outer ↦
              ap (λ (b : Bool). b && (item == x)) (outer_flight (depth_of context) lock.by outer)
        ];
      }

  -- The list that the instruction uses is the one that the thread has locked.
  pub uses_locked : (stage : Stage) (i : Instr) (list row : ℕ) → StandsInside program context g at rows s stage i
      → names s.locked list ≡ true → row_of rows list ≡ Some row → g.locked ≡ Some row
  uses_locked stage i list row here this is = guards_row s rows list row s.locked g.locked this is here.guards

  -- ---- the next point

  -- The exit leads to a point where one variable has changed.
  next_put : (stage : Stage) (i : Instr) (exit : Exit) (next to : ℕ) (var : Slot) (row : Option ℕ)
      → (here : StandsInside program context g at rows s stage i) → to < 16 → IsGrounded (call_of program context) var
      row
      → path_end (running program context.outer) (here.inside.exits ++ exit ∷ []) ≡ At next (put s to var)
      → IsInside (call_of program context) next (slice_set rows to row) (put s to var)
  next_put stage i exit next to var row here low grounded arrived =
      let in_slots : to < length s.slots = omega (arith, low, here.inside.slots) in
      let in_rows : to < length rows = omega (arith, low, here.inside.rows) in
      record {
        is_call = here.inside.is_call;
        exits = here.inside.exits ++ exit ∷ [];
        arrived = arrived;
        slots = length-set s.slots to var ∙ here.inside.slots;
        rows = length-set rows to row ∙ here.inside.rows;
        grounded = grounded-put (call_of program context) s rows to var row in_slots in_rows grounded
            here.inside.grounded;
      }

  -- The exit leads to a point where the variables that borrowed from the list are empty.
  pub next_without : (stage : Stage) (i : Instr) (exit : Exit) (next : ℕ)
      → (here : StandsInside program context g at rows s stage i)
      → path_end (running program context.outer) (here.inside.exits ++ exit ∷ []) ≡ At next (without_items s)
      → IsInside (call_of program context) next rows (without_items s)
  next_without stage i exit next here arrived = record {
    is_call = here.inside.is_call;
    exits = here.inside.exits ++ exit ∷ [];
    arrived = arrived;
    slots = length-map s.slots without_item ∙ here.inside.slots;
    rows = here.inside.rows;
    grounded = grounded-without (call_of program context) s rows here.inside.grounded;
  }

  -- The exit leads to such a point, where a variable that gave up its reference is empty too.
  pub next_given : (stage : Stage) (i : Instr) (exit : Exit) (next from : ℕ)
      → (here : StandsInside program context g at rows s stage i) → from < 16
      → path_end (running program context.outer) (here.inside.exits ++ exit ∷ []) ≡ At next
      (without_items (put s from Empty))
      → IsInside (call_of program context) next (slice_set rows from None) (without_items (put s from Empty))
  next_given stage i exit next from here low arrived =
      let in_slots : from < length s.slots = omega (arith, low, here.inside.slots) in
      let in_rows : from < length rows = omega (arith, low, here.inside.rows) in
      record {
        is_call = here.inside.is_call;
        exits = here.inside.exits ++ exit ∷ [];
        arrived = arrived;
        slots = length-map (put s from Empty).slots without_item ∙ length-set s.slots from Empty ∙ here.inside.slots;
        rows = length-set rows from None ∙ here.inside.rows;
        grounded =
            grounded-without (call_of program context) (put s from Empty) (slice_set rows from None)
            (grounded-put (call_of program context) s rows from Empty None in_slots in_rows tt here.inside.grounded);
      }

  -- ---- borrow and fetch: the cell is loaded

  -- The cell is empty, so the variable is empty at the fault exit.
  nothing_found : (i : Instr) (to row index otherwise found : ℕ)
      → (here : StandsInside program context g at rows s InRange i) → in_flight (Some i) InRange rows ≡ None → to < 16
      → is_owned (var_of s to) ≡ false → names s.locked to ≡ false
      → Backs g row → g.locked ≡ Some row → index < cells_of (words_of g row)
      → path_end (running program context.outer) (here.inside.exits ++ Fault ∷ []) ≡ At otherwise (put s to Empty)
      → Taken program g found (InCall context otherwise (slice_set rows to None)) (CellLoad row index) []
  nothing_found i to row index otherwise found here is low free unlocked backs has within arrived =
      let in_slots : to < length s.slots = omega (arith, low, here.inside.slots) in
      let cleared = cleared_held g.bag g.thread (call_of program context) s rows to in_slots free
      (holds_still InRange i here is) in
      record {
        placed = (
          put s to Empty,
          next_put InRange i Fault otherwise to Empty None here low tt arrived,
          guards-put s rows to Empty None s.locked g.locked unlocked here.guards,
          record { each = λ k object. omega (arith, cleared k object) },
        );
        starts = Loads row index backs has within;
        follows = Nothing (in_call_stays context otherwise (slice_set rows to None));
        keeps = all_kept InRange i (CellLoad row index) here (λ k object. refl);
      }

  pub borrow_inside : (to list index otherwise : ℕ)
      → StandsInside program context g at rows s InRange (Borrow to list index otherwise)
      → IsTaken program g (dispatch_inside g.layout g.thread g.used context at rows InRange
      (Some (Borrow to list index otherwise)))
  borrow_inside to list index otherwise here =
      let i = Borrow to list index otherwise in
      let free : is_owned (var_of s to) ≡ false = first_false _ _ here.met.free in
      let unlocked : names s.locked to ≡ false = first_false _ _ here.met.unlocked in
      let named = named_inside InRange i list here (first_false _ _ here.met.not_empty) in
      let row = named.object in
      let has =
      uses_locked InRange i list row here (not-false _ (first_false _ _ here.met.has_lock)) named.is_row in
      let within : index < cells_of (words_of g row) = here.cell row named.is_row in
      let in_slots : to < length s.slots = omega (arith, here.variables.0, here.inside.slots) in
      let empty = InCall context otherwise (slice_set rows to None) in
      let there : (item : ℕ) → Place = λ item. InCall context (at + 1) (slice_set rows to (Some item)) in
      let found_item : (item : ℕ) → Taken program g (suc item) (there item) (CellLoad row index) [] = λ item.
      let same =
      unowned_held g.bag g.thread (call_of program context) s rows to (Locked kinds.Any) (Some item) in_slots free refl
      (holds_still InRange i here refl) in
      record {
        placed = (
          put s to (Locked kinds.Any),
          next_put InRange i Success (at + 1) to (Locked kinds.Any) (Some item) here here.variables.0 (item, refl)
              (here.leads Success (at + 1) refl),
          guards-put s rows to (Locked kinds.Any) (Some item) s.locked g.locked unlocked here.guards,
          record { each = λ k object. omega (arith, same k object) },
        );
        starts = Loads row index named.backs has within;
        follows = Nothing (in_call_stays context (at + 1) (slice_set rows to (Some item)));
        keeps = all_kept InRange i (CellLoad row index) here (λ k object. refl);
      } in
      taken_with_row program g row (row_of rows list)
      (λ x. Does (CellLoad x index) [] (by_item empty there)) named.is_row
      (λ found. item_decides (λ (word : ℕ) (place : Place). Taken program g word place (CellLoad row index) []) empty
      there
      (nothing_found i to row index otherwise 0 here refl here.variables.0 free unlocked named.backs has within
      (here.leads Fault otherwise refl)) found_item found)

  pub fetch_inside : (to list index otherwise : ℕ)
      → StandsInside program context g at rows s InRange (Fetch to list index otherwise)
      → IsTaken program g (dispatch_inside g.layout g.thread g.used context at rows InRange
      (Some (Fetch to list index otherwise)))
  fetch_inside to list index otherwise here =
      let i = Fetch to list index otherwise in
      let free : is_owned (var_of s to) ≡ false = first_false _ _ here.met.free in
      let unlocked : names s.locked to ≡ false = first_false _ _ here.met.unlocked in
      let named = named_inside InRange i list here (first_false _ _ here.met.not_empty) in
      let row = named.object in
      let has =
      uses_locked InRange i list row here (not-false _ (first_false _ _ here.met.has_lock)) named.is_row in
      let within : index < cells_of (words_of g row) = here.cell row named.is_row in
      let empty = InCall context otherwise (slice_set rows to None) in
      let there : (item : ℕ) → Place = λ item. Inside context at rows (Found item) in
      let holds = holds_nothing_in_flight g.bag g.thread (call_of program context) s rows
      (holds_still InRange i here refl) in
      let found_item : (item : ℕ) → Taken program g (suc item) (there item) (CellLoad row index) [] = λ item. record {
        placed =
            inside_fits program g.bag g.thread (CellLoad row index ∷ []) g.locked context at rows s (Found item) i None
            here.found refl refl here.inside here.guards
            (record { each = λ k object. omega (arith, holds.each k object) });
        starts = Loads row index named.backs has within;
        follows = Nothing (inside_stays context at rows (Found item));
        keeps = all_kept InRange i (CellLoad row index) here (λ k object. refl);
      } in
      taken_with_row program g row (row_of rows list)
      (λ x. Does (CellLoad x index) [] (by_item empty there)) named.is_row
      (λ found. item_decides (λ (word : ℕ) (place : Place). Taken program g word place (CellLoad row index) []) empty
      there
      (nothing_found i to row index otherwise 0 here refl here.variables.0 free unlocked named.backs has within
      (here.leads Fault otherwise refl)) found_item found)

  -- The item is in the cell, so the thread may make a reference to it.
  pub found_inside : (to list index otherwise item : ℕ)
      → StandsInside program context g at rows s (Found item) (Fetch to list index otherwise)
      → IsTaken program g (dispatch_inside g.layout g.thread g.used context at rows (Found item)
      (Some (Fetch to list index otherwise)))
  found_inside to list index otherwise item here =
      let i = Fetch to list index otherwise in
      let var : Slot = Owned kinds.Any in
      let free : is_owned (var_of s to) ≡ false = first_false _ _ here.met.free in
      let unlocked : names s.locked to ≡ false = first_false _ _ here.met.unlocked in
      let in_slots : to < length s.slots = omega (arith, here.variables.0, here.inside.slots) in
      let in_rows : to < length rows = omega (arith, here.variables.0, here.inside.rows) in
      λ found. record {
        placed = (
          put s to var,
          next_put (Found item) i Success (at + 1) to var (Some item) here here.variables.0 (item, refl)
              (here.leads Success (at + 1) refl),
          guards-put s rows to var (Some item) s.locked g.locked unlocked here.guards,
          record {
            each = newref_held g.bag g.thread (call_of program context) s rows to item var in_slots in_rows free refl
                (holds_still (Found item) i here refl);
          },
        );
        starts = Takes item (by_variable context to) [] (ByList here.cell.list here.cell.cell here.cell.is_locked
            here.cell.holds);
        follows = Nothing (in_call_stays context (at + 1) (slice_set rows to (Some item)));
        keeps = all_kept (Found item) i (RetainLoad item (by_variable context to)) here (λ k object. refl);
      }
