-- What a thread inside `set` or `put` takes up meets its condition, and so whatever a thread inside an instruction
-- does.
use Rattle.std.proofs.Common.{◌≡◌, ℕ, ◌+◌, ◌<◌, true, false, List, [], ◌∷◌, length, Option, None, Some, refl, ap, ◌∙◌, subst, arith}
use Rattle.std.specs.Prelude.{◌==◌, ◌&&◌, slice_set}
use Rattle.std.proofs.lemmas.Bool.{eq-eqb, not-false}
use Rattle.brc_lang.specs.declared.module.Instr.{Instr}
use Rattle.brc_lang.specs.declared.module.Instr.TheVariants.{Borrow, Fetch, Set, Put, Open, Connect, Read, Write}
use Rattle.brc_model.specs.declared.state.Slot.TheVariants.{Empty}
use Rattle.brc_model.specs.declared.state.State.{State}
use Rattle.brc_model.specs.declared.state.Exit.TheVariants.{Success, Fault}
use Rattle.brc_model.specs.declared.duty.Holding.{Holding}
use Rattle.brc_model.specs.declared.duty.Holding.TheVariants.{ByVariable, AsCaller, InFlight}
use Rattle.brc_model.specs.declared.duty.Duty.TheVariants.{RetainLoad, ReleaseLoad, Settle, CellSwap}
use Rattle.brc_model.specs.declared.actor.Context.{Context}
use Rattle.brc_model.specs.declared.actor.Place.TheVariants.{InCall, Inside}
use Rattle.brc_model.specs.declared.actor.Stage.{Stage}
use Rattle.brc_model.specs.declared.actor.Stage.TheVariants.{InRange, OutOfRange, Found, Retained, Loaded, Lent, Called, Granted}
use Rattle.brc_model.specs.SlotStates.{var_of, is_empty, is_owned, names, put, without_items}
use Rattle.brc_model.specs.Threads.{row_of}
use Rattle.brc_model.specs.AbstractState.{same_holding, references_to}
use Rattle.brc_model.specs.References.{held, one_if, reference_of}
use Rattle.brc_model.specs.Actions.{Does, always, with_row, dispatch_inside, by_variable, depth_of}
use Rattle.brc_model.proofs.Basics.Bag.{held-le-references_to}
use Rattle.brc_model.proofs.Basics.Lists.{first_false, second_false}
use Rattle.brc_model.proofs.Stepping.Counts.{flip_eqb}
use Rattle.brc_model.proofs.Dispatch.Holds.{of_variables, of_inside, Holds, call_of}
use Rattle.brc_model.proofs.Dispatch.Grounded.{owned_var, owned_row, says-without}
use Rattle.brc_model.proofs.Dispatch.Guards.{guards-put, guards-without, gives_keeps}
use Rattle.brc_model.proofs.Dispatch.Coded.{in_flight}
use Rattle.brc_model.proofs.Dispatch.TakingUp.{Scene, StandsInside, Gives, Takes, Swaps, Nothing, Settles, Taken, IsTaken, taken_with_row, in_call_stays, inside_stays}
use Rattle.brc_model.proofs.Dispatch.OneMoreOrLess.{emptied_held}
use Rattle.brc_model.proofs.Dispatch.Standing.{given_referenced}
use Rattle.brc_model.proofs.Dispatch.TakingItems.{inside_fits}
use Rattle.brc_model.proofs.Dispatch.TakingHost.{open_granted, connect_granted, read_lent, read_returned, read_failed, read_granted, write_loaded, write_lent, write_returned, write_failed}
use Rattle.brc_model.proofs.Dispatch.TakingInside.{holds_still, named_inside, lock_inside, all_kept, flight_kept, uses_locked, next_without, next_given, borrow_inside, fetch_inside, found_inside}
use Rattle.brc_model.proofs.Dispatch.Programs.{Program}

module _ (program : Program) (g : Scene) (context : Context) (at : ℕ) (rows : List (Option ℕ)) (s : State) where
  -- ---- set: the variable's reference goes into the cell, or is given up

  -- What the variable that gives up its reference owns.
  record Given (stage : Stage) (from : ℕ) : Type 0 where
    owned : is_owned (var_of s from) ≡ true
    row : ℕ
    is_row : row_of rows from ≡ Some row
    in_slots : from < length s.slots
    some : 0 < references_to row g.bag
    each : (k : Holding) (object : ℕ) → held (reference_of g.thread k object) g.bag + 0
        ≡ one_if (of_variables (call_of program context) (without_items (put s from Empty)) (slice_set rows from None) k
        object)
        + one_if (same_holding (by_variable context from) k && (row == object))

  gives_from : (stage : Stage) (list index from otherwise : ℕ)
      → (here : StandsInside program context g at rows s stage (Set list index from otherwise))
      → in_flight (Some (Set list index from otherwise)) stage rows ≡ None → Given stage from
  gives_from stage list index from otherwise here still =
      let i = Set list index from otherwise in
      let owned = owned_var (var_of s from) (first_false _ _ here.met.not_empty) (first_false _ _ here.met.owned) in
      let row = owned_row (call_of program context) (var_of s from) (row_of rows from) owned (here.inside.grounded from)
      in
      let in_slots : from < length s.slots = omega (arith, here.variables.2, here.inside.slots) in
      let holds = holds_still program g context at rows s stage i here still in
      record {
        owned = owned;
        row = row.0;
        is_row = row.1;
        in_slots = in_slots;
        some = given_referenced g.bag g.thread (call_of program context) s rows from row.0 owned row.1 holds;
        each = λ k object.
            let same = ap one_if (says-without (call_of program context) (put s from Empty) (slice_set rows from None) k
            object) in
            omega (
              arith,
              emptied_held g.bag g.thread (call_of program context) s rows from row.0 in_slots owned row.1 holds k
                  object,
              same,
            );
      }

  set_inside : (list index from otherwise : ℕ)
      → StandsInside program context g at rows s InRange (Set list index from otherwise)
      → IsTaken program g (dispatch_inside g.layout g.thread g.used context at rows InRange
      (Some (Set list index from otherwise)))
  set_inside list index from otherwise here =
      let i = Set list index from otherwise in
      let free : names s.locked from ≡ false = first_false _ _ here.met.unlocked in
      let given = gives_from InRange list index from otherwise here refl in
      let named =
      named_inside program g context at rows s InRange i list here
      (first_false _ _ (second_false (is_empty (var_of s from)) _ here.met.not_empty)) in
      let row = named.object in
      let has =
      uses_locked program g context at rows s InRange i list row here (not-false _ (first_false _ _ here.met.has_lock))
      named.is_row in
      let after = InCall context (at + 1) (slice_set rows from None) in
      let taken : (found : ℕ) → Taken program g found after (CellSwap row index given.row (by_variable context from))
      (Settle ∷ []) =
      λ found. record {
        placed = (
          without_items (put s from Empty),
          next_given program g context at rows s InRange i Success (at + 1) from here here.variables.2
              (here.leads Success (at + 1) refl),
          guards-without (put s from Empty) (slice_set rows from None) s.locked g.locked
              (guards-put s rows from Empty None s.locked g.locked free here.guards),
          record { each = given.each },
        );
        starts =
            Swaps row index given.row (by_variable context from) (Settle ∷ []) named.backs has
            (here.cell row named.is_row)
            given.some;
        follows = Settles (in_call_stays context (at + 1) (slice_set rows from None));
        keeps = λ x locked.
            gives_keeps g.bag g.thread (depth_of context) given.row x from s.locked
            (CellSwap row index given.row (by_variable context from)) free
            (λ k object. refl) (lock_inside program g context at rows s InRange i here x locked);
      } in
      taken_with_row program g row (row_of rows list)
      (λ x. with_row (row_of rows from)
      (λ item. Does (CellSwap x index item (by_variable context from)) (Settle ∷ []) (always after))) named.is_row
      (taken_with_row program g given.row (row_of rows from)
      (λ item. Does (CellSwap row index item (by_variable context from)) (Settle ∷ []) (always after)) given.is_row
      taken)

  -- The list has no such cell: the reference is given up all the same.
  refused_inside : (list index from otherwise : ℕ)
      → StandsInside program context g at rows s OutOfRange (Set list index from otherwise)
      → IsTaken program g (dispatch_inside g.layout g.thread g.used context at rows OutOfRange
      (Some (Set list index from otherwise)))
  refused_inside list index from otherwise here =
      let i = Set list index from otherwise in
      let free : names s.locked from ≡ false = first_false _ _ here.met.unlocked in
      let given = gives_from OutOfRange list index from otherwise here refl in
      let after = InCall context otherwise (slice_set rows from None) in
      let taken : (found : ℕ) → Taken program g found after (ReleaseLoad given.row (by_variable context from))
      (Settle ∷ []) =
      λ found. record {
        placed = (
          without_items (put s from Empty),
          next_given program g context at rows s OutOfRange i Fault otherwise from here here.variables.2
              (here.leads Fault otherwise refl),
          guards-without (put s from Empty) (slice_set rows from None) s.locked g.locked
              (guards-put s rows from Empty None s.locked g.locked free here.guards),
          record { each = given.each },
        );
        starts = Gives given.row (by_variable context from) (Settle ∷ []) given.some;
        follows = Settles (in_call_stays context otherwise (slice_set rows from None));
        keeps = λ x locked.
            gives_keeps g.bag g.thread (depth_of context) given.row x from s.locked
            (ReleaseLoad given.row (by_variable context from)) free
            (λ k object. refl) (lock_inside program g context at rows s OutOfRange i here x locked);
      } in
      taken_with_row program g given.row (row_of rows from)
      (λ item. Does (ReleaseLoad item (by_variable context from)) (Settle ∷ []) (always after)) given.is_row taken

  -- ---- put: a reference of the thread's own is made, and goes into the cell

  -- With the new reference in flight.
  flight_held : (item : ℕ) → Holds g.bag g.thread (of_variables (call_of program context) s rows)
      → (k : Holding) (object : ℕ)
      → held (reference_of g.thread k object) g.bag + one_if (same_holding InFlight k && (item == object))
      ≡ one_if (of_inside (call_of program context) (Some item) s rows k object) + 0
  flight_held item holds (ByVariable depth v) object = omega (arith, holds.each (ByVariable depth v) object)
  flight_held item holds AsCaller object = omega (arith, holds.each AsCaller object)
  flight_held item holds InFlight object =
      omega (arith, holds.each InFlight object, ap one_if (flip_eqb object item))

  put_inside : (list index from otherwise : ℕ)
      → StandsInside program context g at rows s InRange (Put list index from otherwise)
      → IsTaken program g (dispatch_inside g.layout g.thread g.used context at rows InRange
      (Some (Put list index from otherwise)))
  put_inside list index from otherwise here =
      let i = Put list index from otherwise in
      let named = named_inside program g context at rows s InRange i from here (first_false _ _ here.met.not_empty) in
      let item = named.object in
      let holds = holds_still program g context at rows s InRange i here refl in
      let taken : (found : ℕ) → Taken program g found (Inside context at rows Retained) (RetainLoad item InFlight) [] =
      λ found. record {
        placed =
            inside_fits program g.bag g.thread (RetainLoad item InFlight ∷ []) g.locked context at rows s Retained i
            (Some item) here.found named.is_row refl here.inside here.guards
            (record { each = flight_held item holds });
        starts = Takes item InFlight [] named.backs;
        follows = Nothing (inside_stays context at rows Retained);
        keeps = all_kept program g context at rows s InRange i (RetainLoad item InFlight) here (λ k object. refl);
      } in
      taken_with_row program g item (row_of rows from)
      (λ x. Does (RetainLoad x InFlight) [] (always (Inside context at rows Retained))) named.is_row taken

  -- The reference in flight goes into the cell.
  stored_held : (item : ℕ) → Holds g.bag g.thread (of_inside (call_of program context) (Some item) s rows)
      → (k : Holding) (object : ℕ)
      → held (reference_of g.thread k object) g.bag + 0
      ≡ one_if (of_variables (call_of program context) (without_items s) rows k object) + one_if
      (same_holding InFlight k && (item == object))
  stored_held item holds (ByVariable depth v) object =
      omega (
        arith,
        holds.each (ByVariable depth v) object,
        ap one_if (says-without (call_of program context) s rows (ByVariable depth v) object),
      )
  stored_held item holds AsCaller object = omega (arith, holds.each AsCaller object)
  stored_held item holds InFlight object =
      omega (arith, holds.each InFlight object, ap one_if (flip_eqb object item))

  retained_inside : (list index from otherwise : ℕ)
      → StandsInside program context g at rows s Retained (Put list index from otherwise)
      → IsTaken program g (dispatch_inside g.layout g.thread g.used context at rows Retained
      (Some (Put list index from otherwise)))
  retained_inside list index from otherwise here =
      let i = Put list index from otherwise in
      let source = named_inside program g context at rows s Retained i from here (first_false _ _ here.met.not_empty) in
      let item = source.object in
      let named =
      named_inside program g context at rows s Retained i list here
      (first_false _ _ (second_false (is_empty (var_of s from)) _ here.met.not_empty)) in
      let row = named.object in
      let has =
      uses_locked program g context at rows s Retained i list row here (not-false _ (first_false _ _ here.met.has_lock))
      named.is_row in
      let holds : Holds g.bag g.thread (of_inside (call_of program context) (Some item) s rows) =
      subst (λ (f : Option ℕ). Holds g.bag g.thread (of_inside (call_of program context) f s rows)) source.is_row
      here.holds in
      let one : held (reference_of g.thread InFlight item) g.bag ≡ 1 =
      holds.each InFlight item ∙ ap one_if (eq-eqb item item refl) in
      let after = InCall context (at + 1) rows in
      let taken : (found : ℕ) → Taken program g found after (CellSwap row index item InFlight) (Settle ∷ []) =
      λ found. record {
        placed = (
          without_items s,
          next_without program g context at rows s Retained i Success (at + 1) here (here.leads Success (at + 1) refl),
          guards-without s rows s.locked g.locked here.guards,
          record { each = stored_held item holds },
        );
        starts =
            Swaps row index item InFlight (Settle ∷ []) named.backs has (here.cell row named.is_row)
            (omega (arith, one, held-le-references_to (reference_of g.thread InFlight item) g.bag));
        follows = Settles (in_call_stays context (at + 1) rows);
        keeps = flight_kept program g context at rows s Retained i row index item here;
      } in
      taken_with_row program g row (row_of rows list)
      (λ x. with_row (row_of rows from)
      (λ y. Does (CellSwap x index y InFlight) (Settle ∷ []) (always after))) named.is_row
      (taken_with_row program g item (row_of rows from)
      (λ y. Does (CellSwap row index y InFlight) (Settle ∷ []) (always after)) source.is_row taken)

  -- ---- any stage of any instruction

  pub inside_taken : (i : Instr) (stage : Stage) → StandsInside program context g at rows s stage i
      → IsTaken program g (dispatch_inside g.layout g.thread g.used context at rows stage (Some i))
  inside_taken (Borrow to list index otherwise) InRange here =
      borrow_inside program g context at rows s to list index otherwise here
  inside_taken (Fetch to list index otherwise) InRange here =
      fetch_inside program g context at rows s to list index otherwise here
  inside_taken (Fetch to list index otherwise) (Found item) here =
      found_inside program g context at rows s to list index otherwise item here
  inside_taken (Set list index from otherwise) InRange here = set_inside list index from otherwise here
  inside_taken (Set list index from otherwise) OutOfRange here = refused_inside list index from otherwise here
  inside_taken (Put list index from otherwise) InRange here = put_inside list index from otherwise here
  inside_taken (Put list index from otherwise) Retained here = retained_inside list index from otherwise here
  inside_taken (Open to path mode otherwise) Granted here =
      open_granted program g context at rows s to path mode otherwise here
  inside_taken (Connect to peer otherwise) Granted here =
      connect_granted program g context at rows s to peer otherwise here
  inside_taken (Read to file most otherwise) Lent here =
      read_lent program g context at rows s to file most otherwise here
  inside_taken (Read to file most otherwise) (Called Success) here =
      read_returned program g context at rows s to file most otherwise here
  inside_taken (Read to file most otherwise) (Called Fault) here =
      read_failed program g context at rows s to file most otherwise here
  inside_taken (Read to file most otherwise) Granted here =
      read_granted program g context at rows s to file most otherwise here
  inside_taken (Write file number otherwise) Loaded here =
      write_loaded program g context at rows s file number otherwise here
  inside_taken (Write file number otherwise) Lent here =
      write_lent program g context at rows s file number otherwise here
  inside_taken (Write file number otherwise) (Called Success) here =
      write_returned program g context at rows s file number otherwise here
  inside_taken (Write file number otherwise) (Called Fault) here =
      write_failed program g context at rows s file number otherwise here
  inside_taken i stage here = absurd cc
