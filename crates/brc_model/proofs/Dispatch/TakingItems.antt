-- The first step of each instruction that uses a cell of the locked list meets its condition: it loads the list's kind
-- word, which says whether the list has the cell.
use Rattle.std.proofs.Common.{◌≡◌, ◌≢◌, ℕ, ◌<◌, true, false, List, [], ◌∷◌, ◌++◌, length, Option, None, Some, refl, sym, ap, ◌∙◌, subst, arith}
use Rattle.std.specs.Prelude.{nat_lt, slice_get, slice_set}
use Rattle.std.proofs.lemmas.List.{length-set, length-map}
use Rattle.brc_lang.specs.declared.module.Instr.{Instr}
use Rattle.brc_lang.specs.declared.module.Instr.TheVariants.{Borrow, Fetch, Set, Put}
use Rattle.brc_model.specs.declared.state.Slot.TheVariants.{Empty}
use Rattle.brc_model.specs.declared.state.State.{State}
use Rattle.brc_model.specs.declared.state.Exit.TheVariants.{Fault}
use Rattle.brc_model.specs.declared.duty.Duty.{Duty}
use Rattle.brc_model.specs.declared.duty.Duty.TheVariants.{KindLoad}
use Rattle.brc_model.specs.declared.actor.Place.{Place}
use Rattle.brc_model.specs.declared.actor.Context.{Context}
use Rattle.brc_model.specs.declared.actor.Place.TheVariants.{InCall, Inside, Exiting}
use Rattle.brc_model.specs.declared.actor.Stage.{Stage}
use Rattle.brc_model.specs.declared.actor.Stage.TheVariants.{InRange, OutOfRange}
use Rattle.brc_model.specs.SlotStates.{var_of, is_empty, is_owned, names, put, without_item, without_items}
use Rattle.brc_model.specs.Paths.{At, path_end}
use Rattle.brc_model.specs.Threads.{row_of}
use Rattle.brc_model.specs.Duties.{cells_of}
use Rattle.brc_model.specs.AbstractState.{Reference}
use Rattle.brc_model.specs.References.{one_if}
use Rattle.brc_model.specs.Actions.{Does, with_row, by_range, dispatch_instruction}
use Rattle.brc_model.proofs.Basics.Lists.{either, first_false, second_false, some_is}
use Rattle.brc_model.proofs.Frame.Aside.{HoldsAlone}
use Rattle.brc_model.proofs.Dispatch.Holds.{once_each, Activation, of_variables, of_inside, inside_none, Holds, call_of}
use Rattle.brc_model.proofs.Dispatch.Grounded.{IsInside, grounded-put, grounded-without, says-without}
use Rattle.brc_model.proofs.Dispatch.Guards.{LocksAgree, guards-put, guards-without}
use Rattle.brc_model.proofs.Dispatch.Coded.{has_stage, in_flight, PlaceFits}
use Rattle.brc_model.proofs.Dispatch.TakingUp.{Scene, StandsAt, Backs, Asks, Nothing, Taken, IsTaken, taken_with_row, in_call_stays, inside_stays}
use Rattle.brc_model.proofs.Dispatch.OneMoreOrLess.{cleared_held}
use Rattle.brc_model.proofs.Dispatch.Standing.{named_at, keeps_all}
use Rattle.brc_model.proofs.Dispatch.Programs.{Program, running, code_in}

-- ---- a place inside an instruction

-- The place fits a thread that has got so far inside the instruction at the point.
pub inside_fits : (program : Program) (bag : List Reference) (t : ℕ) (agenda : List Duty) (locked : Option ℕ)
    (context : Context) (at : ℕ) (variables : List (Option ℕ)) (s : State) (stage : Stage) (i : Instr)
    (flight : Option ℕ)
    → slice_get (code_in program context) at ≡ Some i → in_flight (Some i) stage variables ≡ flight → has_stage (Some i)
    stage ≡ true
    → IsInside (call_of program context) at variables s → LocksAgree s variables locked
    → HoldsAlone bag t (once_each (of_inside (call_of program context) flight s variables)) agenda
    → PlaceFits program bag t agenda locked (Inside context at variables stage)
inside_fits program bag t agenda locked context at variables s stage i flight found is staged inside guards holds = (
  s,
  inside,
  guards,
  subst (λ (o : Option Instr).
      HoldsAlone bag t (once_each (of_inside (call_of program context) (in_flight o stage variables) s variables))
      agenda)
      (sym found)
      (subst (λ (f : Option ℕ). HoldsAlone bag t (once_each (of_inside (call_of program context) f s variables)) agenda)
      (sym is) holds),
  ap (λ (o : Option Instr). has_stage o stage) found ∙ staged,
)

-- A thread that has made no reference for a cell holds what its variables own.
pub holds_nothing_in_flight : (bag : List Reference) (t : ℕ) (call : Activation) (s : State)
    (variables : List (Option ℕ))
    → Holds bag t (of_variables call s variables) → Holds bag t (of_inside call None s variables)
holds_nothing_in_flight bag t call s variables holds =
    record { each = λ k object. holds.each k object ∙ ap one_if (sym (inside_none call s variables k object)) }

-- ---- the kind word is loaded

module _ {program : Program} {g : Scene} {before : Place} {context : Context} {at : ℕ} {variables : List (Option ℕ)}
    {s : State} where
  -- The thread holds what it held while it loads the list's kind word, wherever it then is.
  asks_first : (i : Instr) (list row found : ℕ) (place : Place) → StandsAt program context g before at variables s i
      → is_empty (var_of s list) ≡ false → row_of variables list ≡ Some row → (place ≢ Exiting)
      → PlaceFits program g.bag g.thread (KindLoad row ∷ []) g.locked place → Taken program g found place (KindLoad row)
      []
  asks_first i list row found place here some is stays fits =
      let named = named_at program context g before at variables s i list here some in
      let same : named.object ≡ row = some_is named.object row (sym named.is_row ∙ is) in
      record {
        placed = fits;
        starts = Asks row (subst (λ (x : ℕ). Backs g x) same named.backs);
        follows = Nothing stays;
        keeps = keeps_all program context g before at variables s i (KindLoad row) here (λ k object. refl);
      }

  -- The place inside the instruction, while the kind word is loaded.
  asks_inside : (i : Instr) (row : ℕ) (stage : Stage) → StandsAt program context g before at variables s i
      → in_flight (Some i) stage variables ≡ None → has_stage (Some i) stage ≡ true
      → PlaceFits program g.bag g.thread (KindLoad row ∷ []) g.locked (Inside context at variables stage)
  asks_inside i row stage here is staged =
      let holds = holds_nothing_in_flight g.bag g.thread (call_of program context) s variables here.holds in
      inside_fits program g.bag g.thread (KindLoad row ∷ []) g.locked context at variables s stage i None here.found is
      staged here.inside here.guards (record { each = λ k object. omega (arith, holds.each k object) })

-- The list has no such cell, so no item comes into the variable.
asks_empty : (program : Program) (g : Scene) (before : Place) (context : Context) (at : ℕ)
    (variables : List (Option ℕ)) (s : State)
    (i : Instr) (row to otherwise : ℕ)
    → (here : StandsAt program context g before at variables s i) → to < 16 → is_owned (var_of s to) ≡ false
    → names s.locked to ≡ false
    → path_end (running program context.outer) (here.inside.exits ++ Fault ∷ []) ≡ At otherwise (put s to Empty)
    → PlaceFits program g.bag g.thread (KindLoad row ∷ []) g.locked
    (InCall context otherwise (slice_set variables to None))
asks_empty program g before context at variables s i row to otherwise here low free unlocked arrived =
    let in_slots : to < length s.slots = omega (arith, low, here.inside.slots) in
    let in_rows : to < length variables = omega (arith, low, here.inside.rows) in
    let next : IsInside (call_of program context) otherwise (slice_set variables to None) (put s to Empty) = record {
      is_call = here.inside.is_call;
      exits = here.inside.exits ++ Fault ∷ [];
      arrived = arrived;
      slots = length-set s.slots to Empty ∙ here.inside.slots;
      rows = length-set variables to None ∙ here.inside.rows;
      grounded = grounded-put (call_of program context) s variables to Empty None in_slots in_rows tt
          here.inside.grounded;
    } in
    let cleared = cleared_held g.bag g.thread (call_of program context) s variables to in_slots free here.holds in (
      put s to Empty,
      next,
      guards-put s variables to Empty None s.locked g.locked unlocked here.guards,
      record { each = λ k object. omega (arith, cleared k object) },
    )

-- An instruction that brings an item into a variable: inside, or at the fault exit with an empty variable.
brings_taken : (program : Program) (g : Scene) (before : Place) (context : Context) (at : ℕ)
    (variables : List (Option ℕ)) (s : State)
    (i : Instr) (to list index otherwise : ℕ)
    → (here : StandsAt program context g before at variables s i) → to < 16 → is_owned (var_of s to) ≡ false
    → names s.locked to ≡ false → is_empty (var_of s list) ≡ false
    → in_flight (Some i) InRange variables ≡ None → has_stage (Some i) InRange ≡ true
    → path_end (running program context.outer) (here.inside.exits ++ Fault ∷ []) ≡ At otherwise (put s to Empty)
    → IsTaken program g (with_row (row_of variables list)
    (λ row. Does (KindLoad row) []
    (by_range index (Inside context at variables InRange) (InCall context otherwise (slice_set variables to None)))))
brings_taken program g before context at variables s i to list index otherwise here low free unlocked some is staged
    arrived =
    let named = named_at program context g before at variables s i list here some in
    let row = named.object in
    let outside = InCall context otherwise (slice_set variables to None) in
    let taken : (found : ℕ) → Taken program g found (by_range index (Inside context at variables InRange) outside found)
    (KindLoad row) [] = λ found.
    either (λ (place : Place). Taken program g found place (KindLoad row) []) (nat_lt index (cells_of found))
    (Inside context at variables InRange) outside
    (λ within. asks_first i list row found (Inside context at variables InRange) here some named.is_row
    (inside_stays context at variables InRange) (asks_inside i row InRange here is staged))
    (asks_first i list row found outside here some named.is_row
    (in_call_stays context otherwise (slice_set variables to None))
    (asks_empty program g before context at variables s i row to otherwise here low free unlocked arrived)) in
    taken_with_row program g row (row_of variables list)
    (λ x. Does (KindLoad x) [] (by_range index (Inside context at variables InRange) outside)) named.is_row taken

module _ {program : Program} {g : Scene} {before : Place} {context : Context} {at : ℕ} {variables : List (Option ℕ)}
    {s : State} where
  pub borrow_taken : (to list index otherwise : ℕ)
      → StandsAt program context g before at variables s (Borrow to list index otherwise)
      → IsTaken program g (dispatch_instruction g.layout g.thread g.used before context at variables
      (Some (Borrow to list index otherwise)))
  borrow_taken to list index otherwise here =
      brings_taken program g before context at variables s (Borrow to list index otherwise) to list index otherwise here
      here.variables.0 (first_false _ _ here.met.free) (first_false _ _ here.met.unlocked)
      (first_false _ _ here.met.not_empty) refl refl (here.leads Fault otherwise refl)

  pub fetch_taken : (to list index otherwise : ℕ)
      → StandsAt program context g before at variables s (Fetch to list index otherwise)
      → IsTaken program g (dispatch_instruction g.layout g.thread g.used before context at variables
      (Some (Fetch to list index otherwise)))
  fetch_taken to list index otherwise here =
      brings_taken program g before context at variables s (Fetch to list index otherwise) to list index otherwise here
      here.variables.0 (first_false _ _ here.met.free) (first_false _ _ here.met.unlocked)
      (first_false _ _ here.met.not_empty) refl refl (here.leads Fault otherwise refl)

  -- ---- an instruction that stores an item

  pub set_taken : (list index from otherwise : ℕ)
      → StandsAt program context g before at variables s (Set list index from otherwise)
      → IsTaken program g (dispatch_instruction g.layout g.thread g.used before context at variables
      (Some (Set list index from otherwise)))
  set_taken list index from otherwise here =
      let i = Set list index from otherwise in
      let some : is_empty (var_of s list) ≡ false = first_false _ _ (second_false _ _ here.met.not_empty) in
      let named = named_at program context g before at variables s i list here some in
      let row = named.object in
      let at_stage : (stage : Stage) → in_flight (Some i) stage variables ≡ None → has_stage (Some i) stage ≡ true
      → (found : ℕ) → Taken program g found (Inside context at variables stage) (KindLoad row) [] =
      λ stage is staged found.
      asks_first i list row found (Inside context at variables stage) here some named.is_row
      (inside_stays context at variables stage) (asks_inside i row stage here is staged) in
      let taken : (found : ℕ) → Taken program g found
      (by_range index (Inside context at variables InRange) (Inside context at variables OutOfRange) found)
      (KindLoad row) [] = λ found.
      either (λ (place : Place). Taken program g found place (KindLoad row) []) (nat_lt index (cells_of found))
      (Inside context at variables InRange) (Inside context at variables OutOfRange)
      (λ within. at_stage InRange refl refl found) (at_stage OutOfRange refl refl found) in
      taken_with_row program g row (row_of variables list)
      (λ x. Does (KindLoad x) []
      (by_range index (Inside context at variables InRange) (Inside context at variables OutOfRange))) named.is_row
      taken

  pub put_taken : (list index from otherwise : ℕ)
      → StandsAt program context g before at variables s (Put list index from otherwise)
      → IsTaken program g (dispatch_instruction g.layout g.thread g.used before context at variables
      (Some (Put list index from otherwise)))
  put_taken list index from otherwise here =
      let i = Put list index from otherwise in
      let some : is_empty (var_of s list) ≡ false = first_false _ _
      (second_false (is_empty (var_of s from)) _ here.met.not_empty) in
      let named = named_at program context g before at variables s i list here some in
      let row = named.object in
      let changed = without_items s in
      let next : IsInside (call_of program context) otherwise variables changed = record {
        is_call = here.inside.is_call;
        exits = here.inside.exits ++ Fault ∷ [];
        arrived = here.leads Fault otherwise refl;
        slots = length-map s.slots without_item ∙ here.inside.slots;
        rows = here.inside.rows;
        grounded = grounded-without (call_of program context) s variables here.inside.grounded;
      } in
      let outside : PlaceFits program g.bag g.thread (KindLoad row ∷ []) g.locked (InCall context otherwise variables)
      = (
        changed,
        next,
        guards-without s variables s.locked g.locked here.guards,
        record {
          each = λ k object.
              omega (
                arith,
                here.holds.each k object,
                ap one_if (says-without (call_of program context) s variables k object),
              );
        },
      ) in
      let taken : (found : ℕ)
      → Taken program g found (by_range index (Inside context at variables InRange) (InCall context otherwise variables)
      found) (KindLoad row) [] =
      λ found. either (λ (place : Place). Taken program g found place (KindLoad row) []) (nat_lt index (cells_of found))
      (Inside context at variables InRange) (InCall context otherwise variables)
      (λ within. asks_first i list row found (Inside context at variables InRange) here some named.is_row
      (inside_stays context at variables InRange) (asks_inside i row InRange here refl refl))
      (asks_first i list row found (InCall context otherwise variables) here some named.is_row
      (in_call_stays context otherwise variables) outside) in
      taken_with_row program g row (row_of variables list)
      (λ x. Does (KindLoad x) []
      (by_range index (Inside context at variables InRange) (InCall context otherwise variables))) named.is_row taken
