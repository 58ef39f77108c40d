-- What a thread takes up at an instruction that calls the host meets its condition: `open` and `connect` ask for a
-- resource and make an object of it; `read` and `write` lend the resource of the file or socket to the call.
use Rattle.std.proofs.Common.{◌≡◌, ℕ, ◌+◌, ◌<◌, Bool, true, false, cond, List, [], ◌∷◌, ◌++◌, inl, inr, Option, None, Some, refl, sym, ap, ◌∙◌, arith}
use Rattle.std.specs.Prelude.{◌==◌, ◌||◌, ◌≤◌, slice_get, slice_set}
use Rattle.std.proofs.lemmas.Bool.{not-false}
use Rattle.brc_lang.specs.declared.module.Instr.{Instr}
use Rattle.brc_lang.specs.declared.module.Instr.TheVariants.{Open, Connect, Read, Write}
use Rattle.brc_lang.specs.declared.mode.Mode.{Mode}
use Rattle.brc_lang.specs.declared.kind.Kind.{Kind}
use Rattle.brc_lang.specs.declared.kind.Kind.TheVariants as kinds
use Rattle.brc_word.specs.Words.{kind_part}
use Rattle.brc_model.specs.declared.state.Slot.TheVariants.{Empty, Owned}
use Rattle.brc_model.specs.declared.state.State.{State}
use Rattle.brc_model.specs.declared.state.Exit.{Exit}
use Rattle.brc_model.specs.declared.state.Exit.TheVariants.{Success, Fault}
use Rattle.brc_model.specs.declared.duty.Duty.TheVariants.{BirthKind, KindLoad, LendField, ReturnField}
use Rattle.brc_model.specs.declared.actor.Place.{Place}
use Rattle.brc_model.specs.declared.actor.Context.{Context}
use Rattle.brc_model.specs.declared.actor.Place.TheVariants.{InCall, Inside}
use Rattle.brc_model.specs.declared.actor.Stage.{Stage}
use Rattle.brc_model.specs.declared.actor.Stage.TheVariants.{Loaded, Lent, Called, Granted}
use Rattle.brc_model.specs.Kinds.{kind_numbered, kind_of_word, is_counted_kind}
use Rattle.brc_model.specs.SlotStates.{var_of, is_empty, is_owned, kind_of, names, put, is_one_of, with_resource}
use Rattle.brc_model.specs.Paths.{At, path_end}
use Rattle.brc_model.specs.Threads.{row_of}
use Rattle.brc_model.specs.KnownKinds.{IsTrueKind}
use Rattle.brc_model.specs.Duties.{cells_of, has_resource}
use Rattle.brc_model.specs.Layout.{row_at}
use Rattle.brc_model.specs.Machine.{has_room}
use Rattle.brc_model.specs.Actions.{Does, Silent, always, number_word, file_word, sock_word, grant_action, granted_birth, lend_action, return_action, dispatch_instruction, dispatch_inside, by_variable}
use Rattle.brc_model.proofs.Basics.Lists.{either, first_false, second_false}
use Rattle.brc_model.proofs.Keeping.SilentMoves.{Stays}
use Rattle.brc_model.proofs.Dispatch.Holds.{of_variables, of_inside, Holds, call_of}
use Rattle.brc_model.proofs.Dispatch.Grounded.{IsInside}
use Rattle.brc_model.proofs.Dispatch.Guards.{LocksAgree, HeldBeside, guards_row}
use Rattle.brc_model.proofs.Dispatch.Lending.{lent_to}
use Rattle.brc_model.proofs.Dispatch.Coded.{has_stage, in_flight, fits_with}
use Rattle.brc_model.proofs.Dispatch.Decided.{exit_decides}
use Rattle.brc_model.proofs.Dispatch.TakingUp.{Scene, words_of, StandsAt, StandsInside, Backs, Asks, Lends, Returns, Nothing, Taken, SilentTaken, IsTaken, taken_with_row, holds_at_none, in_call_stays, inside_stays}
use Rattle.brc_model.proofs.Dispatch.Standing.{named_at, keeps_all}
use Rattle.brc_model.proofs.Dispatch.TakingBirths.{born, refused, number_cells, number_counts}
use Rattle.brc_model.proofs.Dispatch.TakingItems.{inside_fits, holds_nothing_in_flight}
use Rattle.brc_model.proofs.Dispatch.TakingInside.{holds_still, named_inside, all_kept}
use Rattle.brc_model.proofs.Dispatch.Programs.{Program, running, code_in}

-- ---- which objects have a resource

numbered_resource : (n : ℕ) → is_one_of (kind_numbered n) with_resource ≡ true → ((n == 4) || (n == 5)) ≡ true
numbered_resource n can =
    let other : Kind → Type 0 = λ k. is_one_of k with_resource ≡ false in
    elim (n == 4) as (λ b. (n == 4) ≡ b → (b || (n == 5)) ≡ true) [
      | true ↦ λ four. refl
      | false ↦
          λ four.
          elim (n == 5) as (λ b. (n == 5) ≡ b → b ≡ true) [
            | true ↦ λ five. refl
            | false ↦
                λ five.
                let rest : other (cond (n == 4) kinds.File (cond (n == 5) kinds.Sock kinds.Any)) =
                ap (λ (b : Bool). is_one_of (cond b kinds.File (cond (n == 5) kinds.Sock kinds.Any)) with_resource) four
                ∙ ap (λ (b : Bool). is_one_of (cond b kinds.Sock kinds.Any) with_resource) five in
                let none : other (kind_numbered n) =
                either other (n == 1) kinds.None _ (λ e. refl)
                (either other (n == 2) kinds.Num _ (λ e. refl) (either other (n == 3) kinds.List _ (λ e. refl) rest)) in
                sym none ∙ can
          ] refl
    ] refl

-- If the checker knows that an object is a file or a socket, its kind word says that it has a resource.
pub resource_word : (kind : Kind) (word : ℕ) → IsTrueKind kind word → is_one_of kind with_resource ≡ true
    → has_resource word ≡ true
resource_word kind word (inl any) can =
    absurd (let wrong : false ≡ true = sym (ap (λ (k : Kind). is_one_of k with_resource) any) ∙ can in cc)
resource_word kind word (inr names) can =
    numbered_resource (kind_part word) (ap (λ (k : Kind). is_one_of k with_resource) names ∙ can)

-- A thread that holds what its variables own, at an instruction or inside it.
record Rests (program : Program) (context : Context) (g : Scene) (at : ℕ) (rows : List (Option ℕ)) (s : State)
    (i : Instr) : Type 0 where
  found : slice_get (code_in program context) at ≡ Some i
  inside : IsInside (call_of program context) at rows s
  guards : LocksAgree s rows g.locked
  holds : Holds g.bag g.thread (of_variables (call_of program context) s rows)

module _ (program : Program) (g : Scene) (context : Context) (at : ℕ) (rows : List (Option ℕ)) (s : State) where
  abbrev rests_at : (before : Place) (i : Instr) → StandsAt program context g before at rows s i
      → Rests program context g at rows s i
  rests_at before i here =
      record { found = here.found; inside = here.inside; guards = here.guards; holds = here.holds }

  abbrev rests_within : (stage : Stage) (i : Instr) → StandsInside program context g at rows s stage i
      → in_flight (Some i) stage rows ≡ None → Rests program context g at rows s i
  rests_within stage i here none = record {
    found = here.found;
    inside = here.inside;
    guards = here.guards;
    holds = holds_still program g context at rows s stage i here none;
  }

  -- ---- places

  -- The place inside the instruction.
  at_stage : (stage : Stage) (i : Instr) → Rests program context g at rows s i → in_flight (Some i) stage rows ≡ None
      → has_stage (Some i) stage ≡ true → SilentTaken program g [] (Inside context at rows stage)
  at_stage stage i here none staged = record {
    moves_fit = Stays;
    placed =
        inside_fits program g.bag g.thread [] g.locked context at rows s stage i None here.found none staged here.inside
        here.guards
        (holds_at_none g.bag g.thread (of_inside (call_of program context) None s rows)
        (holds_nothing_in_flight g.bag g.thread (call_of program context) s rows here.holds));
    stays = inside_stays context at rows stage;
  }

  -- The next point, where the variables are as they were.
  at_next : (i : Instr) (exit : Exit) (next : ℕ) → (here : Rests program context g at rows s i)
      → path_end (running program context.outer) (here.inside.exits ++ exit ∷ []) ≡ At next s → SilentTaken program g []
      (InCall context next rows)
  at_next i exit next here arrived =
      let inside : IsInside (call_of program context) next rows s = record {
        is_call = here.inside.is_call;
        exits = here.inside.exits ++ exit ∷ [];
        arrived = arrived;
        slots = here.inside.slots;
        rows = here.inside.rows;
        grounded = here.inside.grounded;
      } in
      record {
        moves_fit = Stays;
        placed = (
          s,
          inside,
          here.guards,
          holds_at_none g.bag g.thread (of_variables (call_of program context) s rows)
              here.holds,
        );
        stays = in_call_stays context next rows;
      }

  -- The other point, where the variable is empty.
  at_other : (i : Instr) (to otherwise : ℕ) → (here : Rests program context g at rows s i) → names s.locked to ≡ false
      → to < 16
      → is_owned (var_of s to) ≡ false
      → path_end (running program context.outer) (here.inside.exits ++ Fault ∷ []) ≡ At otherwise (put s to Empty)
      → SilentTaken program g [] (InCall context otherwise (slice_set rows to None))
  at_other i to otherwise here unlocked low free arrived =
      refused program g context at rows s to otherwise here.inside here.holds here.guards unlocked low free arrived

  -- ---- a resource that the host grants

  grant_taken : (i : Instr) (to otherwise : ℕ) → (here : Rests program context g at rows s i) → names s.locked to
      ≡ false
      → to < 16
      → is_owned (var_of s to) ≡ false → in_flight (Some i) Granted rows ≡ None → has_stage (Some i) Granted ≡ true
      → path_end (running program context.outer) (here.inside.exits ++ Fault ∷ []) ≡ At otherwise (put s to Empty)
      → IsTaken program g (grant_action g.layout g.thread g.used context at rows to otherwise)
  grant_taken i to otherwise here unlocked low free none staged arrived =
      let other = at_other i to otherwise here unlocked low free arrived in
      either (IsTaken program g) (has_room g.layout g.thread g.used) _ _
      (λ room. exit_decides (SilentTaken program g []) (Inside context at rows Granted)
      (InCall context otherwise (slice_set rows to None)) (at_stage Granted i here none staged) other) other

  granted_taken : (i : Instr) (to word otherwise : ℕ) (kind : Kind)
      → (here : StandsInside program context g at rows s Granted i) → in_flight (Some i) Granted rows ≡ None
      → names s.locked to ≡ false → to < 16 → is_owned (var_of s to) ≡ false → cells_of word ≤ g.layout.cells
      → is_counted_kind (kind_of_word word) ≡ true
      → path_end (running program context.outer) (here.inside.exits ++ Success ∷ []) ≡ At (at + 1)
      (put s to (Owned kind))
      → path_end (running program context.outer) (here.inside.exits ++ Fault ∷ []) ≡ At otherwise (put s to Empty)
      → IsTaken program g (granted_birth g.layout g.thread g.used context at rows to word)
  granted_taken i to word otherwise kind here none unlocked low free few counted owned empty = λ found.
      born program g context at rows s to word otherwise kind (record {
        inside = here.inside;
        holds = holds_still program g context at rows s Granted i here none;
        guards = here.guards;
        unlocked = unlocked;
        keeps = all_kept program g context at rows s Granted i
            (BirthKind (row_at g.layout g.thread g.used) (by_variable context to) word) here (λ k object. refl);
        variable = low;
        free = free;
        few_cells = few;
        counted = counted;
        owned_next = owned;
        empty_next = empty;
      }) (here.room refl) found

  -- ---- a resource that is lent

  lend_taken : (i : Instr) (file row : ℕ) → Rests program context g at rows s i → row_of rows file ≡ Some row → Backs g
      row
      → names s.locked file ≡ true → g.lent ≡ None → has_resource (words_of g row) ≡ true
      → in_flight (Some i) Lent rows ≡ None → has_stage (Some i) Lent ≡ true
      → ((x : ℕ) → g.locked ≡ Some x → HeldBeside g.bag g.thread x (LendField row))
      → IsTaken program g (lend_action context at rows file)
  lend_taken i file row here is backs this unlent some none staged keeps =
      let place = Inside context at rows Lent in
      let there = at_stage Lent i here none staged in
      let taken : (found : ℕ) → Taken program g found place (LendField row) [] = λ found. record {
        placed = fits_with program g.bag g.thread (LendField row ∷ []) g.locked place (λ k object. refl)
            (λ k object. refl)
            there.placed;
        starts = Lends row backs (guards_row s rows file row s.locked g.locked this is here.guards) unlent some;
        follows = Nothing (inside_stays context at rows Lent);
        keeps = keeps;
      } in
      taken_with_row program g row (row_of rows file) (λ x. Does (LendField x) [] (always place)) is taken

  return_taken : (stage : Stage) (i : Instr) (file : ℕ) (place : Place) → StandsInside program context g at rows s stage
      i
      → is_empty (var_of s file) ≡ false → lent_to stage (Some i) rows ≡ row_of rows file
      → SilentTaken program g [] place → IsTaken program g (return_action rows file place)
  return_taken stage i file place here some lends there =
      let named = named_inside program g context at rows s stage i file here some in
      let row = named.object in
      let taken : (found : ℕ) → Taken program g found place (ReturnField row) [] = λ found. record {
        placed = fits_with program g.bag g.thread (ReturnField row ∷ []) g.locked place (λ k object. refl)
            (λ k object. refl) there.placed;
        starts = Returns row named.backs (here.lent ∙ lends ∙ named.is_row);
        follows = Nothing there.stays;
        keeps = all_kept program g context at rows s stage i (ReturnField row) here (λ k object. refl);
      } in
      taken_with_row program g row (row_of rows file) (λ x. Does (ReturnField x) [] (always place)) named.is_row taken

  -- ---- open and connect

  pub open_taken : (before : Place) (to path : ℕ) (mode : Mode) (otherwise : ℕ)
      → StandsAt program context g before at rows s (Open to path mode otherwise)
      → IsTaken program g (dispatch_instruction g.layout g.thread g.used before context at rows
      (Some (Open to path mode otherwise)))
  open_taken before to path mode otherwise here =
      let i = Open to path mode otherwise in
      grant_taken i to otherwise (rests_at before i here) (first_false _ _ here.met.unlocked) here.variables.0
      (first_false _ _ here.met.free) refl refl (here.leads Fault otherwise refl)

  pub connect_taken : (before : Place) (to peer otherwise : ℕ)
      → StandsAt program context g before at rows s (Connect to peer otherwise)
      → IsTaken program g (dispatch_instruction g.layout g.thread g.used before context at rows
      (Some (Connect to peer otherwise)))
  connect_taken before to peer otherwise here =
      let i = Connect to peer otherwise in
      grant_taken i to otherwise (rests_at before i here) (first_false _ _ here.met.unlocked) here.variables.0
      (first_false _ _ here.met.free) refl refl (here.leads Fault otherwise refl)

  pub open_granted : (to path : ℕ) (mode : Mode) (otherwise : ℕ)
      → StandsInside program context g at rows s Granted (Open to path mode otherwise)
      → IsTaken program g (dispatch_inside g.layout g.thread g.used context at rows Granted
      (Some (Open to path mode otherwise)))
  open_granted to path mode otherwise here =
      granted_taken (Open to path mode otherwise) to file_word otherwise kinds.File here refl
      (first_false _ _ here.met.unlocked) here.variables.0 (first_false _ _ here.met.free) (omega arith) refl
      (here.leads Success (at + 1) refl) (here.leads Fault otherwise refl)

  pub connect_granted : (to peer otherwise : ℕ) → StandsInside program context g at rows s Granted
      (Connect to peer otherwise)
      → IsTaken program g (dispatch_inside g.layout g.thread g.used context at rows Granted
      (Some (Connect to peer otherwise)))
  connect_granted to peer otherwise here =
      granted_taken (Connect to peer otherwise) to sock_word otherwise kinds.Sock here refl
      (first_false _ _ here.met.unlocked) here.variables.0 (first_false _ _ here.met.free) (omega arith) refl
      (here.leads Success (at + 1) refl) (here.leads Fault otherwise refl)

  -- ---- read

  pub read_taken : (before : Place) (to file most otherwise : ℕ)
      → StandsAt program context g before at rows s (Read to file most otherwise)
      → IsTaken program g (dispatch_instruction g.layout g.thread g.used before context at rows
      (Some (Read to file most otherwise)))
  read_taken before to file most otherwise here =
      let i = Read to file most otherwise in
      let rests = rests_at before i here in
      let named = named_at program context g before at rows s i file here (first_false _ _ here.met.not_empty) in
      let row = named.object in
      either (IsTaken program g) (has_room g.layout g.thread g.used) (lend_action context at rows file)
      (Silent [] (InCall context otherwise (slice_set rows to None)))
      (λ room.
      lend_taken i file row rests named.is_row named.backs (not-false _ (first_false _ _ here.met.has_lock)) here.unlent
      (resource_word (kind_of (var_of s file)) (words_of g row) (here.kinds file row named.is_row)
      (not-false _ (first_false _ _ here.met.right_kind))) refl refl
      (keeps_all program context g before at rows s i (LendField row) here (λ k object. refl)))
      (at_other i to otherwise rests (first_false _ _ here.met.unlocked) here.variables.0
      (first_false _ _ here.met.free)
      (here.leads Fault otherwise refl))

  pub read_lent : (to file most otherwise : ℕ) → StandsInside program context g at rows s Lent
      (Read to file most otherwise)
      → IsTaken program g (dispatch_inside g.layout g.thread g.used context at rows Lent
      (Some (Read to file most otherwise)))
  read_lent to file most otherwise here = λ exit.
      let i = Read to file most otherwise in
      at_stage (Called exit) i (rests_within Lent i here refl) refl refl

  pub read_returned : (to file most otherwise : ℕ)
      → StandsInside program context g at rows s (Called Success) (Read to file most otherwise)
      → IsTaken program g (dispatch_inside g.layout g.thread g.used context at rows (Called Success)
      (Some (Read to file most otherwise)))
  read_returned to file most otherwise here =
      let i = Read to file most otherwise in
      return_taken (Called Success) i file (Inside context at rows Granted) here (first_false _ _ here.met.not_empty)
      refl (at_stage Granted i (rests_within (Called Success) i here refl) refl refl)

  pub read_failed : (to file most otherwise : ℕ)
      → StandsInside program context g at rows s (Called Fault) (Read to file most otherwise)
      → IsTaken program g (dispatch_inside g.layout g.thread g.used context at rows (Called Fault)
      (Some (Read to file most otherwise)))
  read_failed to file most otherwise here =
      let i = Read to file most otherwise in
      return_taken (Called Fault) i file (InCall context otherwise (slice_set rows to None)) here
      (first_false _ _ here.met.not_empty) refl
      (at_other i to otherwise (rests_within (Called Fault) i here refl) (first_false _ _ here.met.unlocked)
      here.variables.0 (first_false _ _ here.met.free) (here.leads Fault otherwise refl))

  pub read_granted : (to file most otherwise : ℕ) → StandsInside program context g at rows s Granted
      (Read to file most otherwise)
      → IsTaken program g (dispatch_inside g.layout g.thread g.used context at rows Granted
      (Some (Read to file most otherwise)))
  read_granted to file most otherwise here =
      granted_taken (Read to file most otherwise) to (number_word 0) otherwise kinds.Num here refl
      (first_false _ _ here.met.unlocked) here.variables.0 (first_false _ _ here.met.free)
      (number_cells 0 g.layout.cells (omega arith)) (number_counts 0 (omega arith)) (here.leads Success (at + 1) refl)
      (here.leads Fault otherwise refl)

  -- ---- write

  pub write_taken : (before : Place) (file number otherwise : ℕ)
      → StandsAt program context g before at rows s (Write file number otherwise)
      → IsTaken program g (dispatch_instruction g.layout g.thread g.used before context at rows
      (Some (Write file number otherwise)))
  write_taken before file number otherwise here =
      let i = Write file number otherwise in
      let place = Inside context at rows Loaded in
      let named = named_at program context g before at rows s i number here
      (first_false _ _ (second_false (is_empty (var_of s file)) _ here.met.not_empty)) in
      let row = named.object in
      let there = at_stage Loaded i (rests_at before i here) refl refl in
      let taken : (found : ℕ) → Taken program g found place (KindLoad row) [] = λ found. record {
        placed = fits_with program g.bag g.thread (KindLoad row ∷ []) g.locked place (λ k object. refl)
            (λ k object. refl)
            there.placed;
        starts = Asks row named.backs;
        follows = Nothing (inside_stays context at rows Loaded);
        keeps = keeps_all program context g before at rows s i (KindLoad row) here (λ k object. refl);
      } in
      taken_with_row program g row (row_of rows number) (λ x. Does (KindLoad x) [] (always place)) named.is_row taken

  pub write_loaded : (file number otherwise : ℕ) → StandsInside program context g at rows s Loaded
      (Write file number otherwise)
      → IsTaken program g (dispatch_inside g.layout g.thread g.used context at rows Loaded
      (Some (Write file number otherwise)))
  write_loaded file number otherwise here =
      let i = Write file number otherwise in
      let named = named_inside program g context at rows s Loaded i file here (first_false _ _ here.met.not_empty) in
      let row = named.object in
      lend_taken i file row (rests_within Loaded i here refl) named.is_row named.backs
      (not-false _ (first_false _ _ here.met.has_lock)) here.lent
      (resource_word (kind_of (var_of s file)) (words_of g row) (here.kinds file row named.is_row)
      (not-false _ (first_false _ _ here.met.right_kind))) refl refl
      (all_kept program g context at rows s Loaded i (LendField row) here (λ k object. refl))

  pub write_lent : (file number otherwise : ℕ) → StandsInside program context g at rows s Lent
      (Write file number otherwise)
      → IsTaken program g (dispatch_inside g.layout g.thread g.used context at rows Lent
      (Some (Write file number otherwise)))
  write_lent file number otherwise here = λ exit.
      let i = Write file number otherwise in
      at_stage (Called exit) i (rests_within Lent i here refl) refl refl

  pub write_returned : (file number otherwise : ℕ)
      → StandsInside program context g at rows s (Called Success) (Write file number otherwise)
      → IsTaken program g (dispatch_inside g.layout g.thread g.used context at rows (Called Success)
      (Some (Write file number otherwise)))
  write_returned file number otherwise here =
      let i = Write file number otherwise in
      return_taken (Called Success) i file (InCall context (at + 1) rows) here (first_false _ _ here.met.not_empty)
      refl (at_next i Success (at + 1) (rests_within (Called Success) i here refl) (here.leads Success (at + 1) refl))

  pub write_failed : (file number otherwise : ℕ)
      → StandsInside program context g at rows s (Called Fault) (Write file number otherwise)
      → IsTaken program g (dispatch_inside g.layout g.thread g.used context at rows (Called Fault)
      (Some (Write file number otherwise)))
  write_failed file number otherwise here =
      let i = Write file number otherwise in
      return_taken (Called Fault) i file (InCall context otherwise rows) here (first_false _ _ here.met.not_empty)
      refl (at_next i Fault otherwise (rests_within (Called Fault) i here refl) (here.leads Fault otherwise refl))
