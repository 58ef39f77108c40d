-- A birth that a thread of accepted code takes up, by `num` or `list`, meets its condition.
use Rattle.std.proofs.Common.{◌≡◌, ℕ, ◌+◌, ◌<◌, true, false, List, [], ◌∷◌, ◌++◌, length, Option, None, Some, refl, ap, ◌∙◌, arith, ◌≤◌, Bool, cond}
use Rattle.std.specs.Prelude.{◌==◌, slice_set}
use Rattle.std.proofs.lemmas.List.{length-set}
use Rattle.std.proofs.lemmas.Bool.{ltb-true, ne_eqb}
use Rattle.brc_lang.specs.declared.module.Instr.TheVariants.{Num, List as ListObject}
use Rattle.brc_lang.specs.declared.kind.Kind.{Kind}
use Rattle.brc_lang.specs.declared.kind.Kind.TheVariants as kinds
use Rattle.brc_lang.specs.Limits.{variable_count}
use Rattle.brc_word.specs.Words.{half, kind_part, argument_part}
use Rattle.brc_model.specs.declared.state.Slot.{Slot}
use Rattle.brc_model.specs.declared.state.Slot.TheVariants.{Empty, Owned}
use Rattle.brc_model.specs.declared.state.State.{State}
use Rattle.brc_model.specs.declared.state.Exit.TheVariants.{Success, Fault}
use Rattle.brc_model.specs.SlotStates.{var_of, is_owned, put, names}
use Rattle.brc_model.specs.Paths.{At, path_end}
use Rattle.brc_model.specs.declared.duty.Duty.TheVariants.{BirthKind}
use Rattle.brc_model.specs.declared.actor.Place.{Place}
use Rattle.brc_model.specs.declared.actor.Context.{Context}
use Rattle.brc_model.specs.declared.actor.Place.TheVariants.{InCall}
use Rattle.brc_model.specs.Kinds.{kind_numbered, kind_of_word, is_counted_kind}
use Rattle.brc_model.specs.Duties.{cells_of}
use Rattle.brc_model.specs.Limits.{cell_limit}
use Rattle.brc_model.specs.Layout.{block_size, row_at}
use Rattle.brc_model.specs.Machine.{has_room}
use Rattle.brc_model.specs.Actions.{birth_action, dispatch_instruction, number_word, list_word, by_variable}
use Rattle.brc_model.proofs.Basics.Lists.{either, first_false}
use Rattle.brc_model.proofs.Keeping.SilentMoves.{Stays}
use Rattle.brc_model.proofs.Frame.Aside.{HoldsAlone}
use Rattle.brc_model.proofs.Dispatch.Holds.{once_each, of_variables, Holds, call_of}
use Rattle.brc_model.proofs.Dispatch.Grounded.{IsInside, grounded-put}
use Rattle.brc_model.proofs.Dispatch.Guards.{LocksAgree, HeldBeside, guards-put}
use Rattle.brc_model.proofs.Dispatch.TakingUp.{Scene, StandsAt, Bears, Nothing, Taken, SilentTaken, IsTaken, holds_at_none, in_call_stays}
use Rattle.brc_model.proofs.Dispatch.OneMoreOrLess.{newref_held, cleared_held}
use Rattle.brc_model.proofs.Dispatch.Standing.{keeps_all}
use Rattle.brc_model.proofs.Dispatch.Programs.{Program, running}

-- A number has no cells.
pub number_cells : (value most : ℕ) → value < half → cells_of (number_word value) ≤ most
number_cells value most low =
    let kind : (kind_part (number_word value) == 3) ≡ false =
    ne_eqb (kind_part (number_word value)) 3 (λ e. absurd (omega (arith, low, e))) in
    let none : cells_of (number_word value) ≡ 0 =
    ap (λ (b : Bool). cond b (argument_part (number_word value)) 0) kind in
    omega (arith, none)

-- A number is an object of a counted kind.
pub number_counts : (value : ℕ) → value < half → is_counted_kind (kind_of_word (number_word value)) ≡ true
number_counts value low =
    let number : kind_part (number_word value) ≡ 2 = omega (arith, low) in
    ap (λ (k : ℕ). is_counted_kind (kind_numbered k)) number

-- A list has the cells that its instruction names.
list_cells : (cells most : ℕ) → cells ≤ cell_limit → cells ≤ most → cells_of (list_word cells) ≤ most
list_cells cells most few within =
    let kind : kind_part (list_word cells) ≡ 3 = omega (arith, few) in
    let all : cells_of (list_word cells) ≡ argument_part (list_word cells) =
    ap (λ (k : ℕ). cond (k == 3) (argument_part (list_word cells)) 0) kind in
    omega (arith, few, all, within)

-- A list is an object of a counted kind.
list_counts : (cells : ℕ) → cells ≤ cell_limit → is_counted_kind (kind_of_word (list_word cells)) ≡ true
list_counts cells few =
    let list : kind_part (list_word cells) ≡ 3 = omega (arith, few) in
    ap (λ (k : ℕ). is_counted_kind (kind_numbered k)) list

-- ---- a new object

-- A thread at an instruction that makes an object of the kind word in a variable that owns nothing: on success the
-- variable owns an object of the kind, and where the thread has no row left the variable is empty.
pub record BearsAt (program : Program) (context : Context) (g : Scene) (at : ℕ) (variables : List (Option ℕ))
    (s : State)
    (to word otherwise : ℕ)
    (kind : Kind) : Type 0 where
  pub inside : IsInside (call_of program context) at variables s
  pub holds : Holds g.bag g.thread (of_variables (call_of program context) s variables)
  pub guards : LocksAgree s variables g.locked
  pub unlocked : names s.locked to ≡ false
  pub keeps : (x : ℕ) → g.locked ≡ Some x
      → HeldBeside g.bag g.thread x (BirthKind (row_at g.layout g.thread g.used) (by_variable context to) word)
  pub variable : to < variable_count
  pub free : is_owned (var_of s to) ≡ false
  pub few_cells : cells_of word ≤ g.layout.cells
  pub counted : is_counted_kind (kind_of_word word) ≡ true
  pub owned_next : path_end (running program context.outer) (inside.exits ++ Success ∷ []) ≡ At (at + 1)
      (put s to (Owned kind))
  pub empty_next : path_end (running program context.outer) (inside.exits ++ Fault ∷ []) ≡ At otherwise (put s to Empty)

pub born : (program : Program) (g : Scene) (context : Context) (at : ℕ) (variables : List (Option ℕ))
    (s : State) (to word otherwise : ℕ) (kind : Kind)
    → BearsAt program context g at variables s to word otherwise kind → has_room g.layout g.thread g.used ≡ true
    → (found : ℕ)
    → Taken program g found (InCall context (at + 1) (slice_set variables to (Some (row_at g.layout g.thread g.used))))
    (BirthKind (row_at g.layout g.thread g.used) (by_variable context to) word) []
born program g context at variables s to word otherwise kind here room found =
    let row = row_at g.layout g.thread g.used in
    let var : Slot = Owned kind in
    let in_slots : to < length s.slots = omega (arith, here.variable, here.inside.slots) in
    let in_rows : to < length variables = omega (arith, here.variable, here.inside.rows) in
    let next : IsInside (call_of program context) (at + 1) (slice_set variables to (Some row)) (put s to var) = record {
      is_call = here.inside.is_call;
      exits = here.inside.exits ++ Success ∷ [];
      arrived = here.owned_next;
      slots = length-set s.slots to var ∙ here.inside.slots;
      rows = length-set variables to (Some row) ∙ here.inside.rows;
      grounded = grounded-put (call_of program context) s variables to var (Some row) in_slots in_rows (row, refl)
          here.inside.grounded;
    } in
    let held_now : HoldsAlone g.bag g.thread (once_each (of_variables (call_of program context) (put s to var)
    (slice_set variables to (Some row))))
    (BirthKind row (by_variable context to) word ∷ []) =
    record {
      each = newref_held g.bag g.thread (call_of program context) s variables to row var in_slots in_rows
          here.free refl here.holds;
    } in
    record {
      placed = (
        put s to var,
        next,
        guards-put s variables to var (Some row) s.locked g.locked here.unlocked here.guards,
        held_now,
      );
      starts = Bears (by_variable context to) word (ltb-true g.used (block_size g.layout g.thread) room) here.few_cells
          here.counted;
      follows = Nothing (in_call_stays context (at + 1) (slice_set variables to (Some row)));
      keeps = here.keeps;
    }

-- A thread whose instruction makes no object empties the variable and goes on at the fault exit.
pub refused : (program : Program) (g : Scene) (context : Context) (at : ℕ) (variables : List (Option ℕ)) (s : State)
    (to otherwise : ℕ) → (inside : IsInside (call_of program context) at variables s)
    → Holds g.bag g.thread (of_variables (call_of program context) s variables)
    → LocksAgree s variables g.locked → names s.locked to ≡ false → to < variable_count
    → is_owned (var_of s to) ≡ false → path_end (running program context.outer) (inside.exits ++ Fault ∷ []) ≡ At
    otherwise (put s to Empty)
    → SilentTaken program g [] (InCall context otherwise (slice_set variables to None))
refused program g context at variables s to otherwise inside holds guards unlocked low free arrived =
    let in_slots : to < length s.slots = omega (arith, low, inside.slots) in
    let in_rows : to < length variables = omega (arith, low, inside.rows) in
    let next : IsInside (call_of program context) otherwise (slice_set variables to None) (put s to Empty) = record {
      is_call = inside.is_call;
      exits = inside.exits ++ Fault ∷ [];
      arrived = arrived;
      slots = length-set s.slots to Empty ∙ inside.slots;
      rows = length-set variables to None ∙ inside.rows;
      grounded = grounded-put (call_of program context) s variables to Empty None in_slots in_rows tt inside.grounded;
    } in
    let cleared : Holds g.bag g.thread (of_variables (call_of program context) (put s to Empty)
    (slice_set variables to None)) =
    record { each = cleared_held g.bag g.thread (call_of program context) s variables to in_slots free holds } in
    record {
      moves_fit = Stays;
      placed = (
        put s to Empty,
        next,
        guards-put s variables to Empty None s.locked g.locked unlocked guards,
        holds_at_none g.bag g.thread _ cleared,
      );
      stays = in_call_stays context otherwise (slice_set variables to None);
    }

-- If the thread has no room for a row, its instruction makes no object.
not_born : (program : Program) (g : Scene) (context : Context) (at : ℕ) (variables : List (Option ℕ)) (s : State)
    (to word otherwise : ℕ) (kind : Kind)
    → BearsAt program context g at variables s to word otherwise kind
    → SilentTaken program g [] (InCall context otherwise (slice_set variables to None))
not_born program g context at variables s to word otherwise kind here =
    refused program g context at variables s to otherwise here.inside here.holds here.guards here.unlocked here.variable
    here.free here.empty_next

birth_taken : (program : Program) (g : Scene) (context : Context) (at : ℕ)
    (variables : List (Option ℕ))
    (s : State) (to word otherwise : ℕ) (kind : Kind)
    → BearsAt program context g at variables s to word otherwise kind
    → IsTaken program g (birth_action g.layout g.thread g.used context at variables to word otherwise)
birth_taken program g context at variables s to word otherwise kind here =
    either (IsTaken program g) (has_room g.layout g.thread g.used) _ _
    (λ room found. born program g context at variables s to word otherwise kind here room found)
    (not_born program g context at variables s to word otherwise kind here)

module _ {program : Program} {g : Scene} {before : Place} {context : Context} {at : ℕ} {variables : List (Option ℕ)}
    {s : State} where
  pub num_taken : (to value otherwise : ℕ) → StandsAt program context g before at variables s (Num to value otherwise)
      → IsTaken program g (dispatch_instruction g.layout g.thread g.used before context at variables
      (Some (Num to value otherwise)))
  num_taken to value otherwise here =
      birth_taken program g context at variables s to (number_word value) otherwise kinds.Num (record {
        inside = here.inside;
        holds = here.holds;
        guards = here.guards;
        unlocked = first_false _ _ here.met.unlocked;
        keeps = keeps_all program context g before at variables s (Num to value otherwise)
            (BirthKind (row_at g.layout g.thread g.used) (by_variable context to) (number_word value)) here
            (λ k object. refl);
        variable = here.variables.0;
        free = first_false _ _ here.met.free;
        few_cells = number_cells value g.layout.cells here.variables.1;
        counted = number_counts value here.variables.1;
        owned_next = here.leads Success (at + 1) refl;
        empty_next = here.leads Fault otherwise refl;
      })

  pub list_taken : (to cells otherwise : ℕ)
      → StandsAt program context g before at variables s (ListObject to cells otherwise)
      → IsTaken program g (dispatch_instruction g.layout g.thread g.used before context at variables
      (Some (ListObject to cells otherwise)))
  list_taken to cells otherwise here =
      birth_taken program g context at variables s to (list_word cells) otherwise kinds.List (record {
        inside = here.inside;
        holds = here.holds;
        guards = here.guards;
        unlocked = first_false _ _ here.met.unlocked;
        keeps = keeps_all program context g before at variables s (ListObject to cells otherwise)
            (BirthKind (row_at g.layout g.thread g.used) (by_variable context to) (list_word cells)) here
            (λ k object. refl);
        variable = here.variables.0;
        free = first_false _ _ here.met.free;
        few_cells = list_cells cells g.layout.cells (omega (arith, here.variables.2)) here.allowed;
        counted = list_counts cells (omega (arith, here.variables.2));
        owned_next = here.leads Success (at + 1) refl;
        empty_next = here.leads Fault otherwise refl;
      })
