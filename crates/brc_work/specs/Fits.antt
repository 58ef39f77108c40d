-- What holds between a worker's variables and its hand, in each state of the checker: the hand holds what the variables
-- own, and what they borrow stays alive. So the checker's conditions are those of the calls that the worker makes.
use Rattle.std.specs.Prelude.{◌≡◌, ℕ, ◌+◌, ◌^◌, ◌<◌, ◌≤◌, ◌==◌, true, false, if◌then◌else◌, List, [], ◌∷◌, Option, None, Some, length}
use Rattle.brc_lang.specs.declared.kind.Kind.{Kind}
use Rattle.brc_lang.specs.declared.kind.Kind.TheVariants as kinds
use Rattle.brc_lang.specs.Grammar.{cells_in}
use Rattle.brc_lang.specs.declared.module.Instr.{Instr}
use Rattle.brc_lang.specs.declared.module.Instr.TheVariants.{List as ListObject, Take}
use Rattle.brc_lang.specs.declared.module.Module.{Module}
use Rattle.brc_model.specs.declared.actor.Status.TheVariants.{Running}
use Rattle.brc_model.specs.declared.state.Slot.{Slot}
use Rattle.brc_model.specs.declared.state.Slot.TheVariants.{Empty, Owned, Caller, Locked}
use Rattle.brc_model.specs.declared.state.State.{State}
use Rattle.brc_model.specs.declared.state.Exit.{Exit}
use Rattle.brc_model.specs.Kinds.{kind_of_word}
use Rattle.brc_model.specs.declared.layout.Layout.{Layout}
use Rattle.brc_model.specs.Layout.{none_row, root_row, first_immortal_list, first_number, is_immortal_row, IsCounted}
use Rattle.brc_model.specs.Items.{borrows_item}
use Rattle.brc_model.specs.SlotStates.{var_of, kind_of, is_empty, is_one_of, with_resource, lowest, after}
use Rattle.brc_model.specs.Threads.{row_of}
use Rattle.brc_table.specs.declared.view.View.{View}
use Rattle.brc_table.specs.Hands.{TableState, HandState, IsOf, Borrows, most_references}
use Rattle.brc_table.specs.KnownWords.{knows_kind}
use Rattle.brc_table.specs.Views.{holds}

-- ---- what the variables name

-- The hand knows that the object is of the kind. `Any` says nothing; none, the root and the immortal lists have their
-- kinds from the start; and of any other object the hand has seen the kind word.
pub data KnowsKind (v : View) (kind : Kind) (x : ℕ) : Type 0 where
  Unknown : kind ≡ kinds.Any → KnowsKind v kind x
  OfNone : x ≡ none_row → kind ≡ kinds.None → KnowsKind v kind x
  OfRoot : x ≡ root_row → kind ≡ kinds.List → KnowsKind v kind x
  OfImmortalList : first_immortal_list v.layout ≤ x → x < first_number v.layout → kind ≡ kinds.List
      → KnowsKind v kind x
  HasSeen : (word : ℕ) → 0 < word → knows_kind x word v ≡ true → kind_of_word word ≡ kind → KnowsKind v kind x

-- The variable names an object of the kind.
pub record Names (v : View) (kind : Kind) (row : Option ℕ) : Type 0 where
  pub object : ℕ
  pub is : row ≡ Some object
  pub knows : KnowsKind v kind object

-- The variable names an item that the hand borrows.
pub record NamesItem (v : View) (kind : Kind) (row : Option ℕ) : Type 0 where
  pub names : Names v kind row
  pub borrows : Borrows v names.object

-- The variable names an object that the caller lends. Beside what the call's variables own the hand holds this many
-- references to each object, and to that one, if it is counted, at least one.
pub record NamesLent (held : ℕ → ℕ) (v : View) (kind : Kind) (row : Option ℕ) : Type 0 where
  pub names : Names v kind row
  pub lent : IsCounted v.layout names.object → 1 ≤ held names.object

-- What the slot says of its variable is true. A slot that is empty says nothing.
abbrev pub SlotFits : (ℕ → ℕ) → View → Slot → Option ℕ → Type 0
SlotFits held v Empty row = Unit {0}
SlotFits held v (Owned kind) row = Names v kind row
SlotFits held v (Caller kind) row = NamesLent held v kind row
SlotFits held v (Locked kind) row = NamesItem v kind row

-- ---- what they own

-- how many references to object y a variable with this slot owns, if it names this row
abbrev pub owns : ℕ → Slot → Option ℕ → ℕ
owns y (Owned kind) (Some x) = if x == y then 1 else 0
owns y _ _ = 0

-- how many references to counted objects it owns
abbrev pub lists : Layout → Slot → Option ℕ → ℕ
lists layout (Owned kind) (Some x) = if is_immortal_row layout x then 0 else 1
lists layout _ _ = 0

-- the sum of a number over all variables
abbrev pub over_variables : (Slot → Option ℕ → ℕ) → List Slot → List (Option ℕ) → ℕ
over_variables f (slot ∷ slots) (row ∷ rows) = f slot row + over_variables f slots rows
over_variables f _ _ = 0

-- ---- the lock

-- The hand has locked the object of the variable, and has its field, which holds a resource if the object is known to
-- have one. The variable doesn't borrow it from a list.
pub record LockFits (first : List (ℕ × ℕ)) (s : State) (rows : List (Option ℕ)) (hand : HandState) (i : ℕ)
    : Type 0 where
  pub object : ℕ
  pub names : row_of rows i ≡ Some object
  pub lasting : borrows_item (var_of s i) ≡ false
  pub used : is_empty (var_of s i) ≡ false
  pub locked : hand.view.actor.locked ≡ Some object
  pub fields : hand.fields ≡ (object, hand.view.in_field) ∷ first
  pub resource : is_one_of (kind_of (var_of s i)) with_resource ≡ true → hand.view.in_field ≡ 1

-- What the state says of the lock is true. Without a lock the hand has the fields that it had first.
abbrev pub LocksAs : Option ℕ → List (ℕ × ℕ) → State → List (Option ℕ) → HandState → Type 0
LocksAs None first s rows hand = (hand.view.actor.locked ≡ None) × (hand.fields ≡ first)
LocksAs (Some i) first s rows hand = LockFits first s rows hand i

-- ---- the hand

-- The hand runs, has nothing to do, and its dying chain is empty.
pub record Rests (hand : HandState) : Type 0 where
  pub running : hand.view.actor.status ≡ Running
  pub agenda : hand.view.actor.agenda ≡ []
  pub aside : hand.view.actor.aside ≡ []
  pub settled : hand.view.actor.head ≡ 0

-- most of the references that a worker's hand holds as its calls begin
abbrev pub call_references : ℕ
call_references = 2 ^ 31

-- A hand that may make calls: it rests, has locked nothing, and holds the root and few references.
pub record IsReady (hand : HandState) : Type 0 where
  pub rests : Rests hand
  pub unlocked : hand.view.actor.locked ≡ None
  pub root : 1 ≤ holds hand.view root_row
  pub few : length hand.view.references < call_references

-- It is the same hand of the same table, later.
pub record IsLater (first hand : HandState) : Type 0 where
  pub table : hand.table ≡ first.table
  pub layout : hand.view.layout ≡ first.view.layout
  pub thread : hand.view.thread ≡ first.view.thread
  pub given : hand.view.given ≡ first.view.given
  pub carried : hand.carried ≡ first.carried
  pub used : first.view.actor.used ≤ hand.view.actor.used

-- What a call stands on: `first`, the hand with which the worker's call began; and what the hand holds beside what the
-- variables of this call own. `held` says of each object how many references that is, and it is no more than `most` in
-- all.
pub record Base : Type 0 where
  pub first : HandState
  pub held : ℕ → ℕ
  pub most : ℕ

-- the base of the call that begins with the hand
abbrev pub outermost : HandState → Base
outermost first = record { first = first; held = holds first.view; most = length first.view.references }

-- The variables and the hand are as the state says: beside what the base says, the hand holds what the variables own.
-- There is room for a reference by each variable, and one more.
pub record Fits (base : Base) (s : State) (rows : List (Option ℕ)) (hand : HandState) : Type 0 where
  pub ready : IsReady base.first
  pub room : base.most + 17 < most_references
  pub follows : IsLater base.first hand
  pub rests : Rests hand
  pub some_slots : length s.slots ≡ 16
  pub some_rows : length rows ≡ 16
  pub each : (i : ℕ) → SlotFits base.held hand.view (var_of s i) (row_of rows i)
  pub held : (y : ℕ) → IsCounted base.first.view.layout y
      → holds hand.view y ≡ base.held y + over_variables (owns y) s.slots rows
  pub few : length hand.view.references
      ≤ base.most + over_variables (lists base.first.view.layout) s.slots rows
  pub lock : LocksAs s.locked base.first.fields s rows hand

-- ---- the module

-- The heap has the module's static lists, and a list of it may have as many cells as the module's version allows.
pub record IsHeapOf (m : Module) (heap : TableState) : Type 0 where
  pub lines : heap.lines ≡ m.statics
  pub lists : heap.layout.immortal_lists ≡ length m.statics
  pub cells : heap.layout.cells ≡ cells_in m.version

-- The layout has room for the cells of a list that the instruction makes, and has the static list that it takes.
abbrev pub LayoutAllows : Layout → Instr → Type 0
LayoutAllows layout (ListObject to cells otherwise) = cells ≤ layout.cells
LayoutAllows layout (Take to list) = list < layout.immortal_lists
LayoutAllows layout i = Unit {0}

-- ---- instructions

-- The instruction breaks no condition in the state that the variables and the hand are in.
pub record MayDo (heap : TableState) (i : Instr) (rows : List (Option ℕ)) (hand : HandState) : Type 0 where
  pub base : Base
  pub state : State
  pub of : IsOf heap hand
  pub fits : Fits base state rows hand
  pub passes : lowest i state ≡ None

-- After this exit of the instruction the variables and the hand are in the state that it leaves.
abbrev pub HasDone : Instr → Exit → List (Option ℕ) → HandState → List (Option ℕ) → HandState → Type 0
HasDone i exit rows hand after_rows after_hand =
    (base : Base) (s : State) → Fits base s rows hand → lowest i s ≡ None
    → Fits base (after i exit s) after_rows after_hand

-- The instruction hasn't begun: whatever state they were in, they are in it still.
abbrev pub IsStill : Instr → List (Option ℕ) → HandState → HandState → Type 0
IsStill i rows hand after_hand =
    (base : Base) (s : State) → Fits base s rows hand → lowest i s ≡ None → Fits base s rows after_hand
