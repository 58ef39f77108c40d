-- The condition under which a thread takes up work: its new agenda fits the place where it then is.
use Rattle.std.proofs.Common.{◌≡◌, ◌≢◌, ℕ, ◌+◌, ◌<◌, Bool, true, List, [], ◌∷◌, ◌++◌, Option, None, Some, sym, subst, arith, ◌≤◌}
use Rattle.std.specs.Prelude.{slice_get}
use Rattle.brc_lang.specs.declared.module.Instr.{Instr}
use Rattle.brc_model.specs.declared.state.State.{State}
use Rattle.brc_model.specs.declared.state.Exit.{Exit}
use Rattle.brc_model.specs.SlotStates.{after, target}
use Rattle.brc_model.specs.Paths.{At, path_end}
use Rattle.brc_model.specs.KnownKinds.{HaveTrueKinds}
use Rattle.brc_lang.specs.Grammar.{IsInstruction}
use Rattle.brc_model.specs.declared.address.Address.{Address}
use Rattle.brc_model.specs.declared.address.Address.TheVariants.{KindOf, Cell}
use Rattle.brc_model.specs.Items.{HaveItems, StageKnows}
use Rattle.brc_model.specs.declared.actor.Actor.{Actor}
use Rattle.brc_model.specs.Machine.{Machine, locked_by, has_room}
use Rattle.brc_model.proofs.Dispatch.Passing.{AreMet}
use Rattle.brc_model.proofs.Dispatch.Guards.{LocksAgree, HeldBeside}
use Rattle.brc_model.specs.declared.duty.Holding.{Holding}
use Rattle.brc_model.specs.AbstractState.{Reference, references_to, Move}
use Rattle.brc_model.specs.declared.duty.Duty.{Duty}
use Rattle.brc_model.specs.declared.duty.Duty.TheVariants.{RetainLoad, ReleaseLoad, Settle, Leave, BirthKind, KindLoad, LockGate, UnlockGate, CellLoad, CellSwap, LendField, ReturnField}
use Rattle.brc_model.specs.declared.actor.Place.{Place}
use Rattle.brc_model.specs.declared.actor.Context.{Context}
use Rattle.brc_model.specs.declared.actor.Place.TheVariants.{Idle, InCall, Inside, Exiting}
use Rattle.brc_model.specs.declared.actor.Stage.{Stage}
use Rattle.brc_model.specs.Actions.{Action, Skip, Stuck, Silent, Calls, Does, with_row}
use Rattle.brc_model.specs.References.{held, reference_of}
use Rattle.brc_model.proofs.Dispatch.Holds.{once_each, call_of, of_variables, of_inside, Holds}
use Rattle.brc_model.proofs.Dispatch.Grounded.{IsInside}
use Rattle.brc_model.proofs.Frame.Aside.{HoldsAlone}
use Rattle.brc_model.proofs.Keeping.SilentMoves.{SilentMoves, bag_after}
use Rattle.brc_model.proofs.Dispatch.Lending.{lent_to}
use Rattle.brc_model.proofs.Dispatch.Rooms.{awaits_inside}
use Rattle.brc_model.proofs.Dispatch.Coded.{has_stage, in_flight, PlaceFits}
use Rattle.brc_model.specs.Duties.{cells_of, has_resource}
use Rattle.brc_model.specs.Kinds.{kind_of_word, is_counted_kind}
use Rattle.brc_model.specs.declared.layout.Layout.{Layout}
use Rattle.brc_model.specs.Layout.{block_size, row_at}
use Rattle.brc_model.proofs.Dispatch.Programs.{Program, running, code_in, IsSound}
use Rattle.brc_model.proofs.Dispatch.Allowed.{IsAllowedIn}

-- ---- an empty agenda

pub holds_plain : (bag : List Reference) (t : ℕ) (says : Holding → ℕ → Bool) → HoldsAlone bag t (once_each says) []
    → Holds bag t says
holds_plain bag t says holds = record { each = λ k object. omega (arith, holds.each k object) }

pub holds_at_none : (bag : List Reference) (t : ℕ) (says : Holding → ℕ → Bool) → Holds bag t says
    → HoldsAlone bag t (once_each says) []
holds_at_none bag t says holds = record { each = λ k object. omega (arith, holds.each k object) }

-- ---- what a thread at rest sees

-- The bag of references, the words, and what the thread counts with.
pub record Scene : Type 0 where
  pub bag : List Reference
  pub layout : Layout
  pub memory : Address → ℕ
  pub thread : ℕ
  pub used : ℕ
  -- the row that the thread has locked
  pub locked : Option ℕ
  -- the row whose resource it has lent to a call of the host
  pub lent : Option ℕ

abbrev pub scene_of : Machine → ℕ → Actor → Scene
scene_of m t a = record {
  bag = m.abstract.references;
  layout = m.layout;
  memory = m.memory;
  thread = t;
  used = a.used;
  locked = a.locked;
  lent = a.lent;
}

-- the kind word of each row
abbrev pub words_of : Scene → ℕ → ℕ
words_of g x = g.memory (KindOf x)

-- A thread at an instruction whose conditions are met: some path reaches the point and goes on from it, and what the
-- path's state says of references, of the lock, of kinds and of items is true. The thread got to the instruction at the
-- place `before`.
pub record StandsAt (program : Program) (context : Context) (g : Scene) (before : Place) (at : ℕ)
    (rows : List (Option ℕ)) (s : State) (i : Instr) : Type 0 where
  pub sound : IsSound program
  pub found : slice_get (code_in program context) at ≡ Some i
  pub inside : IsInside (call_of program context) at rows s
  pub holds : Holds g.bag g.thread (of_variables (call_of program context) s rows)
  pub guards : LocksAgree s rows g.locked
  pub kinds : HaveTrueKinds (words_of g) s rows
  pub items : HaveItems g.memory g.locked s rows
  -- outside its instructions a thread has lent nothing
  pub unlent : g.lent ≡ None
  pub back : PlaceFits program g.bag g.thread [] g.locked before
  pub remains : before ≢ Exiting
  pub variables : IsInstruction i
  pub allowed : IsAllowedIn g.layout i
  pub met : AreMet i s
  pub leads : (exit : Exit) (next : ℕ) → target i exit at ≡ Some next
      → path_end (running program context.outer) (inside.exits ++ exit ∷ []) ≡ At next (after i exit s)

-- A thread inside an instruction: what the state before the instruction says is still true, and beside that what the
-- stage says.
pub record StandsInside (program : Program) (context : Context) (g : Scene) (at : ℕ) (rows : List (Option ℕ))
    (s : State) (stage : Stage) (i : Instr) : Type 0 where
  pub found : slice_get (code_in program context) at ≡ Some i
  pub inside : IsInside (call_of program context) at rows s
  pub holds : Holds g.bag g.thread (of_inside (call_of program context) (in_flight (Some i) stage rows) s rows)
  pub guards : LocksAgree s rows g.locked
  pub kinds : HaveTrueKinds (words_of g) s rows
  pub items : HaveItems g.memory g.locked s rows
  pub cell : StageKnows g.memory g.locked rows stage (Some i)
  pub staged : has_stage (Some i) stage ≡ true
  pub lent : g.lent ≡ lent_to stage (Some i) rows
  pub room : awaits_inside stage (Some i) ≡ true → has_room g.layout g.thread g.used ≡ true
  pub variables : IsInstruction i
  pub met : AreMet i s
  pub leads : (exit : Exit) (next : ℕ) → target i exit at ≡ Some next
      → path_end (running program context.outer) (inside.exits ++ exit ∷ []) ≡ At next (after i exit s)

-- ---- work that a thread takes up

-- The thread holds the object, or it is an item of the list that the thread has locked.
pub data Backs (g : Scene) (row : ℕ) : Type 0 where
  ByOwn : (by : Holding) → 0 < held (reference_of g.thread by row) g.bag → Backs g row
  ByList : (list cell : ℕ) → g.locked ≡ Some list → g.memory (Cell list cell) ≡ row + 1 → Backs g row

-- The first duty gives up a reference of an object that has one; makes a reference to an object, loads an object's kind
-- or locks an object that the thread may rely on; begins the birth of the next row; unlocks the list that the thread
-- has locked, or loads or swaps a cell of it; or lends the resource of the file or socket that the thread has locked,
-- or returns it.
pub data MayBegin (g : Scene) : Duty → List Duty → Type 0 where
  Gives : (row : ℕ) (h : Holding) (rest : List Duty) → 0 < references_to row g.bag
      → MayBegin g (ReleaseLoad row h) rest
  Takes : (row : ℕ) (h : Holding) (rest : List Duty) → Backs g row → MayBegin g (RetainLoad row h) rest
  Bears : (h : Holding) (w : ℕ) → g.used < block_size g.layout g.thread → cells_of w ≤ g.layout.cells
      → is_counted_kind (kind_of_word w) ≡ true
      → MayBegin g (BirthKind (row_at g.layout g.thread g.used) h w) []
  Asks : (row : ℕ) → Backs g row → MayBegin g (KindLoad row) []
  Locks : (row : ℕ) → Backs g row → g.locked ≡ None → MayBegin g (LockGate row) []
  Unlocks : (row : ℕ) → Backs g row → g.locked ≡ Some row → g.lent ≡ None → MayBegin g (UnlockGate row) []
  Loads : (row i : ℕ) → Backs g row → g.locked ≡ Some row → i < cells_of (words_of g row)
      → MayBegin g (CellLoad row i) []
  Swaps : (row i item : ℕ) (h : Holding) (rest : List Duty) → Backs g row → g.locked ≡ Some row
      → i < cells_of (words_of g row) → 0 < references_to item g.bag → MayBegin g (CellSwap row i item h) rest
  Lends : (row : ℕ) → Backs g row → g.locked ≡ Some row → g.lent ≡ None → has_resource (words_of g row) ≡ true
      → MayBegin g (LendField row) []
  Returns : (row : ℕ) → Backs g row → g.lent ≡ Some row → MayBegin g (ReturnField row) []

-- The duties after the first one settle, and leave if the thread is to leave.
pub data MayFollow (layout : Layout) (t used : ℕ) (place : Place) : List Duty → Type 0 where
  Nothing : (place ≢ Exiting) → MayFollow layout t used place []
  Settles : (place ≢ Exiting) → MayFollow layout t used place (Settle ∷ [])
  Exits : (place ≡ Exiting) → MayFollow layout t used place (Settle ∷ Leave 0 used ∷ [])

-- Work that begins with a duty, and leads the thread to a place if the duty's step finds this word. What the thread has
-- locked it still holds, whatever the duty gives up.
pub record Taken (program : Program) (g : Scene) (found : ℕ) (place : Place) (d : Duty) (rest : List Duty) : Type 0
  where
    pub placed : PlaceFits program g.bag g.thread (d ∷ rest) (locked_by g.locked d found) place
    pub starts : MayBegin g d rest
    pub follows : MayFollow g.layout g.thread g.used place rest
    pub keeps : (x : ℕ) → g.locked ≡ Some x → HeldBeside g.bag g.thread x d

pub record SilentTaken (program : Program) (g : Scene) (moves : List Move) (place : Place) : Type 0 where
  pub moves_fit : SilentMoves g.layout g.bag g.thread moves
  pub placed : PlaceFits program (bag_after g.bag moves) g.thread [] g.locked place
  pub stays : place ≢ Exiting

abbrev pub IsTaken : Program → Scene → Action → Type 0
IsTaken program g Skip = ⊥
IsTaken program g Stuck = ⊥
IsTaken program g (Silent moves place) = SilentTaken program g moves place
IsTaken program g (Calls row place) = (exit : Exit) → SilentTaken program g [] (place exit)
IsTaken program g (Does d rest place) = (found : ℕ) → Taken program g found (place found) d rest

pub taken_with_row : (program : Program) (g : Scene) (object : ℕ) (row : Option ℕ) (work : ℕ → Action)
    → row ≡ Some object → IsTaken program g (work object) → IsTaken program g (with_row row work)
taken_with_row program g object row work is taken =
    subst (λ (o : Option ℕ). IsTaken program g (with_row o work)) (sym is) taken

pub idle_stays : (left : ℕ) → Idle left ≢ Exiting
idle_stays left e = cc

pub inside_stays : (context : Context) (at : ℕ) (variables : List (Option ℕ)) (stage : Stage)
    → Inside context at variables stage ≢ Exiting
inside_stays context at variables stage e = cc

pub in_call_stays : (context : Context) (at : ℕ) (variables : List (Option ℕ))
    → InCall context at variables ≢ Exiting
in_call_stays context at variables e = cc
