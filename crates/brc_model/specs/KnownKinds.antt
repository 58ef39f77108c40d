-- What the checker says of kinds is true: the object that a variable names has the kind that the variable's state says,
-- by the kind word that the object's birth stored. (Python/C API manual, Common Object Structures: an object keeps its
-- type.)
use Rattle.std.specs.Prelude.{◌≡◌, ◌≢◌, ◌⊎◌, ℕ, ◌<◌, List, Option, Some, slice_get}
use Rattle.brc_lang.specs.declared.kind.Kind.{Kind}
use Rattle.brc_lang.specs.declared.kind.Kind.TheVariants as kinds
use Rattle.brc_lang.specs.declared.module.Function.{Function}
use Rattle.brc_model.specs.declared.state.Slot.{Slot}
use Rattle.brc_model.specs.declared.state.State.{State}
use Rattle.brc_model.specs.declared.state.Exit.{Exit}
use Rattle.brc_model.specs.declared.actor.Place.{Place}
use Rattle.brc_model.specs.declared.actor.Place.TheVariants.{Idle, InCall, Inside, Stopping, Exiting}
use Rattle.brc_model.specs.declared.address.Address.TheVariants.{KindOf}
use Rattle.brc_model.specs.declared.thread.Choice.{Choice}
use Rattle.brc_model.specs.Kinds.{kind_of_word}
use Rattle.brc_model.specs.SlotStates.{var_of, kind_of}
use Rattle.brc_model.specs.Paths.{At, path_end}
use Rattle.brc_model.specs.Threads.{function_in, row_of}
use Rattle.brc_model.specs.declared.layout.Layout.{Layout}
use Rattle.brc_model.specs.FirstRows.{first_kind_word}
use Rattle.brc_model.specs.Actions.{StepActor}
use Rattle.brc_model.specs.StepMachine.{StepMachine, next_machine}

-- The kind word names the kind. `Any` says nothing of an object.
abbrev pub IsTrueKind : Kind → ℕ → Type 0
IsTrueKind kind word = (kind ≡ kinds.Any) ⊎ (kind_of_word word ≡ kind)

-- The variable's kind is that of the row's kind word, if the variable names a row.
abbrev pub HasTrueKind : (ℕ → ℕ) → Slot → Option ℕ → Type 0
HasTrueKind words var row = (x : ℕ) → row ≡ Some x → IsTrueKind (kind_of var) (words x)

abbrev pub HaveTrueKinds : (ℕ → ℕ) → State → List (Option ℕ) → Type 0
HaveTrueKinds words s variables = (v : ℕ) → HasTrueKind words (var_of s v) (row_of variables v)

-- In a call, each variable has the kind that the state says in which paths reach the thread's point.
abbrev pub KnowsKinds : Function → (ℕ → ℕ) → Place → Type 0
KnowsKinds f words (Idle left) = Unit {0}
KnowsKinds f words (InCall context at variables) =
    (exits : List Exit) (s : State) → path_end f exits ≡ At at s → HaveTrueKinds words s variables
KnowsKinds f words (Inside context at variables stage) =
    (exits : List Exit) (s : State) → path_end f exits ≡ At at s → HaveTrueKinds words s variables
KnowsKinds f words (Stopping lock calls) = Unit {0}
KnowsKinds f words Exiting = Unit {0}

abbrev pub kind_words : StepMachine → ℕ → ℕ
kind_words m x = m.memory (KindOf x)

-- each thread's variables name objects of the kinds that the checker says
abbrev pub KindsAreKnown : StepMachine → Type 0
KindsAreKnown m =
    (t : ℕ) (a : StepActor) → slice_get m.actors t ≡ Some a
    → KnowsKinds (function_in m.functions a.function a.place) (kind_words m) a.place

-- each row that is there from the start has its first kind word
abbrev pub AreNamed : List (List ℕ) → Layout → (ℕ → ℕ) → Type 0
AreNamed lines layout words =
    (x : ℕ) → 0 < first_kind_word lines layout x → words x ≡ first_kind_word lines layout x

-- a kind word that a birth has stored stays
abbrev pub KindsStay : StepMachine → ℕ × Choice → Type 0
KindsStay m event = (x : ℕ) → kind_words m x ≢ 0 → kind_words (next_machine m event) x ≡ kind_words m x
