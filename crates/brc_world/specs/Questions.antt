-- What a step asks of the word that its duty finds or of the host, and the place where the thread goes on by the
-- answer.
use Rattle.std.specs.Prelude.{ℕ, ◌≤◌, if◌then◌else◌, List, Option, None, Some, slice_set}
use Rattle.brc_model.specs.declared.actor.Context.{Context}
use Rattle.brc_model.specs.declared.actor.Place.{Place}
use Rattle.brc_model.specs.declared.actor.Place.TheVariants.{InCall, Inside}
use Rattle.brc_model.specs.declared.actor.Stage.TheVariants.{InRange, OutOfRange, Found, Called, Granted}
use Rattle.brc_model.specs.declared.duty.Duty.{Duty}
use Rattle.brc_model.specs.declared.duty.Duty.TheVariants.{KindLoad, CellLoad}
use Rattle.brc_model.specs.declared.state.Exit.{Exit}
use Rattle.brc_model.specs.Actions.{by_exit, by_range, by_item}
use Rattle.brc_model.specs.Kinds.{same_kind, kind_of_word}
use Rattle.brc_model.specs.Limits.{total_limit}
use Rattle.brc_world.specs.declared.host_call.HostCall.{HostCall}
use Rattle.brc_world.specs.declared.host_call.HostCall.TheVariants as calls
use Rattle.brc_world.specs.declared.question.Question.{Question}
use Rattle.brc_world.specs.declared.question.Question.TheVariants as questions
use Rattle.brc_world.specs.declared.question.Outside.{Outside}
use Rattle.brc_world.specs.declared.question.Outside.TheVariants.{Empties, Releases, GoesOn}

-- the duty finds a cell's word
abbrev pub FindsItem : Duty → Type 0
FindsItem (CellLoad row cell) = Unit {0}
FindsItem _ = ⊥

-- the duty finds a kind word
abbrev pub FindsKind : Duty → Type 0
FindsKind (KindLoad row) = Unit {0}
FindsKind _ = ⊥

-- the duty finds the word that the question is about
abbrev pub IsAbout : Question → Duty → Type 0
IsAbout (questions.Kind kind otherwise) d = FindsKind d
IsAbout (questions.Range index outside) d = FindsKind d
IsAbout (questions.Borrow to otherwise) d = FindsItem d
IsAbout (questions.Fetch to otherwise) d = FindsItem d

-- the word found has an answer: if it is a cell's, it names a row
abbrev pub IsAnswerable : Question → ℕ → Type 0
IsAnswerable (questions.Kind kind otherwise) found = Unit {0}
IsAnswerable (questions.Range index outside) found = Unit {0}
IsAnswerable (questions.Borrow to otherwise) found = found ≤ total_limit
IsAnswerable (questions.Fetch to otherwise) found = found ≤ total_limit

-- the place of a thread whose list has no cell with the index
abbrev pub outside_of : Outside → Context → ℕ → List (Option ℕ) → Place
outside_of (Empties to otherwise) context at variables = InCall context otherwise (slice_set variables to None)
outside_of Releases context at variables = Inside context at variables OutOfRange
outside_of (GoesOn otherwise) context at variables = InCall context otherwise variables

-- Returns the place to which the word found leads a thread of a call in this context.
abbrev pub place_answered : Question → ℕ → Context → ℕ → List (Option ℕ) → Place
place_answered (questions.Kind kind otherwise) found context at variables =
    InCall context (if same_kind (kind_of_word found) kind then at else otherwise) variables
place_answered (questions.Range index outside) found context at variables =
    by_range index (Inside context at variables InRange) (outside_of outside context at variables) found
place_answered (questions.Borrow to otherwise) found context at variables =
    by_item (InCall context otherwise (slice_set variables to None))
    (λ item. InCall context at (slice_set variables to (Some item))) found
place_answered (questions.Fetch to otherwise) found context at variables =
    by_item (InCall context otherwise (slice_set variables to None))
    (λ item. Inside context at variables (Found item)) found

-- Returns the place of a thread whose host call has ended by the exit, in a call in this context.
abbrev pub place_called : HostCall → Exit → Context → ℕ → List (Option ℕ) → Place
place_called (calls.Asks to otherwise) exit context at variables =
    by_exit (Inside context at variables Granted) (InCall context otherwise (slice_set variables to None)) exit
place_called calls.Uses exit context at variables = Inside context at variables (Called exit)
