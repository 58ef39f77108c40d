-- The calls that are open around a thread's innermost one, and the mode of a thread that has stopped.
use Rattle.std.specs.Prelude.{◌≡◌, ℕ, Bool, true, ◌||◌, if◌then◌else◌, List, [], ◌∷◌, map, reverse, Option, is_some}
use Rattle.std.specs.List.{list_any}
use Rattle.brc_model.specs.declared.actor.OpenCall.{OpenCall as ModelCall}
use Rattle.brc_lang.specs.declared.module.Function.{Function}
use Rattle.brc_model.specs.declared.state.State.{State}
use Rattle.brc_model.specs.Threads.{number_under}
use Rattle.brc_model.specs.Stops.{holds_some, waiting_state}
use Rattle.brc_machine.specs.declared.open_call.OpenCall.{OpenCall}
use Rattle.brc_machine.specs.OpenCalls.{open_of}
use Rattle.brc_world.specs.declared.thread.Mode.{Mode}
use Rattle.brc_world.specs.declared.thread.Mode.TheVariants as modes

-- the model's open calls; the nearest is the last one of the code's vector
abbrev pub calls_around : List OpenCall → List ModelCall
calls_around outer = map open_of (reverse outer)

-- These states say in which state each of the open calls waits, where the thread calls `first` from outside.
abbrev pub AreKnown : List Function → (ℕ → ℕ → Option State) → ℕ → List ModelCall → Type 0
AreKnown functions states first [] = Unit {0}
AreKnown functions states first (o ∷ outer) =
    (is_some (waiting_state functions states (number_under first outer) o) ≡ true)
    × AreKnown functions states first outer

-- the rows that the variables of an open call name
abbrev pub rows_of : ModelCall → List (Option ℕ)
rows_of o = o.variables

-- the call's variables name some row
abbrev pub names_row : OpenCall → Bool
names_row o = list_any is_some o.variables

-- the rows that the variables of each call name, where the innermost one has these variables
abbrev pub all_rows : List (Option ℕ) → List ModelCall → List (List (Option ℕ))
all_rows variables outer = variables ∷ map rows_of outer

-- some variable of a call names a row
abbrev pub holds_rows : List (Option ℕ) → List ModelCall → Bool
holds_rows variables outer = holds_some (all_rows variables outer)

-- with a row to unlock, or a variable that names a row, the thread is stopping, and else it is done with its calls
abbrev pub mode_stopped : Option ℕ → List (List (Option ℕ)) → Mode
mode_stopped lock calls = if is_some lock || holds_some calls then modes.Stopping lock else modes.Idle
