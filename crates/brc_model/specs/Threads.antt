-- What the calls of a thread run, and what their variables name.
use Rattle.std.specs.Prelude.{ℕ, List, [], ◌∷◌, Option, None, Some, replicate, slice_get}
use Rattle.std.specs.List.{slice_index_or}
use Rattle.brc_lang.specs.declared.module.Function.{Function}
use Rattle.brc_model.specs.declared.actor.OpenCall.{OpenCall}
use Rattle.brc_model.specs.declared.actor.Place.{Place}
use Rattle.brc_model.specs.declared.actor.Place.TheVariants.{Idle, InCall, Inside, Stopping, Exiting}
use Rattle.brc_model.specs.Layout.{root_row}

-- ---- functions

-- the function, or one without code if there is none
abbrev pub function_of : Option Function → Function
function_of None = record { name = []; parameters = []; code = [] }
function_of (Some f) = f

-- the function of the number
abbrev pub function_at : List Function → ℕ → Function
function_at functions number = function_of (slice_get functions number)

-- the number of the function that a call runs, where a thread calls `first` itself and these calls are open around the
-- call: the nearest of them has made it
abbrev pub number_under : ℕ → List OpenCall → ℕ
number_under first [] = first
number_under first (o ∷ outer) = o.callee

-- the calls that are open around the innermost one
abbrev pub outer_of : Place → List OpenCall
outer_of (Idle left) = []
outer_of (InCall context at variables) = context.outer
outer_of (Inside context at variables stage) = context.outer
outer_of (Stopping lock calls) = []
outer_of Exiting = []

-- the number of the function that the innermost call runs
abbrev pub number_in : ℕ → Place → ℕ
number_in first place = number_under first (outer_of place)

-- the function that the innermost call runs
abbrev pub function_in : List Function → ℕ → Place → Function
function_in functions first place = function_at functions (number_in first place)

-- ---- variables

-- the row that the variable names, or none if it is empty
abbrev pub row_of : List (Option ℕ) → ℕ → Option ℕ
row_of variables x = slice_index_or variables x None

-- at the start of an outermost call v0 names the root, and the other variables are empty
abbrev pub entry_variables : List (Option ℕ)
entry_variables = Some root_row ∷ replicate 15 None
