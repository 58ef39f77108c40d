-- How a run ends whose module isn't checked before: what each ending means, its status and its line.
use Rattle.std.specs.Prelude.{ℕ, List, []}
use Rattle.brc_command.specs.declared.endings.Ending.{Ending}
use Rattle.brc_command.specs.declared.endings.Ending.TheVariants.{Whole, Wrong, Beyond}
use Rattle.brc_command.specs.WholeRuns.{bounds_text}

-- The run is whole or goes wrong, or it stops at the step of a number, as the ending says.
abbrev pub IsEnding : Type 0 → Type 0 → (ℕ → Type 0) → Ending → Type 0
IsEnding whole wrong stops_at Whole = whole
IsEnding whole wrong stops_at (Wrong text) = wrong
IsEnding whole wrong stops_at (Beyond number) = stops_at number

abbrev pub ending_status : Ending → ℕ
ending_status Whole = 0
ending_status (Wrong text) = 1
ending_status (Beyond number) = 2

-- the line on standard error
abbrev pub ending_text : Ending → List ℕ
ending_text Whole = []
ending_text (Wrong text) = text.items
ending_text (Beyond number) = bounds_text number
