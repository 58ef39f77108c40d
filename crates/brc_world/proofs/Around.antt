-- The calls open around the innermost one, the nearest first: the code has them in a vector, the nearest last.
use Rattle.std.proofs.Common.{◌≡◌, Bool, List, [], ◌∷◌, ◌++◌, length, refl, ap, ◌∙◌}
use Rattle.std.specs.Prelude.{is_some, map, reverse, ◌||◌}
use Rattle.std.specs.List.{list_any}
use Rattle.std.proofs.lemmas.List.{length-map, length-reverse, reverse-append}
use Rattle.std.proofs.lemmas.List.Sorted.{IsPermutation-reverse, list_any-IsPermutation}
use Rattle.brc_model.specs.declared.actor.OpenCall.{OpenCall as ModelCall}
use Rattle.brc_machine.specs.declared.open_call.OpenCall.{OpenCall}
use Rattle.brc_world.specs.OpenCalls.{calls_around, rows_of, names_row}
use Rattle.brc_machine.specs.OpenCalls.{open_of}

-- The last call of the vector is the nearest.
pub around_last : (calls : List OpenCall) (o : OpenCall)
    → calls_around (calls ++ o ∷ []) ≡ open_of o ∷ calls_around calls
around_last calls o = ap (map open_of) (reverse-append calls (o ∷ []))

pub around_length : (calls : List OpenCall) → length (calls_around calls) ≡ length calls
around_length calls = length-map (reverse calls) open_of ∙ length-reverse calls

any_rows : (calls : List OpenCall)
    → list_any names_row calls ≡ list_any (list_any is_some) (map rows_of (map open_of calls))
any_rows [] = refl
any_rows (o ∷ calls) = ap (λ (b : Bool). names_row o || b) (any_rows calls)

-- It doesn't matter for whether some call holds a row in which order the calls are looked at.
pub any_around : (calls : List OpenCall)
    → list_any names_row calls ≡ list_any (list_any is_some) (map rows_of (calls_around calls))
any_around calls =
    list_any-IsPermutation names_row calls (reverse calls) (IsPermutation-reverse calls) ∙ any_rows (reverse calls)

pub rows_length : (outer : List ModelCall) → length (map rows_of outer) ≡ length outer
rows_length outer = length-map outer rows_of
