use Rattle.std.proofs.Common.{◌≡◌, ℕ, ◌<◌}
use Rattle.std.specs.Prelude.{Some}
use Rattle.brc_c_image.specs.GraphOutlines.{IsPlace, place_of}
use Rattle.brc_c_image.proofs.matching.are_places.Given as goal

-- the points in front are points of the outline, or paths pass to one
abbrev pub invariant-loop-number : goal.invariant-loop-number
invariant-loop-number l =
    (n u : ℕ) → n < l.number → place_of l.places n ≡ Some u
    → IsPlace l.rules l.graph l.found l.labels l.places n (Some u)
