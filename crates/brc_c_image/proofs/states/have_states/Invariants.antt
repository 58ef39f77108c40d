use Rattle.std.proofs.Common.{◌≡◌, ℕ, ◌<◌}
use Rattle.std.specs.Prelude.{Some}
use Rattle.brc_c_image.specs.GraphOutlines.{HasStateAt, place_of}
use Rattle.brc_c_image.proofs.states.have_states.Given as goal

-- the outline has the states of the points in front
abbrev pub invariant-loop-number : goal.invariant-loop-number
invariant-loop-number l =
    (n u : ℕ) → n < l.number → place_of l.places n ≡ Some u → HasStateAt l.rules l.found l.outline n (Some u)
