use Rattle.std.proofs.Common.{◌≡◌, ◌⊎◌, ℕ, ◌<◌}
use Rattle.std.specs.Prelude.{Some, slice_get}
use Rattle.brc_c_image.specs.GraphOutlines.{IsGraphWay, GivesUp}
use Rattle.brc_c_image.proofs.matching.comes_by_ways.Given as goal

-- the ways in front are those of the search's point, or lead to where paths give up
abbrev pub invariant-loop-way : goal.invariant-loop-way
invariant-loop-way l =
    (k v : ℕ) → k < l.way-index → slice_get l.ways k ≡ Some v
    → (IsGraphWay l.found l.places l.label v ⊎ GivesUp l.outline v)
