-- The path of the exits so far stands there.
use Rattle.std.proofs.Common.{◌≡◌, take}
use Rattle.brc_model.specs.Paths.{path_end}
use Rattle.brc_explain.specs.Walking.{place_of}
use Rattle.brc_explain.proofs.walking.reached.Given as goal

abbrev pub invariant-loop-exit : goal.invariant-loop-exit
invariant-loop-exit l = l.place ≡ place_of (path_end l.function (take l.exit-index l.exits))
