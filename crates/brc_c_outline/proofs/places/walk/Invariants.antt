use Rattle.std.proofs.Common.{◌≡◌}
use Rattle.std.specs.Prelude.{drop}
use Rattle.std.specs.List.{fold}
use Rattle.brc_model.specs.Paths.{At, follow}
use Rattle.brc_c_outline.specs.Outlines.{end_of}
use Rattle.brc_c_outline.proofs.places.walk.Given as goal

-- the exits that are left lead from here to where all lead from the start
abbrev pub invariant-loop-exit : goal.invariant-loop-exit
invariant-loop-exit l =
    fold (follow l.code) (end_of l.place) (drop l.exit-index l.exits)
    ≡ fold (follow l.code) (At l.fn.start l.fn.state) l.exits
