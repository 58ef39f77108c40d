-- Where a path stands, as far as it goes from point to point.
use Rattle.std.specs.Prelude.{ℕ, List, Option, None, Some}
use Rattle.brc_lang.specs.declared.module.Instr.{Instr}
use Rattle.brc_model.specs.declared.state.State.{State}
use Rattle.brc_model.specs.declared.state.Exit.{Exit}
use Rattle.brc_model.specs.Paths.{PathEnd, At, Ended, Reports, follow}

-- the point and the state at which a path ends, unless it ends the call or reports a code
abbrev pub place_of : PathEnd → Option (ℕ × State)
place_of (At at s) = Some (at, s)
place_of Ended = None
place_of (Reports at code) = None

-- where the path stands after one exit more
abbrev pub onward : List Instr → Option (ℕ × State) → Exit → Option (ℕ × State)
onward code None exit = None
onward code (Some p) exit = place_of (follow code (At p.0 p.1) exit)
