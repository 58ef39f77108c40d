use Rattle.std.proofs.Common.{◌≡◌, ◌≤◌, drop}
use Rattle.brc_c_paths.specs.Settled.{have_objects}
use Rattle.brc_c_paths.proofs.settled.are_objects_named.Given as goal

abbrev pub invariant-loop-named : goal.invariant-loop-named
invariant-loop-named l =
    (l.known ≤ l.named-index)
    × (have_objects l.count (drop l.named-index l.names) l.known ≡ have_objects l.count l.names 0)
