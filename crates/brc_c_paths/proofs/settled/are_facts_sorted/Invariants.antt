use Rattle.std.proofs.Common.{◌≡◌, None, drop}
use Rattle.brc_c_paths.specs.Settled.{are_asked_in_order}
use Rattle.brc_c_paths.proofs.settled.are_facts_sorted.Given as goal

abbrev pub invariant-loop-known : goal.invariant-loop-known
invariant-loop-known l =
    are_asked_in_order l.live l.node (drop l.known-index l.facts) l.before
    ≡ are_asked_in_order l.live l.node l.facts None
