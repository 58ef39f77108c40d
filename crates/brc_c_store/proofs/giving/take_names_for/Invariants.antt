use Rattle.std.proofs.Common.{◌≡◌, ◌++◌, map, take, drop}
use Rattle.brc_c_store.specs.Giving.{named_for}
use Rattle.brc_c_store.proofs.giving.take_names_for.Given as goal

abbrev pub invariant-loop-named : goal.invariant-loop-named
invariant-loop-named l =
    l.names ≡ map (named_for l.found l.id) (take l.named-index l.initial.names) ++ drop l.named-index l.initial.names
