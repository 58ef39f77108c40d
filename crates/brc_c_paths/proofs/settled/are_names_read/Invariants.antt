use Rattle.std.proofs.Common.{◌≡◌, drop}
use Rattle.std.specs.List.{list_all}
use Rattle.brc_c_paths.specs.Settled.{is_name_read}
use Rattle.brc_c_paths.proofs.settled.are_names_read.Given as goal

abbrev pub invariant-loop-named : goal.invariant-loop-named
invariant-loop-named l =
    list_all (is_name_read l.live l.node) (drop l.named-index l.names) ≡ list_all (is_name_read l.live l.node) l.names
