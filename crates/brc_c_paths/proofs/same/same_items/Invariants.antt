use Rattle.std.proofs.Common.{◌≡◌}
use Rattle.std.specs.Prelude.{take}
use Rattle.brc_c_paths.proofs.same.same_items.Given as goal

-- the items in front are the same
abbrev pub invariant-loop-at : goal.invariant-loop-at
invariant-loop-at g l = take l.at l.one ≡ take l.at l.other
