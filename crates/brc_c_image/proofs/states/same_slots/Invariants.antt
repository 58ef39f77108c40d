use Rattle.std.proofs.Common.{◌≡◌}
use Rattle.std.specs.Prelude.{take}
use Rattle.brc_c_image.proofs.states.same_slots.Given as goal

-- the slots in front are the same
abbrev pub invariant-loop-number : goal.invariant-loop-number
invariant-loop-number l = take l.number l.one ≡ take l.number l.other
