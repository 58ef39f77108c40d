use Rattle.std.proofs.Common.{◌≡◌, ◌-◌, ◌≤◌}
use Rattle.brc_plain.specs.Plains.{machine_in}
use Rattle.brc_plain.proofs.Tallying.{left_below}
use Rattle.brc_plain.proofs.plain.Plain.left.Given as goal

-- `left` has the objects in the rows below the loop's row
abbrev pub invariant-loop-row : goal.invariant-loop-row
invariant-loop-row l = record {
  first : 1 ≤ l.row;
  left : l.left ≡ left_below (machine_in l.fn.self).abstract (l.row - 1);
}
