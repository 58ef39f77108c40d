use Rattle.std.proofs.Common.{◌≡◌, ◌≤◌, ◌++◌, map}
use Rattle.brc_model.specs.FirstRows.{line_references}
use Rattle.brc_plain.specs.Bags.{reference_in}
use Rattle.brc_plain.proofs.first.add_line.Given as goal

abbrev pub invariant-loop-left : goal.invariant-loop-left
invariant-loop-left l = record {
  few : l.left ≤ l.count;
  references :
      map reference_in l.references.items ++ line_references l.list l.first l.left
      ≡ map reference_in l.fn.references.items ++ line_references l.list l.first l.count;
}

abbrev pub decreases-loop-left : goal.decreases-loop-left
decreases-loop-left l = l.left
