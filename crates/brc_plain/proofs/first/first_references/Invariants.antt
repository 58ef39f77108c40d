use Rattle.std.proofs.Common.{◌≡◌, ◌+◌, ◌++◌, drop, map}
use Rattle.brc_model.specs.FirstRows.{list_references, start}
use Rattle.brc_model.specs.Layout.{first_immortal_list, first_number}
use Rattle.brc_plain.specs.Bags.{reference_in}
use Rattle.brc_plain.proofs.first.first_references.Given as goal

-- The references of the lines so far, and of those that are left, are those of all lines.
abbrev pub invariant-loop-line : goal.invariant-loop-line
invariant-loop-line l = record {
  references :
      map reference_in l.references.items ++ list_references l.list l.first (drop l.line-index l.statics)
      ≡ list_references (first_immortal_list l.fn.layout) (first_number l.fn.layout) l.statics;
  list : l.list ≡ first_immortal_list l.fn.layout + l.line-index;
  first : l.first ≡ first_number l.fn.layout + start l.statics l.line-index;
}
