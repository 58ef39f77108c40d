use Rattle.std.proofs.Common.{◌+◌, ◌-◌, List, ◌++◌, map, refl, ap, ◌∙◌, arith}
use Rattle.brc_model.specs.FirstRows.{line_references}
use Rattle.brc_model.specs.References.{cell_reference}
use Rattle.brc_plain.specs.declared.bag.Holder.TheVariants.{ByCell}
use Rattle.brc_plain.specs.declared.bag.Reference.{Reference}
use Rattle.brc_plain.specs.Bags.{reference_in}
use Rattle.brc_plain.proofs.FirstLists.{last_cell, reference_more}
use Rattle.brc_plain.proofs.first.add_line.Goals as goal

pub loop-left-preserved : goal.loop-left-preserved
loop-left-preserved c =
    let left = c.loop-left.left in
    let references = c.loop-left.references.items in
    let list = c.args.list in
    let first = c.args.first in
    let added : Reference = record { holder = ByCell list (left - 1); object = first + (left - 1) } in
    record {
      few = omega arith;
      references =
          ap (λ (those : List Reference). map reference_in those ++ line_references list first (left - 1))
          c.in_ok-push.ensures.items
          ∙ reference_more references added (cell_reference list (left - 1) (first + (left - 1)))
          (line_references list first (left - 1)) (line_references list first left)
          (last_cell list first left (omega arith)) refl
          ∙ c.loop-left.invariant.references;
    }
