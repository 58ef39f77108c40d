use Rattle.std.proofs.Common.{◌-◌, List, ◌++◌, map, refl, ap, ◌∙◌, arith}
use Rattle.brc_model.specs.declared.duty.Holding.TheVariants.{AsCaller}
use Rattle.brc_model.specs.Layout.{root_row}
use Rattle.brc_model.specs.StepMachine.{caller_reference, callers_below}
use Rattle.brc_plain.specs.declared.bag.Holder.TheVariants.{ByThread}
use Rattle.brc_plain.specs.declared.bag.Reference.{Reference}
use Rattle.brc_plain.specs.Bags.{reference_in}
use Rattle.brc_plain.proofs.FirstLists.{last_caller, reference_more}
use Rattle.brc_plain.proofs.first.add_callers.Goals as goal

pub loop-left-preserved : goal.loop-left-preserved
loop-left-preserved c =
    let left = c.loop-left.left in
    let references = c.loop-left.references.items in
    let added : Reference = record { holder = ByThread (left - 1) AsCaller; object = root_row } in
    ap (λ (those : List Reference). map reference_in those ++ callers_below (left - 1)) c.in_ok-push.ensures.items
    ∙ reference_more references added (caller_reference (left - 1)) (callers_below (left - 1)) (callers_below left)
    (last_caller left (omega arith)) refl
    ∙ c.loop-left.invariant
