use Rattle.std.proofs.Common.{sym, ◌∙◌, arith}
use Rattle.brc_c_store.specs.Registers.{has_register}
use Rattle.brc_c_store.proofs.RegistersFrom.{count_first, count_next, count_end}
use Rattle.brc_c_store.proofs.register.RegisterSet.count.Goals as goal
use Rattle.brc_c_store.proofs.register.RegisterSet.count.Goals.{then-contains, else-contains}

pub loop-number-init : goal.loop-number-init
loop-number-init c = (omega arith, count_first (has_register c.args.self))

pub loop-number-preserved : goal.loop-number-preserved
loop-number-preserved c =
    let within = c.loop-number.invariant.0 in
    let next = count_next (has_register c.args.self) c.loop-number.count c.loop-number.number (omega arith) in
    let counted = c.loop-number.invariant.1 in
    elim c.if-contains.branch [
      | then-contains w ↦ (omega arith, grind (arith, next, counted, within))
      | else-contains w ↦ (omega arith, grind (arith, next, counted, within))
    ]

pub returns : goal.returns
returns c =
    sym (count_end (has_register c.args.self) c.loop-number.count c.loop-number.number (omega arith))
    ∙ c.loop-number.invariant.1
