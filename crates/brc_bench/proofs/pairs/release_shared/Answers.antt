use Rattle.std.proofs.Common.{◌∙◌, refl, inl, inr}
use Rattle.brc_model.specs.declared.duty.Reason.TheVariants.{Own}
use Rattle.brc_bench.proofs.Readiness.{first_or_more, still_acts}
use Rattle.brc_bench.proofs.pairs.release_shared.Goals as goal

pub returns-in-Kept-clause-left : goal.returns-in-Kept-clause-left
returns-in-Kept-clause-left c = λ kept.
    first_or_more c.loop.invariant.1 (c.in-Kept.ensures.left Own c.loop.invariant.3)

pub loop-init : goal.loop-init
loop-init c = (c.requires.table, inl refl, c.requires.acts, c.requires.duty, refl, refl)

pub loop-preserved : goal.loop-preserved
loop-preserved c =
    let leaves = c.in-Again.ensures.left Own c.loop.invariant.3 in (
      c.in-Again.ensures.table,
      inr (first_or_more c.loop.invariant.1 leaves),
      still_acts c.loop.invariant.2 leaves,
      leaves.left_is,
      c.in-Again.ensures.references ∙ c.loop.invariant.4,
      refl,
    )
