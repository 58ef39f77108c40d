use Rattle.std.proofs.Common.{◌≡◌, ℕ, ◌+◌, false, List, Option, length, sym, ap, ◌∙◌, subst}
use Rattle.std.specs.Prelude.{slice_get}
use Rattle.std.proofs.lemmas.List.{length-append}
use Rattle.brc_table.specs.declared.carried.Spare.{Spare}
use Rattle.brc_table.specs.Spares.{is_spent}
use Rattle.brc_table.proofs.Spares.{spare_more}
use Rattle.brc_table.proofs.carried.spares_of.Goals as goal

pub loop-preserved : goal.loop-preserved
loop-preserved c = (
  ap length c.in_ok-push.ensures.items ∙ (length-append c.loop.spares.items _
      ∙ ap (λ (n : ℕ). n + 1) c.loop.invariant.0),
  λ worker.
      subst (λ (spares : List (Option Spare)). is_spent (slice_get spares worker) ≡ false)
      (sym c.in_ok-push.ensures.items)
      (spare_more c.loop.spares.items _ worker c.loop.invariant.1),
)
