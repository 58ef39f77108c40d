-- What a merge leaves once its exchange has won.
use Rattle.std.proofs.Common.{◌≡◌, ◌⊎◌, inl, inr, ℕ, sym, ap, ◌∙◌}
use Rattle.brc_model.specs.declared.duty.Reason.{Reason}
use Rattle.brc_model.specs.declared.duty.Reason.TheVariants.{Own}
use Rattle.brc_model.specs.Duties.{once_merged}
use Rattle.brc_effect.specs.declared.outcomes.MergeStep.{MergeStep}
use Rattle.brc_effect.specs.declared.outcomes.MergeStep.TheVariants as merge
use Rattle.brc_heap.specs.Calls.{merge_left}

pub merge_won : (x c : ℕ) (r : Reason) (answer : MergeStep) → (answer ≡ merge.Kept) ⊎ (answer ≡ merge.Dying)
    → (answer ≡ merge.Dying → r ≡ Own) → merge_left x c r answer ≡ once_merged x r
merge_won x c r answer (inl kept) own = ap (merge_left x c r) kept
merge_won x c r answer (inr dying) own =
    ap (merge_left x c r) dying ∙ sym (ap (once_merged x) (own dying))
