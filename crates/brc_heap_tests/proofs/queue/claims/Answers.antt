use Rattle.std.proofs.Common.{inl, ◌≡◌, [], ◌∷◌}
use Rattle.brc_model.specs.Layout.{root_row}
use Rattle.brc_model.specs.declared.duty.Duty.TheVariants.{MergeSwap}
use Rattle.brc_model.specs.declared.duty.Reason.TheVariants.{Handed}
use Rattle.brc_table.specs.Hands.{HandState, CarriesNothing}
use Rattle.brc_table.specs.Views.{work_about}
use Rattle.brc_heap.specs.Calls.{Merges}
use Rattle.brc_heap_tests.proofs.Readiness.{acts_still, carries_still}
use Rattle.brc_heap_tests.proofs.queue.claims.Goals as goal

-- A hand that has claimed the root's mark, and carries nothing, has a merge to begin.
claimed : (before after : HandState) → work_about root_row after.view ≡ MergeSwap root_row Handed ∷ []
    → after.carried ≡ before.carried → after.view.layout ≡ before.view.layout → CarriesNothing before
    → Merges Handed after root_row
claimed before after duty same layout none =
    inl (record { duty = duty; none = carries_still before after same layout none root_row })

pub merge_step-requires-clause-duty : goal.merge_step-requires-clause-duty
merge_step-requires-clause-duty c = (
  Handed,
  claimed c.args.hand.now c.look.new.hand c.in-Claimed.ensures.left.left_is c.in-Claimed.ensures.carried
      c.in-Claimed.ensures.left.keeps.layout c.requires.carries,
)

pub try_release_shared-requires-clause-acts : goal.try_release_shared-requires-clause-acts
try_release_shared-requires-clause-acts c =
    let merged =
    c.in-Kept.ensures.left Handed
    (claimed c.args.hand.now c.look.new.hand c.in-Claimed.ensures.left.left_is c.in-Claimed.ensures.carried
    c.in-Claimed.ensures.left.keeps.layout c.requires.carries) in
    acts_still (acts_still c.requires.acts c.in-Claimed.ensures.left) merged.1

pub try_release_shared-requires-clause-duty : goal.try_release_shared-requires-clause-duty
try_release_shared-requires-clause-duty c =
    let merged =
    c.in-Kept.ensures.left Handed
    (claimed c.args.hand.now c.look.new.hand c.in-Claimed.ensures.left.left_is c.in-Claimed.ensures.carried
    c.in-Claimed.ensures.left.keeps.layout c.requires.carries) in
    (Handed, merged.1.left_is)
