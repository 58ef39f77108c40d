use Rattle.std.proofs.Common.{[], ◌∷◌}
use Rattle.brc_model.specs.declared.duty.Duty.TheVariants.{DecideAtZero}
use Rattle.brc_heap_tests.proofs.Readiness.{other_work}
use Rattle.brc_heap_tests.proofs.births.decided.Goals as goal

pub zero_step-requires-in-Some-clause-duty : goal.zero_step-requires-in-Some-clause-duty
zero_step-requires-in-Some-clause-duty c =
    other_work c.args.hand.now.view c.retain_and_release.new.hand.view c.args.row (DecideAtZero c.args.row ∷ [])
    c.requires.work c.in-Some.ensures.left c.requires.apart
