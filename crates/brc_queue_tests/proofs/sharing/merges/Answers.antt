use Rattle.brc_model.specs.declared.duty.Reason.TheVariants.{Handed}
use Rattle.brc_queue_tests.proofs.Steps.{has_merge, merged}
use Rattle.brc_queue_tests.proofs.sharing.merges.Goals as goal

pub returns : goal.returns
returns c =
    let after = c.merge_step.ensures in
    record {
      left = λ e. merged c.requires.left after.table (after.left Handed (has_merge c.requires.left)) after.references
          after.done e;
    }
