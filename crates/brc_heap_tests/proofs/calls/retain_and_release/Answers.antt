use Rattle.std.proofs.Common.{◌∙◌}
use Rattle.brc_model.specs.Layout.{root_row}
use Rattle.brc_heap_tests.proofs.Readiness.{on_some, both_leave, still_runs, holds_root, holds_again, unlocked_keeps, ready_again}
use Rattle.brc_heap_tests.proofs.calls.retain_and_release.Goals as goal

pub release-requires-clause-running : goal.release-requires-clause-running
release-requires-clause-running c = still_runs c.requires.ready.running c.retain.ensures.left

pub release-requires-clause-held : goal.release-requires-clause-held
release-requires-clause-held c =
    holds_root c.args.hand.now.view c.retain.new.hand.view c.retain.ensures.left.keeps.layout
    c.retain.ensures.references

pub release-requires-clause-keeps : goal.release-requires-clause-keeps
release-requires-clause-keeps c =
    unlocked_keeps c.retain.new.hand.view root_row (c.retain.ensures.left.keeps.locked ∙ c.requires.ready.unlocked)

pub release-requires-clause-idle : goal.release-requires-clause-idle
release-requires-clause-idle c = c.retain.ensures.left.left_is

pub returns : goal.returns
returns c =
    let same = holds_again c.args.hand.now.view c.retain.new.hand.view c.release.new.hand.view
    c.retain.ensures.left.keeps.layout c.retain.ensures.references c.release.ensures.references in
    record {
      ready = on_some c.release.result (λ left. ready_again c.requires.ready c.release.ensures.table
          (both_leave c.retain.ensures.left left) same) c.release.ensures.left;
      left = on_some c.release.result (both_leave c.retain.ensures.left) c.release.ensures.left;
      references = same;
    }
