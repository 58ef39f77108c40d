use Rattle.std.proofs.Common.{◌≤◌, ◌<◌, ℕ, List, length, inr, sym, ◌∙◌, subst}
use Rattle.std.specs.Prelude.{◌==◌, count_by}
use Rattle.brc_table.specs.Hands.{most_references}
use Rattle.brc_heap_tests.proofs.Readiness.{still_runs, unlocked_keeps, holds_row, row_again}
use Rattle.brc_heap_tests.proofs.threads.pair.Goals as goal

pub release_local-requires-clause-running : goal.release_local-requires-clause-running
release_local-requires-clause-running c = still_runs c.requires.ready.running c.retain.ensures.left

pub release_local-requires-clause-held : goal.release_local-requires-clause-held
release_local-requires-clause-held c =
    inr (holds_row c.args.row c.args.hand.now.view c.retain.new.hand.view c.retain.ensures.references
    c.requires.ready.held)

pub release_local-requires-clause-keeps : goal.release_local-requires-clause-keeps
release_local-requires-clause-keeps c =
    unlocked_keeps c.retain.new.hand.view c.args.row
    (c.retain.ensures.left.keeps.locked ∙ c.requires.ready.unlocked)

pub returns-in-Kept : goal.returns-in-Kept
returns-in-Kept c =
    let row = c.args.row in
    let ready = c.requires.ready in
    let left = c.in-Kept.ensures.left in
    let same =
    row_again row c.args.hand.now.view c.retain.new.hand.view c.release_local.new.hand.view
    c.retain.ensures.left.keeps.layout c.retain.ensures.references c.in-Kept.ensures.references in
    record {
      ready = λ e. record {
        table = c.in-Kept.ensures.table;
        running = still_runs (still_runs ready.running c.retain.ensures.left) left;
        held = subst (λ (rows : List ℕ). 1 ≤ count_by (λ y. y == row) rows) (sym same) ready.held;
        idle = left.left_is;
        few = subst (λ (rows : List ℕ). length rows < most_references) (sym same) ready.few;
        unlocked = left.keeps.locked ∙ (c.retain.ensures.left.keeps.locked ∙ ready.unlocked);
      };
    }
