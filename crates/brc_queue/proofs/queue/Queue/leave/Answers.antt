use Rattle.std.proofs.Common.{◌≡◌, ℕ, [], ◌∷◌, refl, sym, ap, ◌∙◌, subst, List, ◌++◌}
use Rattle.brc_host.specs.HostCalls.{HostCall, close_faults}
use Rattle.brc_host.proofs.Answering.{answered_then, close_faults_then}
use Rattle.brc_host.specs.HostCounts.{raised}
use Rattle.brc_model.specs.declared.duty.Duty.TheVariants.{Finish}
use Rattle.brc_table.specs.declared.view.View.{View}
use Rattle.brc_table.specs.Views.{view_by, view_after}
use Rattle.brc_table.specs.Hands.{TableState}
use Rattle.brc_table.specs.Calls.{MayLeave}
use Rattle.brc_free.specs.Works.{HasWorked, ComesToSettle, to_settle}
use Rattle.brc_free.proofs.Closes.{sums_both}
use Rattle.brc_queue.proofs.Exits.{comes_at_once, may_leave, finished}
use Rattle.brc_queue.proofs.queue.Queue.leave.Given as given
use Rattle.brc_queue.proofs.queue.Queue.leave.Goals.{After-settle-failed, After-step}
use Rattle.brc_queue.proofs.queue.Queue.leave.Goals as goal

-- Once the root is released, the hand settles next.
comes : (g : given.Over) (c : After-settle-failed g) → ComesToSettle c.release.new.hand.view []
comes g c = comes_at_once c.requires.free c.release.ensures.released

-- It has settled: nothing comes next.
settled : (g : given.Over) (c : After-settle-failed g)
    → (closes : List HostCall)
    × HasWorked (to_settle [] c.release.new.hand.view) closes [] c.settle-failed.new.hand.view
settled g c = let work = c.settle-failed.ensures.work [] (comes g c) in (work.0, work.1)

-- So it may leave.
may : (g : given.Over) (c : After-settle-failed g) → MayLeave c.settle-failed.new.hand.view
may g c =
    may_leave c.requires.free c.requires.root c.requires.unlocked c.release.ensures.released (settled g c).1
    c.settle-failed.ensures.chain

-- It overwrites the word that it is leaving.
says_gone : (g : given.Over) (c : After-step g)
    → c.step.new.hand.view ≡ view_after c.scan-more.new.hand.view 2
says_gone g c = c.step.ensures.view ∙ ap (view_after c.scan-more.new.hand.view) c.step.ensures.overwrites

-- The word that it is gone is its last step.
ends : (g : given.Over) (c : After-step g)
    → c.step.new.hand.view ≡ view_by c.scan-more.new.hand.view (Finish ∷ []) 2
ends g c =
    finished _ _ _ c.scan-more.ensures.work.0 c.scan-more.ensures.work.1 (says_gone g c)

pub settle-failed-requires-clause-duty : goal.settle-failed-requires-clause-duty
settle-failed-requires-clause-duty g c = λ κs lives. ([], comes_at_once c.requires.free c.release.ensures.released)

pub thread_leave-requires-clause-table : goal.thread_leave-requires-clause-table
thread_leave-requires-clause-table g c =
    let same = c.new-finaliser.ensures ∙ sym c.words.ensures in (
      c.settle-failed.ensures.table.0 ∙ ap (λ (t : TableState). t.table) same,
      c.settle-failed.ensures.table.1 ∙ ap (λ (t : TableState). t.layout) same,
    )

pub thread_leave-requires-clause-may_leave : goal.thread_leave-requires-clause-may_leave
thread_leave-requires-clause-may_leave g c =
    may g (goal.at.thread_leave-requires-clause-may_leave g c).After-settle-failed

pub scan-more-requires-clause-table : goal.scan-more-requires-clause-table
scan-more-requires-clause-table g c = λ κs lives.
    let of = c.settle-failed.ensures.table in
    let same = c.new-finaliser.ensures ∙ c.self.view_is in (
      c.thread_leave.ensures.kept.table ∙ (of.0 ∙ ap (λ (t : TableState). t.table) same),
      ap (λ (z : View). z.layout) c.thread_leave.ensures.view
          ∙ (of.1 ∙ ap (λ (t : TableState). t.layout) same),
    )

pub step-requires-clause-table : goal.step-requires-clause-table
step-requires-clause-table g c =
    let same = c.new-finaliser.ensures ∙ sym c.words-2.ensures in (
      c.scan-more.ensures.kept.table ∙ (c.thread_leave.ensures.kept.table
          ∙ (c.settle-failed.ensures.table.0 ∙ ap (λ (t : TableState). t.table) same)),
      c.scan-more.ensures.work.1.keeps.layout ∙ (ap (λ (z : View). z.layout) c.thread_leave.ensures.view
          ∙ (c.settle-failed.ensures.table.1 ∙ ap (λ (t : TableState). t.layout) same)),
    )

pub returns-clause-table : goal.returns-clause-table
returns-clause-table g c =
    let heap = c.new-finaliser.ensures ∙ c.self.view_is in (
      c.step.ensures.table ∙ (c.scan-more.ensures.kept.table ∙ (c.thread_leave.ensures.kept.table
          ∙ (c.settle-failed.ensures.table.0 ∙ ap (λ (t : TableState). t.table) heap))),
      ap (λ (z : View). z.layout) (ends g (goal.at.returns-clause-table g c).After-step)
          ∙ (c.scan-more.ensures.work.1.keeps.layout ∙ (ap (λ (z : View). z.layout) c.thread_leave.ensures.view
          ∙ (c.settle-failed.ensures.table.1 ∙ ap (λ (t : TableState). t.layout) heap))),
    )

pub returns-clause-idle : goal.returns-clause-idle
returns-clause-idle g c =
    let at = goal.at.returns-clause-idle g c in
    let end = ends g at.After-step in (
      ap (λ (z : View). z.actor.agenda) end,
      ap (λ (z : View). z.actor.aside) end ∙ (c.scan-more.ensures.work.1.keeps.aside
          ∙ (ap (λ (z : View). z.actor.aside) c.thread_leave.ensures.view ∙ (may g at.After-settle-failed).free.aside)),
      ap (λ (z : View). z.actor.head) end ∙ c.scan-more.ensures.settled,
    )

pub returns-clause-holds_none : goal.returns-clause-holds_none
returns-clause-holds_none g c =
    let at = goal.at.returns-clause-holds_none g c in
    ap (λ (z : View). z.references) (ends g at.After-step)
    ∙ (c.scan-more.ensures.work.1.keeps.references
    ∙ (ap (λ (z : View). z.references) c.thread_leave.ensures.view ∙ (may g at.After-settle-failed).holds_none))

pub returns-clause-thread : goal.returns-clause-thread
returns-clause-thread g c =
    let at = goal.at.returns-clause-thread g c in
    ap (λ (z : View). z.thread) (ends g at.After-step)
    ∙ (c.scan-more.ensures.work.1.keeps.thread ∙ (ap (λ (z : View). z.thread) c.thread_leave.ensures.view
    ∙ ((settled g at.After-settle-failed).1.keeps.thread ∙ c.release.ensures.released.keeps.thread)))

pub returns-clause-used : goal.returns-clause-used
returns-clause-used g c =
    let at = goal.at.returns-clause-used g c in
    ap (λ (z : View). z.actor.used) (ends g at.After-step)
    ∙ (c.scan-more.ensures.work.1.keeps.used ∙ (ap (λ (z : View). z.actor.used) c.thread_leave.ensures.view
    ∙ ((settled g at.After-settle-failed).1.keeps.used ∙ c.release.ensures.released.keeps.used)))

pub returns-clause-work : goal.returns-clause-work
returns-clause-work g c =
    let one = c.release.ensures in
    let work = c.settle-failed.ensures.work [] (comes g (goal.at.returns-clause-work g c).After-settle-failed) in
    let more = c.scan-more.ensures.work in (
      work.0 ++ more.0,
      record {
        word = one.work.0;
        released = c.release.new.hand.view;
        settled = c.settle-failed.new.hand.view;
        scanned = c.scan-more.new.hand.view;
        first = work.0;
        later = more.0;
        closes_are = refl;
        releases = one.work.1;
        settles = work.1;
        empty = c.settle-failed.ensures.chain;
        scans = subst (λ (z : View). HasWorked z more.0 (Finish ∷ []) c.scan-more.new.hand.view)
            c.thread_leave.ensures.view more.1;
        gone = says_gone g (goal.at.returns-clause-work g c).After-step;
      },
      c.saturating_add.ensures
          ∙ (sums_both c.settle-failed.result c.scan-more.result (close_faults work.0) (close_faults more.0) work.2
          more.2
          ∙ ap (λ (n : ℕ). raised n 0) (sym (close_faults_then work.0 more.0))),
      answered_then work.3 more.3,
    )
