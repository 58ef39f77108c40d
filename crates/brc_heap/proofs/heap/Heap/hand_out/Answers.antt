use Rattle.std.proofs.Common.{◌≡◌, ◌≤◌, true, sym, ap, ◌∙◌, subst, arith}
use Rattle.brc_model.specs.declared.layout.Layout.{Layout}
use Rattle.brc_table.specs.declared.view.View.{View}
use Rattle.brc_table.specs.Hands.{TableState}
use Rattle.brc_table.specs.Giving.{MayGive}
use Rattle.brc_table.specs.KnownWords.{has_started}
use Rattle.brc_heap.proofs.Handing.{may_start, may_give, has_given}
use Rattle.brc_heap.proofs.heap.Heap.hand_out.Goals as goal

pub thread_start-requires-clause-may_start : goal.thread_start-requires-clause-may_start
thread_start-requires-clause-may_start g c =
    may_start c.args.main.now.view c.retain.new.hand.view c.args.thread c.requires.main
    c.retain.ensures.left (omega (arith, c.if-thread-eq0.false))
    (subst (λ (l : Layout). c.args.thread ≤ l.workers) (sym c.requires.table.1)
    (omega (
      arith,
      c.if-thread-workers.false,
      c.workers.ensures,
      ap (λ (t : TableState). t.layout.workers) c.self.view_is,
    ))) (sym c.has_given.ensures ∙ c.if-has_given.false)

pub split-requires-clause-may_give : goal.split-requires-clause-may_give
split-requires-clause-may_give g c =
    let u = c.retain.new.hand.view in
    subst (λ (v : View). MayGive v c.args.thread) (sym c.thread_start.ensures.view)
    (may_give c.args.main.now.view u c.args.thread c.requires.main c.requires.held c.retain.ensures.left
    c.retain.ensures.references
    (may_start c.args.main.now.view u c.args.thread c.requires.main
    c.retain.ensures.left (omega (arith, c.if-thread-eq0.false))
    (subst (λ (l : Layout). c.args.thread ≤ l.workers) (sym c.requires.table.1)
    (omega (
      arith,
      c.if-thread-workers.false,
      c.workers.ensures,
      ap (λ (t : TableState). t.layout.workers) c.self.view_is,
    ))) (sym c.has_given.ensures ∙ c.if-has_given.false))
    (subst (λ (v : View). has_started c.args.thread v ≡ true) c.thread_start.ensures.view
    c.thread_start.ensures.started))

pub returns-clause-left : goal.returns-clause-left
returns-clause-left g c =
    has_given c.requires.idle c.retain.ensures.left c.retain.ensures.references c.retain.ensures.head
    c.thread_start.ensures.view c.split.ensures.main_view
