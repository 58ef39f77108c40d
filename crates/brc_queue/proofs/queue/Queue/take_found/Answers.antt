use Rattle.std.proofs.Common.{◌≡◌, ℕ, ◌+◌, ◌*◌, ◌<◌, [], refl, sym, ap, ◌∙◌, arith}
use Rattle.std.specs.Prelude.{◌==◌}
use Rattle.std.proofs.lemmas.Bool.{eq-eqb, ne_eqb}
use Rattle.brc_host.specs.HostCalls.{NoCall}
use Rattle.brc_word.specs.Words.{marks_of_word, mark_at}
use Rattle.brc_model.specs.declared.layout.Layout.{Layout}
use Rattle.brc_model.specs.Duties.{found_row}
use Rattle.brc_model.specs.Layout.{row_at, mark_bit}
use Rattle.brc_model.proofs.Basics.FoundMarks.{lowest_used}
use Rattle.brc_table.specs.Hands.{TableState}
use Rattle.brc_heap.specs.Marks.{mark_found}
use Rattle.brc_queue.proofs.Scanning.{took_none, took_one, took_settled, take_head}
use Rattle.brc_queue.proofs.queue.Queue.take_found.Given as given
use Rattle.brc_queue.proofs.queue.Queue.take_found.Goals.{After-lowest_mark, After-mark}
use Rattle.brc_queue.proofs.queue.Queue.take_found.Goals as goal

-- The row of the lowest mark is used.
used : (g : given.Over) (c : After-lowest_mark g)
    → marks_of_word * c.args.word + c.lowest_mark.result < c.args.hand.now.view.actor.used
used g c =
    let low = lowest_used c.args.marks c.args.hand.now.view.actor.used c.args.word c.requires.some c.requires.used in
    omega (arith, low, c.lowest_mark.ensures.lowest)

layout_is : (g : given.Over) (c : After-mark g) → c.words-words.result.now.layout ≡ c.args.hand.now.view.layout
layout_is g c =
    ap (λ (t : TableState). t.layout) (c.words-words.ensures ∙ c.self.view_is) ∙ sym c.requires.table.1

-- The row that is looked at is the mark's.
row_is : (g : given.Over) (c : After-mark g)
    → c.own_row-row.result ≡ found_row c.args.hand.now.view.layout c.args.hand.now.view.thread c.args.word c.args.marks
row_is g c =
    let v = c.args.hand.now.view in
    c.own_row-row.ensures.row
    ∙ ap (λ (layout : Layout). row_at layout v.thread (marks_of_word * c.args.word + c.lowest_mark.result))
    (layout_is g c)
    ∙ ap (λ (k : ℕ). row_at v.layout v.thread (marks_of_word * c.args.word + k)) c.lowest_mark.ensures.lowest

-- Its mark is what was found there.
mark_is : (g : given.Over) (c : After-mark g)
    → c.mark.result ≡ mark_found c.args.hand.now.view
    (found_row c.args.hand.now.view.layout c.args.hand.now.view.thread c.args.word c.args.marks) c.step-found.result
mark_is g c =
    let v = c.args.hand.now.view in
    c.mark.ensures
    ∙ ap (λ (layout : Layout). mark_at c.step-found.result (mark_bit layout c.own_row-row.result)) (layout_is g c)
    ∙ ap (λ (x : ℕ). mark_at c.step-found.result (mark_bit v.layout x)) (row_is g c)

pub overflow_add-word : goal.overflow_add-word
overflow_add-word g c =
    omega (arith, used g (goal.at.overflow_add-word g c).After-lowest_mark, c.requires.few)

pub own_row-row-requires-clause-used : goal.own_row-row-requires-clause-used
own_row-row-requires-clause-used g c = used g (goal.at.own_row-row-requires-clause-used g c).After-lowest_mark

pub step-found-requires-clause-row : goal.step-found-requires-clause-row
step-found-requires-clause-row g c = (
  c.requires.some,
  lowest_used c.args.marks c.args.hand.now.view.actor.used c.args.word c.requires.some
      c.requires.used,
)

pub returns-then-mark-ne-SET-clause-work : goal.returns-then-mark-ne-SET-clause-work
returns-then-mark-ne-SET-clause-work g c =
    let v = c.args.hand.now.view in
    let w = c.step-found.new.hand.view in
    let found = c.step-found.result in
    let none = ne_eqb c.mark.result 1 c.if-mark-ne-SET.true in
    let x = found_row v.layout v.thread c.args.word c.args.marks in (
      [],
      took_none v w v.actor.used c.args.word c.args.marks found c.requires.duty c.requires.some
          c.step-found.ensures.view
          (ap (λ (k : ℕ). k == 1) (sym (mark_is g (goal.at.returns-then-mark-ne-SET-clause-work g c).After-mark))
          ∙ none)
          (take_head v w v.actor.used c.args.word c.args.marks found c.requires.duty c.step-found.ensures.view
          c.requires.settled),
      refl,
      NoCall,
    )

pub returns-clause-work : goal.returns-clause-work
returns-clause-work g c =
    let v = c.args.hand.now.view in
    let u = c.step-found.new.hand.view in
    let w = c.merge_scanned.new.hand.view in
    let found = c.step-found.result in
    let one = eq-eqb c.mark.result 1 c.if-mark-ne-SET.false in
    let x = found_row v.layout v.thread c.args.word c.args.marks in
    let work = c.merge_scanned.ensures.work in (
      work.0,
      took_settled v u w x work.0 _ (took_one v u v.actor.used c.args.word c.args.marks found c.requires.duty
          c.requires.some c.step-found.ensures.view
          (ap (λ (k : ℕ). k == 1) (sym (mark_is g (goal.at.returns-clause-work g c).After-mark)) ∙ one)) work.1,
      work.2,
      work.3,
    )
