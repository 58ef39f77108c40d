use Rattle.std.proofs.Common.{◌≡◌, ℕ, false, [], refl, sym, ap, ◌∙◌, subst}
use Rattle.std.specs.Prelude.{◌==◌}
use Rattle.std.proofs.lemmas.Bool.{ne_eqb}
use Rattle.brc_host.specs.HostCalls.{NoCall}
use Rattle.brc_model.specs.declared.layout.Layout.{Layout}
use Rattle.brc_word.specs.Words.{mark_at}
use Rattle.brc_heap.specs.Marks.{mark_found}
use Rattle.brc_model.specs.Layout.{row_at, mark_bit}
use Rattle.brc_table.specs.declared.view.View.{View}
use Rattle.brc_table.specs.Hands.{TableState}
use Rattle.brc_table.specs.Views.{view_after, claiming}
use Rattle.brc_free.specs.Works.{HasWorked}
use Rattle.brc_heap.proofs.Keeping.{keeps_then}
use Rattle.brc_free.proofs.Working.{worked_first}
use Rattle.brc_queue.proofs.Scanning.{claim_none, claim_keeps}
use Rattle.brc_queue.proofs.queue.Queue.claim.Given as given
use Rattle.brc_queue.proofs.queue.Queue.claim.Goals.{After-mark}
use Rattle.brc_queue.proofs.queue.Queue.claim.Goals as goal

-- The row's mark is what was found there.
mark_is : (g : given.Over) (c : After-mark g) → c.mark.result ≡ mark_found c.args.hand.now.view
    (row_at c.args.hand.now.view.layout c.args.hand.now.view.thread c.args.index) c.mark_claim-found.result
mark_is g c =
    let v = c.args.hand.now.view in
    let same = ap (λ (t : TableState). t.layout) (c.words-words.ensures ∙ c.requires.same) ∙ sym c.requires.table.1 in
    c.mark.ensures
    ∙ ap (λ (l : Layout). mark_at c.mark_claim-found.result (mark_bit l c.row_of_block-row.result)) same
    ∙ ap (λ (x : ℕ). mark_at c.mark_claim-found.result (mark_bit v.layout x)) c.row_of_block-row.ensures.row

pub returns-then-mark-ne-SET-clause-keeps : goal.returns-then-mark-ne-SET-clause-keeps
returns-then-mark-ne-SET-clause-keeps g c =
    claim_keeps c.args.hand.now.view c.mark_claim-found.new.hand.view c.row_of_block-row.result
    c.mark_claim-found.result c.mark_claim-found.ensures.view

pub returns-clause-keeps : goal.returns-clause-keeps
returns-clause-keeps g c =
    let v = c.args.hand.now.view in
    let u = c.mark_claim-found.new.hand.view in
    keeps_then
    (claim_keeps v u c.row_of_block-row.result c.mark_claim-found.result c.mark_claim-found.ensures.view)
    c.merge_claimed.ensures.work.1.keeps

pub returns-then-mark-ne-SET-clause-work : goal.returns-then-mark-ne-SET-clause-work
returns-then-mark-ne-SET-clause-work g c =
    let v = c.args.hand.now.view in
    let w = c.mark_claim-found.new.hand.view in
    let found = c.mark_claim-found.result in
    let at = goal.at.returns-then-mark-ne-SET-clause-work g c in
    let x = row_at v.layout v.thread c.args.index in
    let row_is : c.row_of_block-row.result ≡ x = c.row_of_block-row.ensures.row in
    let is : w ≡ view_after (claiming v x) found =
    c.mark_claim-found.ensures.view ∙ ap (λ (y : ℕ). view_after (claiming v y) found) row_is in
    let none : (mark_found v x found == 1) ≡ false =
    ap (λ (k : ℕ). k == 1) (sym (mark_is g at.After-mark))
    ∙ ne_eqb c.mark.result 1 c.if-mark-ne-SET.true in (
      [],
      record {
        found = found;
        follows = subst (λ (z : View). HasWorked z [] [] w) is
            (worked_first w [] (claim_none v w x found c.requires.settled none is));
        settled = ap (λ (z : View). z.actor.head) is ∙ c.requires.settled;
      },
      refl,
      NoCall,
    )
