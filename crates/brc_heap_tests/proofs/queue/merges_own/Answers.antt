use Rattle.std.proofs.Common.{◌≡◌, ℕ, [], ◌∷◌, refl, sym, ap, ◌∙◌, subst}
use Rattle.std.proofs.lemmas.Bool.{ne_eqb}
use Rattle.brc_word.specs.Words.{mark_at}
use Rattle.brc_model.specs.declared.layout.Layout.{Layout}
use Rattle.brc_model.specs.Layout.{root_row, mark_bit}
use Rattle.brc_model.specs.declared.duty.Duty.TheVariants.{MergeLoad, MergeExchange, SharedLoad, SharedExchange, Settle}
use Rattle.brc_model.specs.declared.duty.Reason.TheVariants.{Handed}
use Rattle.brc_table.specs.declared.view.View.{View}
use Rattle.brc_table.specs.Hands.{TableState}
use Rattle.brc_table.specs.Views.{view_after}
use Rattle.brc_heap.specs.Marks.{mark_found}
use Rattle.brc_table.specs.Accesses.{IsNext}
use Rattle.brc_heap_tests.proofs.Claiming.{Works, never_gone, at_load, at_exchange, at_release, at_last}
use Rattle.brc_heap_tests.proofs.queue.merges_own.Goals.{After-local_count-carried, After-step-queued, After-step-left}
use Rattle.brc_heap_tests.proofs.queue.merges_own.Goals as goal

-- The root's mark in the word that was found is set.
is_queued : (c : After-local_count-carried) → mark_found c.args.main.now.view root_row c.mark_claim-found.result ≡ 1
is_queued c =
    let same = ap (λ (t : TableState). t.layout) c.words-words.ensures ∙ sym c.requires.alone.table.1 in
    sym (c.mark.ensures ∙ ap (λ (l : Layout). mark_at c.mark_claim-found.result (mark_bit l root_row)) same)
    ∙ c.if-mark-ne-QUEUED.false

-- After the swap the shared word is to be loaded.
loads : (c : After-local_count-carried)
    → Works c.step-local.new.hand.view (MergeLoad root_row c.local_count-carried.result Handed ∷ Settle ∷ [])
loads c =
    subst (λ (n : ℕ). Works c.step-local.new.hand.view (MergeLoad root_row n Handed ∷ Settle ∷ []))
    (sym c.local_count-carried.ensures.word)
    (at_load c.args.main.now.view c.mark_claim-found.new.hand.view c.step-local.new.hand.view root_row
    c.mark_claim-found.result c.step-local.result c.requires.alone.status (is_queued c)
    c.mark_claim-found.ensures.view (ne_eqb c.step-local.result 0 c.if-local-eq0.false) c.step-local.ensures.view)

pub step-queued-requires-clause-next : goal.step-queued-requires-clause-next
step-queued-requires-clause-next c =
    let at = loads (goal.at.step-queued-requires-clause-next c).After-local_count-carried in
    subst (IsNext (MergeLoad root_row c.local_count-carried.result Handed)) (sym at.agenda) refl

pub step-requires-clause-next : goal.step-requires-clause-next
step-requires-clause-next c =
    let at = at_exchange _ c.step-queued.new.hand.view root_row _ c.step-queued.result
    (loads (goal.at.step-requires-clause-next c).After-local_count-carried) c.step-queued.ensures.view in
    subst (IsNext (MergeExchange root_row c.local_count-carried.result c.step-queued.result Handed)) (sym at.agenda)
    refl

-- The exchange wins, and the handed reference is given up.
releases : (c : After-step-queued) → (four : View) (found : ℕ)
    → Works c.step-local.new.hand.view (MergeLoad root_row c.local_count-carried.result Handed ∷ Settle ∷ [])
    → found ≡ c.step-queued.result → four ≡ view_after c.step-queued.new.hand.view found
    → Works four (SharedLoad root_row Handed ∷ Settle ∷ [])
releases c four found begun won view =
    at_release c.step-queued.new.hand.view four root_row c.local_count-carried.result c.step-queued.result found
    (at_exchange c.step-local.new.hand.view c.step-queued.new.hand.view root_row c.local_count-carried.result
    c.step-queued.result begun c.step-queued.ensures.view) won view

pub step-left-requires-clause-alive : goal.step-left-requires-clause-alive
step-left-requires-clause-alive c =
    let place = goal.at.step-left-requires-clause-alive c in
    never_gone (releases place.After-step-queued c.step.new.hand.view c.step.result
    (loads place.After-local_count-carried) c.if-step-queued.false c.step.ensures.view)

pub step-left-requires-clause-next : goal.step-left-requires-clause-next
step-left-requires-clause-next c =
    let place = goal.at.step-left-requires-clause-next c in
    let at = releases place.After-step-queued c.step.new.hand.view c.step.result
    (loads place.After-local_count-carried) c.if-step-queued.false c.step.ensures.view in
    subst (IsNext (SharedLoad root_row Handed)) (sym at.agenda) refl

-- The last word is loaded, and exchanged next.
exchanges : (c : After-step-left) → Works c.step.new.hand.view (SharedLoad root_row Handed ∷ Settle ∷ [])
    → Works c.step-left.new.hand.view (SharedExchange root_row Handed c.step-left.result ∷ Settle ∷ [])
exchanges c at =
    at_last c.step.new.hand.view c.step-left.new.hand.view root_row c.step-left.result at c.step-left.ensures.view

pub step-requires-2-clause-alive : goal.step-requires-2-clause-alive
step-requires-2-clause-alive c =
    let place = goal.at.step-requires-2-clause-alive c in
    never_gone (exchanges place.After-step-left (releases place.After-step-queued c.step.new.hand.view c.step.result
    (loads place.After-local_count-carried) c.if-step-queued.false c.step.ensures.view))

pub step-requires-2-clause-next : goal.step-requires-2-clause-next
step-requires-2-clause-next c =
    let place = goal.at.step-requires-2-clause-next c in
    let at = exchanges place.After-step-left (releases place.After-step-queued c.step.new.hand.view c.step.result
    (loads place.After-local_count-carried) c.if-step-queued.false c.step.ensures.view) in
    subst (IsNext (SharedExchange root_row Handed c.step-left.result)) (sym at.agenda) refl
