use Rattle.std.proofs.Common.{◌≡◌, ℕ, suc, ◌≤◌, sym, ap, ◌∙◌, subst, arith}
use Rattle.brc_model.specs.declared.layout.Layout.{Layout}
use Rattle.brc_model.specs.Layout.{row_count}
use Rattle.brc_table.specs.declared.view.View.{View}
use Rattle.brc_table.specs.Views.{view_after, loading_cell}
use Rattle.brc_table.specs.Hands.{TableState, Borrows}
use Rattle.brc_list.specs.Calls.{word_of}
use Rattle.brc_list.proofs.Borrowing.{item_borrowed}
use Rattle.brc_heap.proofs.FewRows.{few_rows}
use Rattle.brc_list.proofs.lists.Lists.item.Goals as goal

pub overflow_cast-result : goal.overflow_cast-result
overflow_cast-result g c =
    let same : c.words-words.result.now ≡ c.args.self.now = c.words-words.ensures ∙ c.self.view_is in
    let few =
    few_rows c.words-words.result.now.lines c.words-words.result.now.layout c.layout_is_plain.ensures
    c.lines_are_there.ensures in
    let there : c.cell_load-word.result ≤ row_count c.words-words.result.now.layout =
    subst (λ (l : Layout). c.cell_load-word.result ≤ row_count l)
    (c.requires.table.1 ∙ sym (ap (λ (t : TableState). t.layout) same)) c.cell_load-word.ensures.there in
    omega (arith, there, few)

pub returns-else-word-eq0-clause-borrows : goal.returns-else-word-eq0-clause-borrows
returns-else-word-eq0-clause-borrows g c = λ x same locked.
    let v = c.args.hand.now.view in
    let found = c.cell_load-word.result in
    let word : found ≡ suc x = omega (arith, c.if-word-eq0.false, ap word_of same) in
    subst (λ (u : View). Borrows u x)
    (ap (view_after (loading_cell v c.args.row c.args.cell)) (sym word) ∙ sym c.cell_load-word.ensures.view)
    (item_borrowed v c.args.row c.args.cell x locked
    (subst (λ (k : ℕ). k ≤ row_count v.layout) word c.cell_load-word.ensures.there))
