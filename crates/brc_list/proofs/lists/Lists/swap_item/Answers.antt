use Rattle.std.proofs.Common.{◌≡◌, ◌≤◌, sym, ap, ◌∙◌, subst, arith}
use Rattle.brc_model.specs.declared.layout.Layout.{Layout}
use Rattle.brc_model.specs.Layout.{row_count}
use Rattle.brc_table.specs.Hands.{TableState}
use Rattle.brc_heap.proofs.FewRows.{few_rows}
use Rattle.brc_list.proofs.lists.Lists.swap_item.Goals as goal

pub overflow_cast-result : goal.overflow_cast-result
overflow_cast-result g c =
    let same : c.words-words.result.now ≡ c.args.self.now = c.words-words.ensures ∙ c.self.view_is in
    let few =
    few_rows c.words-words.result.now.lines c.words-words.result.now.layout c.layout_is_plain.ensures
    c.lines_are_there.ensures in
    let there : c.cell_swap-old.result ≤ row_count c.words-words.result.now.layout =
    subst (λ (l : Layout). c.cell_swap-old.result ≤ row_count l)
    (c.requires.table.1 ∙ sym (ap (λ (t : TableState). t.layout) same)) c.cell_swap-old.ensures.there in
    omega (arith, there, few)
