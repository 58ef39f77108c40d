use Rattle.std.proofs.Common.{◌≡◌, ℕ, List, sym, ap, ◌∙◌, subst}
use Rattle.std.specs.Slots.{slots_items, slots_counts}
use mathlib.Core.Option.{some}
use lib.ListN.{get_elem?}
use Rattle.brc_model.specs.declared.layout.Layout.{Layout}
use Rattle.brc_model.specs.Counting.{IsPlainLayout}
use Rattle.brc_model.specs.FirstRows.{HasLines}
use Rattle.brc_model.specs.Layout.{row_count}
use Rattle.brc_table.specs.Plan.{Plan}
use Rattle.brc_table.specs.Hands.{HandState, TableState}
use Rattle.brc_table.specs.Homes.{TableStands}
use Rattle.brc_table.specs.Places.{word_count}
use Rattle.brc_table.specs.Ending.{CellsNameRows}
use Rattle.brc_table.proofs.Ending.{cells_name_rows, ends_with}
use Rattle.brc_table.proofs.words.Words.close.Goals as goal

pub invariant_of-result : goal.invariant_of-result
invariant_of-result g c =
    let values = c.close_with.ensures.values in
    let last = values.2 in
    let holds = last.1.0 in
    let key = c.self.inside.table.shared.key in
    let is : c.layout.result ≡ key.layout = c.layout.ensures ∙ c.self.invariant.0 in (
      values.0,
      values.1,
      c.close_with.ensures.counts.0 ∙ (c.self.invariant.1 ∙ ap word_count (sym is)),
      subst IsPlainLayout (sym is) c.self.invariant.2,
      subst (λ (l : Layout). CellsNameRows l (slots_items c.close_with.result.words)) (sym is)
          (subst (CellsNameRows key.layout) last.2
          (cells_name_rows c.items_are_there.ensures key last.0.words last.0.views holds.stands)),
      (slots_counts c.close_with.result.slots).0
          ∙ (sym last.3 ∙ (holds.fields.rows ∙ ap row_count (holds.stands.layout_is ∙ sym is))),
      c.self.invariant.3 ∙ sym is,
      subst (λ (l : Layout). HasLines c.of-of.result.value.lines l) (sym is)
          (subst (λ (w : TableState). HasLines w.lines key.layout) (c.self.view_is ∙ sym c.of-of.ensures)
          c.self.invariant.4),
    )

pub returns-clause-ends : goal.returns-clause-ends
returns-clause-ends g c =
    let last = c.close_with.ensures.values.2 in
    let key = c.self.inside.table.shared.key in
    let layout = c.layout.result in
    let lines = c.of-of.result.value.lines in
    let words = slots_items c.close_with.result.words in
    let homes = last.0.homes in
    let views = last.0.views in
    let is : layout ≡ key.layout = c.layout.ensures ∙ c.self.invariant.0 in
    let lines_is : lines ≡ key.lines = ap (λ (w : TableState). w.lines) (c.of-of.ensures ∙ sym c.self.view_is) in
    let plan : Plan = record { layout = layout; lines = lines } in
    let holds : TableStands plan words homes views =
    subst (λ (l : Layout). TableStands (record { layout = l; lines = lines }) words homes views) (sym is)
    (subst (λ (ls : List (List ℕ)). TableStands (record { layout = key.layout; lines = ls }) words homes views)
    (sym lines_is)
    (subst (λ (ws : List ℕ). TableStands key ws homes views) last.2 last.1.0)) in
    let here : get_elem? views c.hand.inside.seat.id ≡ some c.args.hand.view =
    last.1.1 ∙ ap (λ (h : HandState). some h.view) c.hand.view_is in
    ends_with plan words homes views (slots_items c.close_with.result.slots) c.of-of.result.value.table
    c.args.hand.view c.hand.inside.seat.id holds here last.4
