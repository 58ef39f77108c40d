use Rattle.std.proofs.Common.{ℕ, Option, None, [], ◌∷◌, List, map, replicate, sym, ap, ◌∙◌, subst}
use mathlib.Core.Option.{some}
use Rattle.brc_table.specs.declared.view.View.{View}
use Rattle.brc_table.specs.Homes.{TableStands}
use Rattle.brc_table.specs.Views.{main_view}
use Rattle.brc_table.specs.Opening.{AreFirst}
use Rattle.brc_table.specs.Plan.{Plan}
use Rattle.brc_table.proofs.FirstHand.{first_hold}
use Rattle.brc_table.proofs.Opening.{fields_open}
use Rattle.brc_table.proofs.Spares.{nothing}
use Rattle.brc_table.proofs.FewRows.{few_by_lines}
use Rattle.brc_table.proofs.NewHands.{NewFits, main_fits}
use Rattle.brc_table.proofs.words.Words.new.Goals as goal

pub vacant-requires : goal.vacant-requires
vacant-requires g c =
    let layout = c.args.layout in
    let lines = c.args.lines.now in
    let words = c.as_slice-2.result.now in
    let first : AreFirst lines layout words =
    subst (AreFirst lines layout) (sym c.as_slice-2.ensures.value)
    (subst (λ (ls : List (List ℕ)). AreFirst ls layout c.in_ok-words.words.items) c.as_slice.ensures
    c.in_ok-words.ensures) in
    let open_now =
    fields_open c.hands_begin.ensures (record { layout = layout; lines = lines })
    c.requires.plain c.requires.lines words
    first in
    subst (λ (ls : List (List ℕ)). TableStands (record { layout = layout; lines = ls }) words
    (map some (replicate c.row_count-fields.result None)) (main_view layout ∷ [])) (sym c.of.ensures)
    (subst (λ (n : ℕ). TableStands (record { layout = layout; lines = lines }) words
    (map some (replicate n None)) (main_view layout ∷ [])) (sym c.row_count-fields.ensures) open_now)

pub invariant_of-main : goal.invariant_of-main
invariant_of-main g c =
    subst (λ (n : ℕ). NewFits 0 n c.in_ok-spares.spares.items c.in_ok-carried.carried.value c.in_ok-table.seat.me)
    (sym c.block_size.ensures)
    (main_fits c.args.layout c.in_ok-spares.spares.items c.in_ok-carried.carried.value
    c.in_ok-table.seat.me (few_by_lines c.args.lines.now c.args.layout c.requires.plain c.requires.lines)
    c.in_ok-spares.ensures.count c.in_ok-spares.ensures.left c.in_ok-carried.ensures c.in_ok-table.ensures.4)

pub returns-clause-none : goal.returns-clause-none
returns-clause-none g c = λ x. nothing c.in_ok-carried.carried.value c.in_ok-carried.ensures _

pub returns-clause-first : goal.returns-clause-first
returns-clause-first g c =
    let made = c.in_ok-table in
    first_hold made.table.shared.key made.seat.me.0
    (ap (λ (me : View × List (ℕ × Option _)). me.0) made.ensures.4
    ∙ ap (λ (plan : Plan). main_view plan.layout) (sym made.ensures.5))
