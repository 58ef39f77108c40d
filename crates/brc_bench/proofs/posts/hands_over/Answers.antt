use Rattle.std.proofs.Common.{◌≡◌, ◌≤◌, ℕ, Option, List, [], ◌∷◌, ◌++◌, refl, sym, ap, ◌∙◌, subst, arith}
use Rattle.brc_model.specs.declared.layout.Layout.{Layout}
use Rattle.brc_model.specs.Layout.{root_row, IsCounted}
use Rattle.brc_table.specs.Views.{next_row}
use Rattle.brc_table.specs.Swaps.{with_item}
use Rattle.brc_list.specs.Calls.{word_of}
use Rattle.brc_bench.proofs.LockedSwaps.{count_here}
use Rattle.brc_bench.proofs.FirstSwaps.{holds_item}
use Rattle.brc_bench.proofs.HandedOver.{counts_last, length_with_root, took_item}
use Rattle.brc_bench.proofs.posts.hands_over.Goals as goal

pub at_root-requires-clause-holds : goal.at_root-requires-clause-holds
at_root-requires-clause-holds c =
    let item : ℕ = c.birth-item.result in
    let born = c.birth-item.ensures.born in
    let references : c.birth-item.new.hand.view.references ≡ item ∷ root_row ∷ [] =
    born.keeps.references
    ∙ (ap (λ (rows : List ℕ). next_row c.loop-value.owner.view ∷ rows) c.loop-value.invariant.1
    ∙ ap (λ (x : ℕ). x ∷ root_row ∷ []) (sym c.birth-item.ensures.row)) in
    let counted = subst (λ (l : Layout). IsCounted l item) (sym born.keeps.layout) c.birth-item.ensures.counted in (
      root_row ∷ [],
      holds_item {hand = c.birth-item.new.hand} root_row item (root_row ∷ []) counted references
          (let here = count_here root_row [] in omega (arith, here)) (omega arith),
    )

-- What was taken is the number that was put in.
pub posts_or_keeps-requires-clause-first : goal.posts_or_keeps-requires-clause-first
posts_or_keeps-requires-clause-first c =
    subst (IsCounted c.args.heap.now.layout) (sym c.if-row-item.false)
    (subst (λ (l : Layout). IsCounted l c.birth-item.result) c.loop-value.invariant.0.table.1
    c.birth-item.ensures.counted)

pub posts_or_keeps-requires-clause-holds : goal.posts_or_keeps-requires-clause-holds
posts_or_keeps-requires-clause-holds c =
    let others = c.loop-value.rows.items ++ root_row ∷ [] in
    let most : c.min-value-end.result ≤ 512 = grind arith in
    let counted = subst (IsCounted c.args.heap.now.layout) (sym c.if-row-item.false)
    (subst (λ (l : Layout). IsCounted l c.birth-item.result) c.loop-value.invariant.0.table.1
    c.birth-item.ensures.counted) in
    let has = c.if-not-at_root-2.ensures.holds refl others (record {
      references = c.loop-value.invariant.3;
      list = counts_last root_row c.loop-value.rows.items;
      few =
          omega (
            arith,
            length_with_root root_row c.loop-value.rows.items,
            c.loop-value.invariant.5,
            most,
            c.loop-value-test.true,
          );
    }) in
    took_item c.at_root-in-loop-value.new.hand c.in-Some.row root_row _ others has c.in-Some.is
    (subst (λ (l : Layout). IsCounted l c.in-Some.row)
    (sym (c.if-not-at_root-2.ensures.resting refl).table.1) counted)

pub loop-value-preserved : goal.loop-value-preserved
loop-value-preserved c =
    let item : ℕ = c.birth-item.result in
    let born = c.birth-item.ensures.born in
    let references : c.birth-item.new.hand.view.references ≡ item ∷ root_row ∷ [] =
    born.keeps.references
    ∙ (ap (λ (rows : List ℕ). next_row c.loop-value.owner.view ∷ rows) c.loop-value.invariant.1
    ∙ ap (λ (x : ℕ). x ∷ root_row ∷ []) (sym c.birth-item.ensures.row)) in
    let counted = subst (λ (l : Layout). IsCounted l item) (sym born.keeps.layout) c.birth-item.ensures.counted in
    let has =
    c.if-not-at_root.ensures.holds refl (root_row ∷ [])
    (holds_item {hand = c.birth-item.new.hand} root_row item (root_row ∷ []) counted references
    (let here = count_here root_row [] in omega (arith, here)) (omega arith)) in (
      c.if-not-at_root.ensures.resting refl,
      has.references
          ∙ ap (λ (held : Option ℕ). with_item c.at_root.new.hand.view.layout (word_of held) (root_row ∷ []))
          c.in-None.is,
      c.in_ok-posts_or_keeps.ensures.resting,
      c.in_ok-posts_or_keeps.ensures.holds,
      c.in_ok-posts_or_keeps.ensures.counted,
      omega (arith, c.in_ok-posts_or_keeps.ensures.few),
      omega arith,
    )
