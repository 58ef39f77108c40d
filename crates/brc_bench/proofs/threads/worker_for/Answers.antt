use Rattle.std.proofs.Common.{ℕ, subst}
use Rattle.brc_model.specs.declared.layout.Layout.{Layout}
use Rattle.brc_model.specs.Layout.{root_row, IsCounted}
use Rattle.brc_model.proofs.Basics.Blocks.{root_counted}
use Rattle.brc_bench.proofs.FirstSwaps.{rests_after_birth, both_born, holds_list, holds_root, born_without, born_with}
use Rattle.brc_bench.proofs.threads.worker_for.Goals.{in-Pairs, in-Swaps, in-SwapsAtRoot, in_default}
use Rattle.brc_bench.proofs.threads.worker_for.Goals as goal

pub invariant_of-result : goal.invariant_of-result
invariant_of-result c =
    let list : ℕ = c.birth-list.result in
    let item : ℕ = c.birth-item.result in
    let first = c.in_ok-hand.ensures.worker in
    let second = rests_after_birth c.birth-list.new.hand first c.birth-list.ensures.table c.birth-list.ensures.born in
    let rest = rests_after_birth c.birth-item.new.hand second c.birth-item.ensures.table c.birth-item.ensures.born in
    let root = root_counted c.args.heap.now.layout in
    let counted = subst (λ (l : Layout). IsCounted l list) first.table.1 c.birth-list.ensures.counted in
    let item_counted = subst (λ (l : Layout). IsCounted l item) second.table.1 c.birth-item.ensures.counted in
    let references =
    both_born c.in_ok-hand.hand c.birth-list.new.hand c.birth-item.new.hand list item c.birth-list.ensures.born
    c.birth-item.ensures.born c.birth-list.ensures.row c.birth-item.ensures.row c.in_ok-hand.ensures.holds in
    record {
      ready = elim c.match-work.branch [
        | in-Pairs w ↦ rw w.result-is (born_without list list item rest references counted (holds_list list))
        | in-Swaps w ↦ rw w.result-is (born_with list list item rest references counted item_counted (holds_list list))
        | in-SwapsAtRoot w ↦
            rw w.result-is (born_with root_row list item rest references root item_counted (holds_root list))
        | in_default w ↦ rw w.result-is (born_without root_row list item rest references root (holds_root list))
      ];
    }
