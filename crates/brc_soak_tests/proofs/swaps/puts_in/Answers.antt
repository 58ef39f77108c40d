use Rattle.std.proofs.Common.{ℕ, List, ◌≤◌, sym, subst, arith}
use Rattle.brc_table.specs.Views.{without_one}
use Rattle.brc_soak_tests.specs.Ledgers.{with_found}
use Rattle.brc_soak_tests.proofs.Counting.{times, tells_less, tells_equal, tells_whole, tells_held, held_after, held_with, put_leaves}
use Rattle.brc_soak_tests.proofs.swaps.puts_in.Goals as goal

pub counts_found-requires-clause-whole : goal.counts_found-requires-clause-whole
counts_found-requires-clause-whole c =
    let rows : List ℕ = c.args.hand.now.view.references in
    tells_whole c.less.new.self (without_one c.args.item rows)
    (tells_less c.args.ledger.now c.less.new.self rows c.args.item c.requires.tells c.requires.some
    c.less.ensures.counts
    c.less.ensures.total)

pub returns-clause-held : goal.returns-clause-held
returns-clause-held c =
    let rows : List ℕ = c.args.hand.now.view.references in
    let none = c.requires.resting.no_lists in
    let swaps = c.swap_item-found.ensures.swaps in
    let left =
    put_leaves c.args.heap.now.layout c.args.hand.now.view.layout swaps.0 c.args.item c.swap_item-found.result rows
    c.swap_item-found.new.hand.view.references none c.requires.resting.table.1 c.requires.item swaps.1.references
    swaps.2 in
    subst (λ (ys : List ℕ). 1 ≤ times c.args.list ys) (sym left)
    (held_with c.args.list c.swap_item-found.result (without_one c.args.item rows)
    (held_after c.args.list c.args.item rows c.requires.held
    (λ e. tells_held c.args.ledger.now c.args.hand.now c.args.item 2 c.requires.tells (omega arith)
    (c.requires.several e))))

pub returns-clause-tells : goal.returns-clause-tells
returns-clause-tells c =
    let rows : List ℕ = c.args.hand.now.view.references in
    let item : ℕ = c.args.item in
    let none = c.requires.resting.no_lists in
    let swaps = c.swap_item-found.ensures.swaps in
    let later : List ℕ = c.swap_item-found.new.hand.view.references in
    let left =
    put_leaves c.args.heap.now.layout c.args.hand.now.view.layout swaps.0 item c.swap_item-found.result rows later
    none c.requires.resting.table.1 c.requires.item swaps.1.references swaps.2 in
    tells_equal c.counts_found.new.ledger (with_found c.swap_item-found.result (without_one item rows)) later
    (c.counts_found.ensures (without_one item rows) (tells_less c.args.ledger.now c.less.new.self rows item
    c.requires.tells
    c.requires.some c.less.ensures.counts c.less.ensures.total)) left
