use Rattle.std.proofs.Common.{sym, ◌∙◌}
use Rattle.brc_work.proofs.Counting.{asked_as, asked_nothing}
use Rattle.brc_work.proofs.LockedList.{out_is, out_kept}
use Rattle.brc_work.proofs.Traces.Swaps.{swaps_nothing, swaps_item}
use Rattle.brc_work.proofs.worker.Worker.exchange.Goals as goal

pub release-requires-clause-keeps : goal.release-requires-clause-keeps
release-requires-clause-keeps g c = λ κs lives says.
    let hand = c.args.hand.now in
    let after = c.swap_item-found.new.hand in
    let swaps = c.swap_item-found.ensures.swaps in
    out_kept hand after c.args.row c.args.item c.in-Some.old c.requires.held c.requires.locked
    c.requires.puts c.swap_item-found.ensures.keeps.layout (c.swap_item-found.ensures.locked ∙ c.requires.locked)
    (out_is hand after c.args.row c.args.cell c.args.item c.in-Some.old swaps.0 c.swap_item-found.result swaps.1 swaps.2
    c.in-Some.is) says

pub returns-in-Some-clause-asked : goal.returns-in-Some-clause-asked
returns-in-Some-clause-asked g c =
    let swaps = c.swap_item-found.ensures.swaps in
    asked_as (λ cs.
    swaps_item {cs = cs} c.args.row c.args.cell c.args.item swaps.0 c.in-Some.old c.args.hand.now.view
    c.swap_item-found.new.hand.view c.release.new.hand.view c.requires.rests.agenda
    (sym swaps.2 ∙ c.in-Some.is) swaps.1.view_is) c.release.ensures.asked

pub returns-in-None-clause-asked : goal.returns-in-None-clause-asked
returns-in-None-clause-asked g c =
    let swaps = c.swap_item-found.ensures.swaps in
    asked_nothing
    (swaps_nothing c.args.row c.args.cell c.args.item swaps.0 c.args.hand.now.view c.swap_item-found.new.hand.view
    c.requires.rests.agenda c.requires.rests.settled (sym swaps.2 ∙ c.in-None.is) swaps.1.view_is)
