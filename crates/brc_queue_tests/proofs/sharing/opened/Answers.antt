use Rattle.std.proofs.Common.{ap, ◌∙◌}
use Rattle.brc_lang.specs.declared.module.Module.{Module}
use Rattle.brc_model.specs.StepMachine.{layout_of}
use Rattle.brc_table.specs.Views.{main_view}
use Rattle.brc_queue_tests.proofs.Opening.{main_holds, worker_holds, still_holds}
use Rattle.brc_queue_tests.proofs.sharing.opened.Goals as goal

pub returns-clause-main : goal.returns-clause-main
returns-clause-main c =
    let opens = c.in_ok-heap.ensures in
    let first = c.in_ok-one.ensures in
    let second = c.in_ok-two.ensures in
    let small = ap (λ (m : Module). layout_of m 2 2) c.plain_module-plain.ensures in
    let begun =
    main_holds {main = c.in_ok-heap.main} opens.table (opens.view ∙ ap main_view small) opens.none in
    let once = still_holds {after = c.hand_out.new.main} 1 begun first.table.1 first.left first.carried in
    still_holds {after = c.hand_out-2.new.main} 2 once second.table.1 second.left second.carried

pub returns-clause-one : goal.returns-clause-one
returns-clause-one c =
    let first = c.in_ok-one.ensures in
    let small = ap (λ (m : Module). layout_of m 2 2) c.plain_module-plain.ensures in
    worker_holds {hand = c.in_ok-one.one} 1 (c.in_ok-heap.ensures.layout ∙ small) first.table.0 first.worker first.none

pub returns-clause-two : goal.returns-clause-two
returns-clause-two c =
    let second = c.in_ok-two.ensures in
    let small = ap (λ (m : Module). layout_of m 2 2) c.plain_module-plain.ensures in
    worker_holds {hand = c.in_ok-two.two} 2 (c.in_ok-heap.ensures.layout ∙ small) second.table.0 second.worker
    second.none
