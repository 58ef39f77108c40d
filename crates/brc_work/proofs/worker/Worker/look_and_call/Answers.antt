use Rattle.std.proofs.Common.{refl, sym, ap, ◌∙◌}
use Rattle.brc_queue.specs.Scans.{HasScanned, words_used}
use Rattle.brc_table.specs.Hands.{TableState}
use Rattle.brc_work.proofs.Calling.{looked_called, called_then}
use Rattle.brc_work.proofs.Counting.{looks_close, asked_closes, asked_then}
use Rattle.brc_work.proofs.worker.Worker.look_and_call.Goals as goal

pub returns-clause-called : goal.returns-clause-called
returns-clause-called g c =
    let hand = c.args.hand.now in
    let mid = c.merge_pending-failed.new.hand in
    let looked = c.merge_pending-failed.ensures in
    called_then hand mid c.call_from_outside.new.hand
    (looked_called hand mid c.requires.ready looked.keeps looked.free looked.settled
    (looked.table.0 ∙ (ap (λ (w : TableState). w.table) (c.self.invariant ∙ c.self.view_is) ∙ sym c.requires.of.0))
    looked.carried looked.fields)
    c.call_from_outside.ensures.called

pub returns-clause-asked : goal.returns-clause-asked
returns-clause-asked g c =
    let work = c.merge_pending-failed.ensures.work in
    asked_then (λ cs ds looks makes. record {
      looked = c.merge_pending-failed.new.hand.view;
      closes = cs;
      within = ds;
      calls_are = refl;
      looks = looks;
      called = makes;
    })
    (asked_closes {Made = λ cs. HasScanned c.args.hand.now.view (words_used c.args.hand.now.view.actor.used) cs
    c.merge_pending-failed.new.hand.view} work.0 c.merge_pending-failed.result (looks_close _ _ _ work.0 work.1) work.2
    c.count_close_faults.ensures work.3 work.1)
    c.call_from_outside.ensures.asked
