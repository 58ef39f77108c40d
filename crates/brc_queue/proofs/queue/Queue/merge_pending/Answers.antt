use Rattle.brc_table.proofs.Kept.{kept_on, kept_itself}
use Rattle.brc_queue.proofs.Scanning.{word_used}
use Rattle.std.proofs.Common.{arith, refl, sym, ap, ◌∙◌, ℕ, [], ◌++◌}
use Rattle.brc_host.specs.HostCalls.{NoCall, close_faults}
use Rattle.brc_host.proofs.Answering.{answered_then, close_faults_then}
use Rattle.brc_host.specs.HostCounts.{raised}
use Rattle.brc_queue.specs.Scans.{NoWord, NextWord}
use Rattle.brc_heap.proofs.Keeping.{keeps_first, keeps_then}
use Rattle.brc_free.proofs.Closes.{sums_both}
use Rattle.brc_queue.proofs.queue.Queue.merge_pending.Goals as goal

pub loop-word-init : goal.loop-word-init
loop-word-init g c =
    let v = c.args.hand.now.view in (
      kept_itself _,
      c.requires.free,
      c.requires.settled,
      keeps_first v,
      (
        [],
        NoWord,
        refl,
        NoCall,
      ),
    )

pub loop-word-preserved : goal.loop-word-preserved
loop-word-preserved g c =
    let v = c.args.hand.now.view in
    let u = c.loop-word.hand.view in
    let w = c.claim_word.new.hand.view in
    let kept = c.loop-word.invariant in
    let one = c.claim_word.ensures in
    let before = kept.4 in (
      kept_on kept.0 one.kept,
      one.free,
      one.settled,
      keeps_then kept.3 one.keeps,
      (
        before.0 ++ one.work.0,
        NextWord c.loop-word.word before.0 one.work.0 u w before.1 one.work.1,
        c.saturating_add-failed.ensures
            ∙ (sums_both c.loop-word.failed c.claim_word.result (close_faults before.0)
            (close_faults one.work.0) before.2
            one.work.2
            ∙ ap (λ (n : ℕ). raised n 0) (sym (close_faults_then before.0 one.work.0))),
        answered_then before.3 one.work.3,
      ),
    )

pub claim_word-requires-clause-used : goal.claim_word-requires-clause-used
claim_word-requires-clause-used g c =
    let v = c.args.hand.now.view in
    let kept = c.loop-word.invariant in
    omega (
      arith,
      kept.3.used,
      word_used v.actor.used c.loop-word.word (omega
          (arith, c.loop-word-test.true, c.words_used-word-end.ensures, c.used.ensures)),
    )
