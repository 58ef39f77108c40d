use Rattle.brc_table.proofs.Kept.{kept_on, kept_itself}
use Rattle.std.proofs.Common.{◌≡◌, ℕ, ◌+◌, ◌-◌, [], ◌∷◌, refl, sym, ap, ◌∙◌, subst, arith, ◌++◌}
use Rattle.brc_host.specs.HostCalls.{NoCall, close_faults}
use Rattle.brc_host.proofs.Answering.{answered_then, close_faults_then}
use Rattle.brc_host.specs.HostCounts.{raised}
use Rattle.brc_model.specs.declared.duty.Duty.TheVariants.{Scan, Finish}
use Rattle.brc_model.specs.Duties.{ready}
use Rattle.brc_free.specs.Works.{HasWorked}
use Rattle.brc_free.proofs.Working.{worked_first, worked_then}
use Rattle.brc_free.proofs.Closes.{sums_both}
use Rattle.brc_queue.specs.Scans.{scans_from}
use Rattle.brc_queue.proofs.queue.Queue.scan.Goals as goal

pub loop-word-init : goal.loop-word-init
loop-word-init g c =
    let v = c.args.hand.now.view in (
      kept_itself _,
      c.requires.settled,
      (
        [],
        worked_first v (scans_from v.actor.used 0) (c.requires.duty
            ∙ ap (λ (n : ℕ). ready v.actor.head (Scan 0 n ∷ Finish ∷ [])) (all_left v.actor.used)),
        refl,
        NoCall,
      ),
    ) where
      all_left : (n : ℕ) → n ≡ n - 0
      all_left n = omega (arith)

pub loop-word-preserved : goal.loop-word-preserved
loop-word-preserved g c =
    let v = c.args.hand.now.view in
    let u = c.loop-word.hand.view in
    let w = c.scan_word.new.hand.view in
    let kept = c.loop-word.invariant in
    let one = c.scan_word.ensures in
    let before = kept.2 in (
      kept_on kept.0 one.kept,
      one.settled,
      (
        before.0 ++ one.work.0,
        worked_then v u w before.0 one.work.0 (scans_from v.actor.used c.loop-word.word)
            (scans_from v.actor.used (c.loop-word.word + 1)) before.1
            (subst (λ (n : ℕ). HasWorked u one.work.0 (scans_from n (c.loop-word.word + 1)) w) before.1.keeps.used
            one.work.1),
        c.saturating_add-failed.ensures
            ∙ (sums_both c.loop-word.failed c.scan_word.result (close_faults before.0) (close_faults one.work.0)
            before.2 one.work.2
            ∙ ap (λ (n : ℕ). raised n 0) (sym (close_faults_then before.0 one.work.0))),
        answered_then before.3 one.work.3,
      ),
    )
