use Rattle.brc_table.proofs.Kept.{kept_on}
use Rattle.std.proofs.Common.{◌≡◌, ℕ, ◌-◌, ◌*◌, [], refl, sym, ap, ◌∙◌, subst, arith, ◌++◌}
use Rattle.brc_host.specs.HostCalls.{NoCall, close_faults}
use Rattle.brc_host.proofs.Answering.{answered_then, close_faults_then}
use Rattle.brc_host.specs.HostCounts.{raised}
use Rattle.brc_word.specs.Words.{marks_of_word, first_marks, lowest_mark, unmarked_word}
use Rattle.brc_model.specs.Knowledge.{AreUsedMarks}
use Rattle.brc_model.proofs.Basics.FoundMarks.{found_used, taken_used, marks_fit, fewer_left}
use Rattle.brc_free.specs.Works.{HasWorked}
use Rattle.brc_free.proofs.Working.{worked_then}
use Rattle.brc_free.proofs.Closes.{sums_both}
use Rattle.brc_queue.specs.Scans.{takes_from}
use Rattle.brc_queue.proofs.Scanning.{scanned, scan_head}
use Rattle.brc_queue.proofs.queue.Queue.scan_word.Given as given
use Rattle.brc_queue.proofs.queue.Queue.scan_word.Goals.{After-first_marks-marks}
use Rattle.brc_queue.proofs.queue.Queue.scan_word.Goals as goal

-- The marks are those of the used rows.
marks_are : (g : given.Over) (c : After-first_marks-marks g)
    → c.first_marks-marks.result ≡ first_marks c.step-found.result
    (c.args.hand.now.view.actor.used - marks_of_word * c.args.word)
marks_are g c =
    c.first_marks-marks.ensures
    ∙ ap (λ (k : ℕ). first_marks c.step-found.result (k - marks_of_word * c.args.word)) c.used.ensures

pub loop-marks-init : goal.loop-marks-init
loop-marks-init g c =
    let v = c.args.hand.now.view in
    let used = v.actor.used in
    let found = c.step-found.result in
    let marks = marks_are g (goal.at.loop-marks-init g c).After-first_marks-marks in (
      record {
        table = c.step-found.ensures.table;
        carried = c.step-found.ensures.carried;
        fields = c.step-found.ensures.fields;
      },
      scan_head v c.step-found.new.hand.view used c.args.word found c.requires.duty c.step-found.ensures.view
          c.requires.settled,
      subst (AreUsedMarks used c.args.word) (sym marks)
          (found_used found used c.args.word (used - marks_of_word * c.args.word) refl),
      (
        [],
        subst (λ (k : ℕ). HasWorked v [] (takes_from used c.args.word k) c.step-found.new.hand.view) (sym marks)
            (scanned v c.step-found.new.hand.view used c.args.word found c.requires.duty c.requires.used
            c.step-found.ensures.view),
        refl,
        NoCall,
      ),
    )

pub loop-marks-smaller : goal.loop-marks-smaller
loop-marks-smaller g c =
    let kept = c.loop-marks.invariant in
    let less = fewer_left c.loop-marks.marks c.loop-marks-test.true
    (marks_fit c.loop-marks.marks c.args.hand.now.view.actor.used c.args.word kept.2) in
    let same = ap (unmarked_word c.loop-marks.marks) c.lowest_mark.ensures.lowest in
    omega (arith, less, c.without_mark-marks.ensures, same)

pub loop-marks-preserved : goal.loop-marks-preserved
loop-marks-preserved g c =
    let v = c.args.hand.now.view in
    let u = c.loop-marks.hand.view in
    let w = c.take_found.new.hand.view in
    let kept = c.loop-marks.invariant in
    let one = c.take_found.ensures in
    let before = kept.3 in
    let used = before.1.keeps.used in
    let left = c.without_mark-marks.ensures ∙ ap (unmarked_word c.loop-marks.marks) c.lowest_mark.ensures.lowest in (
      kept_on kept.0 one.kept,
      one.settled,
      subst (AreUsedMarks v.actor.used c.args.word) (sym left)
          (taken_used c.loop-marks.marks v.actor.used c.args.word kept.2),
      (
        before.0 ++ one.work.0,
        subst (λ (k : ℕ). HasWorked v (before.0 ++ one.work.0) (takes_from v.actor.used c.args.word k) w) (sym left)
            (worked_then v u w before.0 one.work.0 (takes_from v.actor.used c.args.word c.loop-marks.marks)
            (takes_from v.actor.used c.args.word (unmarked_word c.loop-marks.marks (lowest_mark c.loop-marks.marks)))
            before.1
            (subst (λ (n : ℕ). HasWorked u one.work.0 (takes_from n c.args.word (unmarked_word c.loop-marks.marks
            (lowest_mark c.loop-marks.marks))) w) used one.work.1)),
        c.saturating_add-failed.ensures
            ∙ (sums_both c.loop-marks.failed c.take_found.result (close_faults before.0) (close_faults one.work.0)
            before.2 one.work.2
            ∙ ap (λ (n : ℕ). raised n 0) (sym (close_faults_then before.0 one.work.0))),
        answered_then before.3 one.work.3,
      ),
    )
