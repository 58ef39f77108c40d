use Rattle.brc_table.proofs.Kept.{kept_on}
use Rattle.std.proofs.Common.{◌≡◌, ℕ, ◌+◌, ◌-◌, ◌*◌, [], refl, sym, ap, ◌∙◌, subst, arith, ◌++◌}
use Rattle.brc_host.specs.HostCalls.{NoCall, close_faults}
use Rattle.brc_host.proofs.Answering.{answered_then, close_faults_then}
use Rattle.brc_host.specs.HostCounts.{raised}
use Rattle.brc_word.specs.Words.{marks_of_word, first_marks, unmarked_word}
use Rattle.brc_model.specs.Layout.{row_at}
use Rattle.brc_model.specs.Duties.{found_row}
use Rattle.brc_model.specs.Knowledge.{AreUsedMarks}
use Rattle.brc_model.proofs.Basics.FoundMarks.{found_used, lowest_used, taken_used, marks_fit, fewer_left}
use Rattle.brc_table.specs.declared.view.View.{View}
use Rattle.brc_table.specs.Views.{view_after, loading_marks}
use Rattle.brc_heap.proofs.Keeping.{keeps_then}
use Rattle.brc_free.proofs.Closes.{sums_both}
use Rattle.brc_queue.specs.Scans.{Claims, ClaimsFound, NoMark, NextMark}
use Rattle.brc_queue.proofs.Scanning.{load_keeps, load_idle}
use Rattle.brc_queue.proofs.queue.Queue.claim_word.Given as given
use Rattle.brc_queue.proofs.queue.Queue.claim_word.Goals.{After-first_marks-marks}
use Rattle.brc_queue.proofs.queue.Queue.claim_word.Goals as goal

-- The marks are those of the used rows.
marks_are : (g : given.Over) (c : After-first_marks-marks g)
    → c.first_marks-marks.result ≡ first_marks c.marks_load-found.result
    (c.args.hand.now.view.actor.used - marks_of_word * c.args.word)
marks_are g c =
    c.first_marks-marks.ensures
    ∙ ap (λ (k : ℕ). first_marks c.marks_load-found.result (k - marks_of_word * c.args.word)) c.used.ensures

pub marks_load-found-requires-clause-there : goal.marks_load-found-requires-clause-there
marks_load-found-requires-clause-there g c =
    omega (arith, c.requires.used, c.rows_are_there.ensures.used)

pub loop-marks-init : goal.loop-marks-init
loop-marks-init g c =
    let v = c.args.hand.now.view in
    let used = v.actor.used in
    let found = c.marks_load-found.result in
    let u = c.marks_load-found.new.hand.view in
    let view = c.marks_load-found.ensures.view in
    let keeps = load_keeps v u c.args.word found view in
    let marks = marks_are g (goal.at.loop-marks-init g c).After-first_marks-marks in
    let start : View = view_after (loading_marks v c.args.word) found in (
      c.marks_load-found.ensures.kept,
      record {
        running = keeps.status ∙ c.requires.free.running;
        agenda = load_idle v u c.args.word found c.requires.settled view;
        aside = keeps.aside ∙ c.requires.free.aside;
      },
      ap (λ (z : View). z.actor.head) view ∙ c.requires.settled,
      keeps,
      subst (AreUsedMarks used c.args.word) (sym marks)
          (found_used found used c.args.word (used - marks_of_word * c.args.word) refl),
      (
        [],
        subst (λ (k : ℕ). ClaimsFound c.args.word (first_marks found (used - marks_of_word * c.args.word)) start k [] u)
            (sym marks)
            (subst (ClaimsFound c.args.word (first_marks found (used - marks_of_word * c.args.word)) start
            (first_marks found (used - marks_of_word * c.args.word)) []) (sym view) NoMark),
        refl,
        NoCall,
      ),
    )

pub claim-requires-clause-used : goal.claim-requires-clause-used
claim-requires-clause-used g c =
    let kept = c.loop-marks.invariant in
    let low =
    lowest_used c.loop-marks.marks c.args.hand.now.view.actor.used c.args.word c.loop-marks-test.true kept.4 in
    omega (arith, low, c.lowest_mark.ensures.lowest, kept.3.used)

pub loop-marks-smaller : goal.loop-marks-smaller
loop-marks-smaller g c =
    let kept = c.loop-marks.invariant in
    let less = fewer_left c.loop-marks.marks c.loop-marks-test.true
    (marks_fit c.loop-marks.marks c.args.hand.now.view.actor.used c.args.word kept.4) in
    let same = ap (unmarked_word c.loop-marks.marks) c.lowest_mark-in-loop-marks.ensures.lowest in
    omega (arith, less, c.without_mark-marks.ensures, same)

pub loop-marks-preserved : goal.loop-marks-preserved
loop-marks-preserved g c =
    let v = c.args.hand.now.view in
    let u = c.loop-marks.hand.view in
    let w = c.claim.new.hand.view in
    let kept = c.loop-marks.invariant in
    let one = c.claim.ensures in
    let before = kept.5 in
    let marks = c.loop-marks.marks in
    let all = first_marks c.marks_load-found.result (v.actor.used - marks_of_word * c.args.word) in
    let start : View = view_after (loading_marks v c.args.word) c.marks_load-found.result in
    let left = c.without_mark-marks.ensures ∙ ap (unmarked_word marks) c.lowest_mark-in-loop-marks.ensures.lowest in
    let row : row_at u.layout u.thread (marks_of_word * c.args.word + c.lowest_mark.result)
    ≡ found_row u.layout u.thread c.args.word marks =
    ap (λ (k : ℕ). row_at u.layout u.thread (marks_of_word * c.args.word + k)) c.lowest_mark.ensures.lowest in (
      kept_on kept.0 one.kept,
      record {
        running = one.keeps.status ∙ kept.1.running;
        agenda = one.work.1.follows.agenda;
        aside = one.keeps.aside ∙ kept.1.aside;
      },
      one.work.1.settled,
      keeps_then kept.3 one.keeps,
      subst (AreUsedMarks v.actor.used c.args.word) (sym left)
          (taken_used marks v.actor.used c.args.word kept.4),
      (
        before.0 ++ one.work.0,
        subst (λ (k : ℕ). ClaimsFound c.args.word all start k (before.0 ++ one.work.0) w) (sym left)
            (NextMark marks before.0 one.work.0 u w before.1 c.loop-marks-test.true
            (subst (λ (x : ℕ). Claims x one.work.0 u w) row one.work.1)),
        c.saturating_add-failed.ensures
            ∙ (sums_both c.loop-marks.failed c.claim.result (close_faults before.0) (close_faults one.work.0)
            before.2 one.work.2
            ∙ ap (λ (n : ℕ). raised n 0) (sym (close_faults_then before.0 one.work.0))),
        answered_then before.3 one.work.3,
      ),
    )
