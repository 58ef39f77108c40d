use Rattle.std.specs.Prelude.{◌≡◌, ℕ, ◌<◌, length, get_or, vec_items, vec_len}
use Rattle.std.proofs.Common.{rules, arith, Ok, Err, IfOk, OnOk, sym, ap, ◌∙◌, subst}
use Rattle.std.proofs.lemmas.List.{length-map}
use Rattle.brc_host.specs.HostCalls.{close_faults}
use Rattle.brc_host.specs.HostCounts.{raised}
use Rattle.brc_lang.specs.declared.module.Module.{Module}
use Rattle.brc_model.specs.StepMachine.{layout_of}
use Rattle.brc_report.specs.declared.tally.Tally.{Tally}
use Rattle.brc_table.specs.Hands.{HandState}
use Rattle.brc_table.specs.Views.{HasJoined}
use Rattle.brc_work.specs.declared.ran.Ran.{Ran}
use Rattle.brc_work.specs.Totals.{no_totals, totals_of}
use Rattle.brc_run.specs.Runs.{totals_in}
use Rattle.brc_run.specs.Tallies.{tally_at_end}
use Rattle.brc_run.proofs.Created.{created_by_all, used_by_all}
use Rattle.brc_run.proofs.running.run.Goals.{in-Ok, in-Err}
use Rattle.brc_run.proofs.running.run.Goals as goal

-- Each worker that `fan_out` answers is gone.
pub joined-counted-requires-clause-gone : goal.joined-counted-requires-clause-gone
joined-counted-requires-clause-gone g c = λ k w below.
    let hand = (c.in-Ok.ensures.gone k w c.args.main_host.now below).hand_is in (hand.of, hand.gone, hand.no_field)

-- The tally is that of the workers that `fan_out` answers, and of the end after main's leave.
pub returns-clause-tally : goal.returns-clause-tally
returns-clause-tally g c = elim c.match-ran.branch [
  | in-Ok w ↦
      let gone = w.in-Ok.gone in
      let as_many : vec_len gone ≡ c.args.plan.threads = w.in-Ok.ensures.one_each ∙ c.requires.one_each in
      let counted = c.left-failed.ensures.counted in
      let len : length (vec_items gone) ≡ vec_len gone = search rules in
      let end = c.finished-end.result.state in
      let m = c.args.checked.now.module in
      let opened : c.in_ok-heap.heap.layout ≡ layout_of m c.args.plan.threads c.args.plan.rows =
      c.in_ok-heap.ensures.layout
      ∙ ap (λ (p : Module). layout_of p c.args.plan.threads c.args.plan.rows) c.module.ensures.value in
      let lines : c.in_ok-heap.heap.lines ≡ m.statics =
      c.in_ok-heap.ensures.lines ∙ ap (λ (p : Module). p.statics) c.module.ensures.value in
      let layout = c.finished-end.ensures.layout ∙ opened in
      let ok : w.joined-counted.result ≡ Ok c.in_ok-totals.totals = sym w.counted-is ∙ c.in_ok-totals.was in
      let items : vec_items c.in_ok-totals.totals ≡ totals_in (vec_items gone) =
      subst (λ r. IfOk r (λ totals. vec_items totals ≡ totals_in (vec_items gone))) ok w.joined-counted.ensures.totals
      in
      let each =
      subst (λ r. OnOk r ((k : ℕ) (v : _) → k < vec_len gone → let hand = (get_or (vec_items gone) k v).0 in
      HasJoined w.joined-counted.new.main.view (record { thread = hand.view.thread; used = hand.view.actor.used }))) ok
      w.joined-counted.ensures.each in
      let tally
      : c.in_ok-tally.tally
      ≡ tally_at_end end c.args.plan.threads (totals_in (vec_items gone)) (raised (close_faults counted.0) 0) =
      search (rules, c.in_ok-tally.ensures, items, counted.4) in
      record {
        closes = counted.0;
        first = counted.1;
        last = counted.2;
        leaves = counted.3;
        host = counted.5;
        counted = record {
          heap = c.in_ok-heap.heap;
          same = opened;
          lines = lines;
          gone = vec_items gone;
          end = end;
          one_each = search (rules, as_many);
          each = λ k v h below. w.in-Ok.ensures.gone k v h (omega (arith, below, as_many));
          of = c.finished-end.ensures.table;
          layout = layout;
          ended = c.finished-end.ensures.ended;
          counted = tally;
          created =
              ap (λ (t : Tally). t.created) tally
              ∙ created_by_all m end c.args.plan.threads c.args.plan.rows layout
              c.finished-end.ensures.ended (totals_in (vec_items gone))
              (length-map (vec_items gone) (λ (v : HandState × Ran). totals_of v.1) ∙ (len ∙ as_many))
              (λ k d low. used_by_all end c.match-ran.main.view.joined
              c.finished-end.ensures.joined (vec_items gone)
              (λ i v below. subst (λ (u : HandState). let hand = (get_or (vec_items gone) i v).0 in
              HasJoined u.view (record { thread = hand.view.thread; used = hand.view.actor.used })) (sym w.main-is)
              (each i v (omega (arith, below, len))))
              (λ i v below. (w.in-Ok.ensures.gone i v c.args.main_host.now
              (omega (arith, below, len))).hand_is.thread_is)
              (λ i v below. (w.in-Ok.ensures.gone i v c.args.main_host.now (omega (arith, below, len))).created) k d
              (omega (arith, low, len, as_many))) no_totals;
        };
      }
  | in-Err w ↦ absurd (let wrong : Err w.into.result ≡ Ok c.in_ok-totals.totals = sym w.counted-is
      ∙ c.in_ok-totals.was in cc)
]
