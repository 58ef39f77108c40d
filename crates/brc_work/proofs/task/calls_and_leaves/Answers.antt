use Rattle.std.proofs.Common.{◌≡◌, Bool, refl, sym, ap, ◌∙◌, subst, rules, arith}
use Rattle.brc_host.specs.HostCounts.{raised}
use Rattle.brc_queue.specs.Scans.{HasLeft}
use Rattle.brc_table.specs.declared.view.View.{View}
use Rattle.brc_table.specs.Views.{worker_view}
use Rattle.brc_work.specs.Runs.{RanBy}
use Rattle.brc_work.specs.Traces.{program_of}
use Rattle.brc_work.specs.Totals.{Asked, no_totals, totals_of, is_done}
use Rattle.brc_work.specs.Workers.{CallsAndLeaves}
use Rattle.brc_work.specs.declared.totals.Totals.{Totals}
use Rattle.brc_work.proofs.Calling.{keeps_root}
use Rattle.brc_work.proofs.Counting.{leaves_close, asked_closes, asked_then, totals_with, done_with}
use Rattle.brc_work.proofs.task.calls_and_leaves.Goals as goal

pub leave-failed-requires-clause-root : goal.leave-failed-requires-clause-root
leave-failed-requires-clause-root g c κs within =
    keeps_root c.args.hand.now c.run-ran.new.hand c.run-ran.ensures.called
    (ap (λ v. v.references) c.requires.fresh.view_is)

pub returns : goal.returns
returns g c =
    let run = c.run-ran.ensures in
    let left = c.leave-failed.ensures in
    let mid = c.run-ran.new.hand.view in
    let after = c.leave-failed.new.hand.view in
    let program = program_of c.args.checked.now.module c.args.function in
    let none : c.args.hand.now.view.actor.used ≡ 0 = ap (λ (v : View). v.actor.used) c.requires.fresh.view_is in
    let bears = run.created in
    let used = left.used in
    let counted = c.count_close_faults.new.self in
    let faults = c.leave-failed.result in
    let counts = c.count_close_faults.ensures
    ∙ ap (λ (t : Totals). record t { close_faults = raised faults t.close_faults }) c.totals-totals.ensures in
    let totals : totals_of c.with_totals.result ≡ counted =
    ap totals_of c.with_totals.ensures ∙ totals_with counted c.run-ran.result in
    let done : is_done c.with_totals.result ≡ is_done c.run-ran.result =
    ap is_done c.with_totals.ensures ∙ done_with counted c.run-ran.result in
    let same = ap (λ (t : Totals). t.created) totals in
    let born = ap (λ (t : Totals). t.created) counts in
    let thread = c.args.hand.now.view.thread in
    record {
      gone = record {
        hand_is = record {
          of = search rules;
          thread_is = left.thread ∙ run.called.follows.thread;
          gone = left.gone;
          no_field = left.fields ∙ (run.called.fields ∙ c.requires.fresh.no_field);
        };
        idle = left.idle;
        holds_none = left.holds_none;
        created = same ∙ (born ∙ omega (arith, none, bears, used));
        later = c.leave-failed.new.host;
        asked = subst (λ (t : Totals). Asked g.H.Host.answers g.H.Host.counts c.args.host.now c.leave-failed.new.host
            no_totals t (λ calls. CallsAndLeaves program c.args.times c.args.steps (is_done c.with_totals.result) calls
            (worker_view c.args.heap.now.layout thread) after)) (sym totals)
            (asked_then (λ cs ds makes leaves. record {
              called = mid;
              within = cs;
              closes = ds;
              calls_are = refl;
              ran = subst (λ (b : Bool). RanBy program c.args.times c.args.steps b cs
                  (worker_view c.args.heap.now.layout thread) mid) (sym done)
                  (subst (λ (v : View). RanBy program c.args.times c.args.steps (is_done c.run-ran.result) cs v mid)
                  c.requires.fresh.view_is makes);
              leaves = leaves;
            }) run.asked
            (asked_closes {Made = λ ds. HasLeft ds mid after} left.work.0 faults
            (leaves_close _ _ left.work.0 left.work.1) left.work.2 counts left.work.3 left.work.1));
        unbounded = λ enough. done ∙ run.unbounded enough;
      };
    }
