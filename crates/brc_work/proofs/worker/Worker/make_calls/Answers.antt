use Rattle.std.proofs.Common.{ℕ, ◌+◌, Bool, List, ◌++◌, sym, subst, arith}
use Rattle.brc_host.specs.HostCalls.{HostCall}
use Rattle.brc_work.specs.Runs.{CallsOnce, StopsBy, Between, Within}
use Rattle.brc_work.specs.Traces.{program_of, MakesCalls, NoCall, OneMore}
use Rattle.brc_work.proofs.Calling.{not_called, called_then, called_ready}
use Rattle.brc_work.proofs.Counting.{asked_nothing, asked_as, asked_then}
use Rattle.brc_work.proofs.worker.Worker.make_calls.Goals as goal

pub loop-call-init : goal.loop-call-init
loop-call-init g c = (
  c.requires.of,
  not_called c.args.hand.now c.requires.ready,
  asked_nothing (0, omega arith, NoCall),
)

pub returns-then-left-eq0-clause-asked : goal.returns-then-left-eq0-clause-asked
returns-then-left-eq0-clause-asked g c =
    let program = program_of c.args.checked.now.module c.args.function in
    asked_as (λ cs made.
    Between c.loop-call.call cs c.loop-call.hand.view c.loop-call-test.true
    (subst (λ (n : ℕ). MakesCalls program c.args.hand.now.view c.loop-call.call n cs c.loop-call.hand.view)
    (omega (arith, made.1, c.if-left-eq0.true)) made.2)) c.loop-call.invariant.2

pub look_and_call-requires-clause-ready : goal.look_and_call-requires-clause-ready
look_and_call-requires-clause-ready g c = λ κs lives.
    called_ready c.args.hand.now c.loop-call.hand c.requires.ready c.loop-call.invariant.1

pub returns-then-not-look_and_call-clause-asked : goal.returns-then-not-look_and_call-clause-asked
returns-then-not-look_and_call-clause-asked g c =
    let program = program_of c.args.checked.now.module c.args.function in
    let v = c.args.hand.now.view in
    let u = c.loop-call.hand.view in
    let w = c.look_and_call.new.hand.view in
    asked_then (λ cs ds made looks.
    subst (λ (es : List HostCall). StopsBy program c.args.times c.args.steps v (cs ++ es) w) (sym looks.calls_are)
    (Within c.loop-call.call made.0 c.loop-call.left cs looks.closes looks.within u looks.looked w
    c.loop-call-test.true made.2 looks.looks made.1
    (subst (λ (b : Bool). CallsOnce program c.loop-call.left c.look_and_call.new.left b looks.within looks.looked w)
    c.if-not-look_and_call.true looks.called)))
    c.loop-call.invariant.2 c.look_and_call.ensures.asked

pub loop-call-preserved : goal.loop-call-preserved
loop-call-preserved g c =
    let program = program_of c.args.checked.now.module c.args.function in
    let v = c.args.hand.now.view in
    let u = c.loop-call.hand.view in
    let w = c.look_and_call.new.hand.view in (
      c.look_and_call.ensures.of,
      called_then c.args.hand.now c.loop-call.hand c.look_and_call.new.hand c.loop-call.invariant.1
          c.look_and_call.ensures.called,
      asked_then (λ cs ds made looks.
          let ended =
          subst (λ (b : Bool). CallsOnce program c.loop-call.left c.look_and_call.new.left b looks.within looks.looked
          w)
          c.if-not-look_and_call.false looks.called in (
            made.0 + ended.0,
            omega (arith, made.1, ended.1),
            subst (λ (es : List HostCall).
                MakesCalls program v (c.loop-call.call + 1) (made.0 + ended.0) (cs ++ es) w) (sym looks.calls_are)
                (OneMore c.loop-call.call made.0 ended.0 cs looks.closes looks.within u looks.looked w made.2
                looks.looks ended.2),
          )) c.loop-call.invariant.2 c.look_and_call.ensures.asked,
    )
