use Rattle.std.proofs.Common.{◌≡◌, true, rules, sym, ◌∙◌}
use Rattle.brc_plain.specs.Plains.{machine_in}
use Rattle.brc_replay.specs.WrongRuns.{goes_on}
use Rattle.brc_replay.proofs.Replays.{wrong_if_bad, wrong_if_leaks}
use Rattle.brc_replay.proofs.wrong.go_wrong.Goals as goal

pub returns-then-branch : goal.returns-then-branch
returns-then-branch c = λ yes.
    let on : goes_on c.in-Some.last.now.choice ≡ true = search rules in
    let taken : c.in_ok-replay.field-0 ≡ true = search rules in
    wrong_if_bad (machine_in c.args.plain.now) (machine_in c.replay.new.plain) c.args.events.now c.in-Some.before.now
    c.in-Some.last.now c.in-Some.ensures.cases.0 on (c.in_ok-replay.ensures taken)
    (sym c.in_ok-is_bad.ensures ∙ c.if-branch.true)

pub returns : goal.returns
returns c = λ yes.
    let on : goes_on c.in-Some.last.now.choice ≡ true = search rules in
    let taken : c.in_ok-replay.field-0 ≡ true = search rules in
    wrong_if_leaks (machine_in c.args.plain.now) (machine_in c.replay.new.plain) (machine_in c.step.new.self)
    c.args.events.now c.in-Some.before.now c.in-Some.last.now c.in-Some.ensures.cases.0 on
    (c.in_ok-replay.ensures taken) c.in_ok-step.ensures (c.leaks.ensures yes)
