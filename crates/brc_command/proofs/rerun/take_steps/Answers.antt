use Rattle.std.proofs.Common.{rules}
use Rattle.brc_plain.specs.Plains.{machine_in}
use Rattle.brc_command.specs.Reruns.{first_of}
use Rattle.brc_command.proofs.Reports.{nothing_told, told_more}
use Rattle.brc_command.proofs.RightSteps.{all_made, event_made, none_made, stops_at}
use Rattle.brc_command.proofs.rerun.take_steps.Goals as goal

pub loop-at-init : goal.loop-at-init
loop-at-init g c = record {
  made = none_made (first_of c.args.rerun.now) (machine_in c.args.plain.now) c.args.rerun.now.events.now
      c.requires.begins;
  told = nothing_told _ _;
}

pub loop-at-preserved : goal.loop-at-preserved
loop-at-preserved g c = record {
  made = event_made (first_of c.args.rerun.now) (machine_in c.loop-at.plain) (machine_in c.take_step.new.plain)
      c.args.rerun.now.events.now c.loop-at.at _ c.loop-at-test.true c.loop-at.invariant.made
      (c.in-Ok-true.ensures.right (search rules)) (c.in-Ok-true.ensures.made (search rules));
  told = told_more _ _ _ _ c.loop-at.invariant.told c.in_ok-made.ensures.told;
}

pub wrong_at-requires-clause-stops : goal.wrong_at-requires-clause-stops
wrong_at-requires-clause-stops g c =
    stops_at (first_of c.args.rerun.now) c.args.rerun.now.events.now c.loop-at.at c.loop-at-test.true
    c.loop-at.invariant.made.right

pub returns-in-Err-OutOfBounds-clause-ended : goal.returns-in-Err-OutOfBounds-clause-ended
returns-in-Err-OutOfBounds-clause-ended g c =
    stops_at (first_of c.args.rerun.now) c.args.rerun.now.events.now c.loop-at.at c.loop-at-test.true
    c.loop-at.invariant.made.right

pub returns-clause-ended : goal.returns-clause-ended
returns-clause-ended g c = record {
  made = all_made (first_of c.args.rerun.now) (machine_in c.loop-at.plain) c.args.rerun.now.events.now
      c.loop-at.at c.loop-at-test.false c.loop-at.invariant.made;
  told = c.loop-at.invariant.told;
}
