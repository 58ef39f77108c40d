use Rattle.std.proofs.Common.{map, arith}
use Rattle.brc_model.specs.Actions.{depth_of}
use Rattle.brc_plain.specs.Bags.{move_in}
use Rattle.brc_plain.specs.Places.{context_in}
use Rattle.brc_plain.proofs.Handing.{handed_more, handed_all}
use Rattle.brc_plain.proofs.dispatch.calls.hand_over.Goals as goal

pub returns : goal.returns
returns c =
    let here = c.args.here.now in
    handed_all here.thread (depth_of (context_in here.context.now)) here.variables.now c.args.arguments.now
    (map move_in c.loop-argument.moves.items) c.loop-argument.to c.loop-argument.argument-index
    c.loop-argument-test.false c.loop-argument.invariant.moves

pub loop-argument-preserved : goal.loop-argument-preserved
loop-argument-preserved c =
    let here = c.args.here.now in
    record {
      moves =
          handed_more here.thread (depth_of (context_in here.context.now)) here.variables.now c.args.arguments.now
          (map move_in c.loop-argument.moves.items) (map move_in c.hand_argument.new.moves.items) c.loop-argument.to
          c.loop-argument.argument-index c.argument-item.result c.loop-argument-test.true c.argument-item.is
          c.loop-argument.invariant.moves c.in_ok-hand_argument.ensures;
      to = omega arith;
    }
