use Rattle.std.proofs.Common.{◌≡◌, ◌+◌, ◌++◌, drop, map}
use Rattle.brc_model.specs.Actions.{depth_of, handed_rows}
use Rattle.brc_plain.specs.Places.{context_in}
use Rattle.brc_plain.specs.Bags.{move_in}
use Rattle.brc_plain.proofs.dispatch.calls.hand_over.Given as goal

-- The moves so far, and those of the arguments left, are all of them.
abbrev pub invariant-loop-argument : goal.invariant-loop-argument
invariant-loop-argument l = record {
  moves :
      map move_in l.moves.items ++ handed_rows l.here.thread (depth_of (context_in l.here.context.now))
      l.here.variables.now l.to (drop l.argument-index l.arguments)
      ≡ handed_rows l.here.thread (depth_of (context_in l.here.context.now)) l.here.variables.now 1 l.arguments;
  to : l.to ≡ 1 + l.argument-index;
}
