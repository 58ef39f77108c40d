-- The calls so far are found.
use Rattle.std.specs.Prelude.{◌≡◌, take}
use Rattle.brc_command.specs.Calls.{calls_of, AreKnown}
use Rattle.brc_command.proofs.calls.calls_of.Given as goal

abbrev pub invariant-loop-call : goal.invariant-loop-call
invariant-loop-call l = (l.calls.items ≡ calls_of l.module (take l.call-index l.planned))
    × AreKnown l.module (take l.call-index l.planned)
