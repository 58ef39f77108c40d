use Rattle.std.specs.Prelude.{take}
use Rattle.std.specs.List.{AllByRecursion}
use Rattle.brc_model.specs.Safety.{IsCall}
use Rattle.brc_explore.proofs.possible.are_calls.Given as goal

-- A worker can make each of the calls so far.
abbrev pub invariant-loop-call : goal.invariant-loop-call
invariant-loop-call l = AllByRecursion (IsCall l.module) (take l.call-index l.calls)
