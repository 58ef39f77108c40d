use Rattle.std.proofs.Common.{◌≡◌, map, take}
use Rattle.brc_work.specs.Totals.{totals_of}
use Rattle.brc_run.proofs.running.totals_of.Given as goal

-- those so far
abbrev pub invariant-loop-ran : goal.invariant-loop-ran
invariant-loop-ran g l = l.totals.items ≡ map (λ worker. totals_of worker.1) (take l.ran-index l.gone)
