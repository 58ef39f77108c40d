use Rattle.std.proofs.Common.{◌≡◌, take}
use Rattle.brc_model.specs.FirstRows.{value_count}
use Rattle.brc_effect.proofs.statics.value_count.Given as goal

abbrev pub invariant-loop-line : goal.invariant-loop-line
invariant-loop-line l = l.count ≡ value_count (take l.line-index l.statics)
