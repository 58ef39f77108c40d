use Rattle.std.proofs.Common.{ℕ, ◌<◌}
use Rattle.brc_c_outline.specs.Outlines.{IsClosed, label_at}
use Rattle.brc_c_outline.proofs.validating.is_closed.Given as goal

-- the labels in front are closed
abbrev pub invariant-loop-at : goal.invariant-loop-at
invariant-loop-at l = (at : ℕ) → at < l.at → IsClosed l.function l.outline l.labels at (label_at l.labels at)
