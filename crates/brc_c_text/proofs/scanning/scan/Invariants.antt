use Rattle.std.proofs.Common.{◌≤◌, length}
use Rattle.brc_c_text.specs.Spans.{Follow}
use Rattle.brc_c_text.proofs.scanning.scan.Given as goal

-- The tokens so far end by the place that has been reached.
abbrev pub invariant-loop-turn : goal.invariant-loop-turn
invariant-loop-turn l = (l.at ≤ length l.source) × Follow 0 l.scan.tokens.items l.at
