use Rattle.std.proofs.Common.{◌≡◌, ℕ, ◌<◌, length}
use Rattle.brc_model.specs.FirstRows.{first_kinds}
use Rattle.brc_plain.specs.Bags.{kinds_by}
use Rattle.brc_plain.proofs.first.first_kinds.Given as goal

-- The rows so far have their first kinds.
abbrev pub invariant-loop-row : goal.invariant-loop-row
invariant-loop-row l = record {
  many : length l.kinds.items ≡ l.row;
  each : (k : ℕ) → k < l.row → kinds_by l.kinds.items k ≡ first_kinds l.layout k;
}
