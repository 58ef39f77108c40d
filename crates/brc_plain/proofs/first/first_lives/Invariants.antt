use Rattle.std.proofs.Common.{◌≡◌, ℕ, ◌<◌, length}
use Rattle.brc_model.specs.FirstRows.{first_life}
use Rattle.brc_plain.specs.Lives.{life_at}
use Rattle.brc_plain.proofs.first.first_lives.Given as goal

-- The rows so far have their first lives.
abbrev pub invariant-loop-row : goal.invariant-loop-row
invariant-loop-row l = record {
  many : length l.lives.items ≡ l.row;
  each : (k : ℕ) → k < l.row → life_at l.lives.items k ≡ first_life l.layout k;
}
