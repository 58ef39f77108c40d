-- What a worker knows of its ledger between two calls.
use Rattle.std.specs.Prelude.{◌≡◌, ◌<◌, ◌≤◌, ◌==◌, ℕ, zero, suc, Option, None, Some, List, ◌∷◌, length, slice_index_or, count_by}

-- A ledger, as contracts see it: how many references it counts for each row, and in all.
pub record LedgerState : Type 0 where
  pub counts : List ℕ
  pub total : ℕ

-- how many references the ledger counts for the row
abbrev pub counted : LedgerState → ℕ → ℕ
counted ledger x = slice_index_or ledger.counts x 0

-- The ledger counts, for each of its rows, exactly how many of these references are to the row's object, and in all as
-- many as there are.
pub record Tells (ledger : LedgerState) (references : List ℕ) : Type 0 where
  pub counts : (x : ℕ) → x < length ledger.counts → counted ledger x ≡ count_by (λ y. y == x) references
  pub total : ledger.total ≡ length references

-- No row's count is greater than the total.
abbrev pub IsWhole : LedgerState → Type 0
IsWhole ledger = (x : ℕ) → counted ledger x ≤ ledger.total

-- the references with that to what was in a cell. Row 0 has no object.
abbrev pub with_found : Option ℕ → List ℕ → List ℕ
with_found None rows = rows
with_found (Some zero) rows = rows
with_found (Some (suc y)) rows = suc y ∷ rows
