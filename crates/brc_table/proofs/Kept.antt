-- What a hand keeps, but for what it knows, in several calls.
use Rattle.std.proofs.Common.{refl, ◌∙◌}
use Rattle.brc_table.specs.Hands.{HandState, KeepsButView}

-- A hand keeps what it has.
pub kept_itself : (h : HandState) → KeepsButView h h
kept_itself h = record { table = refl; carried = refl; fields = refl }

-- What it keeps in one call and in the next one, it keeps in both.
pub kept_on : {h k l : HandState} → KeepsButView h k → KeepsButView k l → KeepsButView h l
kept_on one next = record {
  table = next.table ∙ one.table;
  carried = next.carried ∙ one.carried;
  fields = next.fields ∙ one.fields;
}
