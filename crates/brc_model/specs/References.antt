-- Counts of references in the bag.
use Rattle.std.specs.Prelude.{ℕ, zero, suc, Bool, ◌==◌, if◌then◌else◌, List, count_by}
use Rattle.brc_model.specs.declared.duty.Holding.{Holding}
use Rattle.brc_model.specs.AbstractState.{ByThread, ByCell, Reference, same}

-- how often the bag has the reference
abbrev pub held : Reference → List Reference → ℕ
held r bag = count_by (same r) bag

abbrev pub one_if : Bool → ℕ
one_if b = if b then 1 else 0

abbrev pub reference_of : ℕ → Holding → ℕ → Reference
reference_of t h object = record { holder = ByThread t h; object = object }

-- how often a cell with this word holds the object: the word is 0, or 1 more than the row of the only object
abbrev pub word_holds : ℕ → ℕ → ℕ
word_holds zero object = 0
word_holds (suc y) object = one_if (y == object)

abbrev pub cell_reference : ℕ → ℕ → ℕ → Reference
cell_reference x i object = record { holder = ByCell x i; object = object }
