-- What a path from a node reads again: the bits of a table, a row of words for each node.
use Rattle.std.specs.Prelude.{ℕ, ◌+◌, ◌-◌, ◌*◌, ◌/◌, ◌%◌, ◌^◌, min, Bool, true, not, ◌==◌, nat_lt, if◌then◌else◌}
use Rattle.std.specs.Prelude.{Option, None, Some, slice_get, unwrap_or, bit_and}
use Rattle.brc_c_store.specs.declared.value.Local.{Local}
use Rattle.brc_c_store.specs.declared.value.Fact.{Fact}
use Rattle.brc_c_store.specs.declared.cell.Field.{Field as FieldName}
use Rattle.brc_c_graph.specs.declared.node.NodeId.{NodeId}
use Rattle.brc_c_paths.specs.declared.liveness.Liveness.{Liveness}

-- how many bits a word has
abbrev pub word_bits : ℕ
word_bits = 64

-- the number, or the greatest one of a word if it is greater
abbrev pub saturated : ℕ → ℕ
saturated n = min n (2 ^ word_bits - 1)

-- ---- the table's bits: those of names first, then those of conditions, then those of fields

abbrev pub name_bit : Liveness → Local → Option ℕ
name_bit live local = if nat_lt local.0 live.names then Some local.0 else None

abbrev pub fact_bit : Liveness → Fact → Option ℕ
fact_bit live fact = if nat_lt fact.0 live.facts then Some (saturated (live.names + fact.0)) else None

abbrev pub field_bit : Liveness → FieldName → Option ℕ
field_bit live field =
    if nat_lt field.0 live.fields then Some (saturated (saturated (live.names + live.facts) + field.0)) else None

-- the number that has this bit alone, where the bit is in the word at this place of a row
abbrev pub mask_of : ℕ → ℕ → ℕ
mask_of bit word = if bit / word_bits == word then 2 ^ (bit % word_bits) else 0

abbrev pub mask : Option ℕ → ℕ → ℕ
mask None word = 0
mask (Some bit) word = mask_of bit word

-- the word at a place of a node's row
abbrev pub word_at : Liveness → NodeId → ℕ → ℕ
word_at live node word =
    unwrap_or (slice_get live.words.items (saturated (saturated (node.0 * live.width) + word))) 0

-- the same for the node that a way goes to: where no path goes, nothing is read
abbrev pub word_of : Liveness → Option NodeId → ℕ → ℕ
word_of live None word = 0
word_of live (Some node) word = word_at live node word

-- the node has the bit
abbrev pub has_bit : Liveness → NodeId → ℕ → Bool
has_bit live node bit =
    not (bit_and (word_at live node (bit / word_bits)) (mask_of bit (bit / word_bits)) == 0)

-- the same of what the table may not know
abbrev pub may_have : Liveness → NodeId → Option ℕ → Bool
may_have live node None = true
may_have live node (Some bit) = has_bit live node bit

-- ---- what is read again; of what the table doesn't know everything is

-- a path from the node reads the name again
abbrev pub is_read : Liveness → NodeId → Local → Bool
is_read live node local = may_have live node (name_bit live local)

-- a path from the node asks for the condition again
abbrev pub is_asked : Liveness → NodeId → Fact → Bool
is_asked live node fact = may_have live node (fact_bit live fact)

-- a path from the node reads or sets the field of an object again
abbrev pub is_met : Liveness → NodeId → FieldName → Bool
is_met live node field = may_have live node (field_bit live field)
