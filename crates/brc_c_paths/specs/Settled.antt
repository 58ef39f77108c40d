-- Stores that are normal already, as most are behind an event.
use Rattle.std.specs.Prelude.{ℕ, ◌+◌, ◌==◌, Bool, true, not, ◌&&◌, nat_lt, if◌then◌else◌}
use Rattle.std.specs.Prelude.{List, [], ◌∷◌, length, Option, None, Some}
use Rattle.std.specs.List.{list_all}
use Rattle.brc_c_store.specs.declared.value.ObjectId.{ObjectId}
use Rattle.brc_c_store.specs.declared.value.Fact.{Fact}
use Rattle.brc_c_store.specs.declared.store.Named.{Named}
use Rattle.brc_c_store.specs.declared.store.KnownFact.{KnownFact}
use Rattle.brc_c_store.specs.Registers.{has_none}
use Rattle.brc_c_store.specs.Values.{object_in, is_unset}
use Rattle.brc_c_store.specs.Stores.{Contents}
use Rattle.brc_c_graph.specs.declared.node.NodeId.{NodeId}
use Rattle.brc_c_paths.specs.declared.liveness.Liveness.{Liveness}
use Rattle.brc_c_paths.specs.Lives.{is_read, is_asked}

-- the name has a value, and is read again
abbrev pub is_name_read : Liveness → NodeId → Named → Bool
is_name_read live node n = not (is_unset n.value) && is_read live node n.local

-- the object is a known one, or the next one; those with lower numbers than `known` are known
abbrev pub is_in_turn : ℕ → Option ObjectId → Bool
is_in_turn known None = true
is_in_turn known (Some id) = not (nat_lt known id.0)

-- how many objects are known once this one is
abbrev pub known_with : ℕ → Option ObjectId → ℕ
known_with known None = known
known_with known (Some id) = if id.0 == known then known + 1 else known

-- the names have the objects from `known` up to `count`, in the order of their numbers
abbrev pub have_objects : ℕ → List Named → ℕ → Bool
have_objects count [] known = known == count
have_objects count (n ∷ ns) known =
    is_in_turn known (object_in n.value) && have_objects count ns (known_with known (object_in n.value))

-- the condition has a greater number than the one before it
abbrev pub is_after : Option Fact → Fact → Bool
is_after None fact = true
is_after (Some before) fact = nat_lt before.0 fact.0

-- the conditions that follow this one are asked for again, and are in the order of their numbers
abbrev pub are_asked_in_order : Liveness → NodeId → List KnownFact → Option Fact → Bool
are_asked_in_order live node [] before = true
are_asked_in_order live node (k ∷ ks) before =
    (is_after before k.fact && is_asked live node k.fact) && are_asked_in_order live node ks (Some k.fact)

-- it is seen at once that the store is normal: all that it knows is read again, and its names have all objects, in
-- their order
abbrev pub is_settled : Liveness → NodeId → Contents → Bool
is_settled live node c =
    (length c.cells == 0 && has_none c.stale)
    && (list_all (is_name_read live node) c.values
    && (have_objects (length c.objects) c.values 0 && are_asked_in_order live node c.facts None))
