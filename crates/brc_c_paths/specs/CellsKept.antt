-- The cells of a normal store: those that owe something, and those of which something is known that is asked again.
use Rattle.std.specs.Prelude.{ℕ, zero, suc, Bool, true, false, not, ◌&&◌, ◌||◌, nat_lt, List, length, replicate}
use Rattle.std.specs.Prelude.{Option, None, Some, slice_get, slice_set, unwrap_or, filter, fold, count_by}
use Rattle.std.specs.Prelude.{if◌then◌else◌}
use Rattle.std.specs.List.{list_any}
use Rattle.brc_c_store.specs.declared.value.ObjectId.{ObjectId}
use Rattle.brc_c_store.specs.declared.value.Value.{Value}
use Rattle.brc_c_store.specs.declared.value.Value.TheVariants.{Maybe}
use Rattle.brc_c_store.specs.declared.cell.Touched.{Touched}
use Rattle.brc_c_store.specs.declared.store.Named.{Named}
use Rattle.brc_c_store.specs.Values.{object_in, has_object, is_owned, is_alive}
use Rattle.brc_c_store.specs.Stores.{Contents, object_at, has_value}
use Rattle.brc_c_graph.specs.declared.node.NodeId.{NodeId}
use Rattle.brc_c_paths.specs.declared.liveness.Liveness.{Liveness}
use Rattle.brc_c_paths.specs.Lives.{is_read, is_met}

-- ---- near objects: those that the code after a node can reach from a live name through few enough fields

-- the marks of objects, with that of one more
abbrev pub marked : List Bool → Option ObjectId → List Bool
marked near None = near
marked near (Some id) = slice_set near id.0 true

abbrev pub with_named_marked : Liveness → NodeId → List Bool → Named → List Bool
with_named_marked live node near named =
    if is_read live node named.local then marked near (object_in named.value) else near

-- the objects that live names have
abbrev pub named_objects : Liveness → NodeId → Contents → List Bool
named_objects live node c = fold (with_named_marked live node) (replicate (length c.objects) false) c.values

abbrev pub is_near_object : List Bool → Option ObjectId → Bool
is_near_object near None = true
is_near_object near (Some id) = unwrap_or (slice_get near id.0) false

-- the cell is a variable, or that of an object to which a path comes
abbrev pub is_near : List Bool → Touched → Bool
is_near near touched = is_near_object near touched.holder

abbrev pub with_cell_marked : List Bool → List Bool → Touched → List Bool
with_cell_marked before near touched = if is_near before touched then marked near (object_in touched.value) else near

-- the near objects, and those that their cells and the variables have
abbrev pub with_fields_marked : Contents → List Bool → List Bool
with_fields_marked c before = fold (with_cell_marked before) before c.cells

-- the objects that a live name has, or that are three fields away from one at most
abbrev pub near_objects : Liveness → NodeId → Contents → List Bool
near_objects live node c =
    with_fields_marked c (with_fields_marked c (with_fields_marked c (named_objects live node c)))

-- ---- idle cells

-- a name that is read again has the object
abbrev pub is_read_by_name : Liveness → NodeId → Contents → ObjectId → Bool
is_read_by_name live node c id = list_any (λ n. has_value id n && is_read live node n.local) c.values

-- how many cells have the object
abbrev pub cells_with : Contents → ObjectId → ℕ
cells_with c id = count_by (λ t. has_object t.value id) c.cells

-- a name that is read again has the object, or another cell, or a register of the function
abbrev pub is_known_elsewhere : Liveness → NodeId → Contents → ObjectId → Bool
is_known_elsewhere live node c id =
    is_read_by_name live node c id || (nat_lt 1 (cells_with c id) || is_owned (object_at c id))

abbrev pub is_fresh_object : Contents → Option ObjectId → Bool
is_fresh_object c None = false
is_fresh_object c (Some id) = (object_at c id).is_fresh

abbrev pub is_maybe : Value → Bool
is_maybe (Maybe id) = true
is_maybe _ = false

-- What is known of the cell is asked again: a path from the node meets its field, and reaches its object.
abbrev pub is_cell_asked : Liveness → NodeId → List Bool → Touched → Bool
is_cell_asked live node near touched = is_met live node touched.field && is_near near touched

-- A cell that owns a reference is idle if it holds the only trace of its object. Otherwise it is idle if its object is
-- dead and may stay in it.
abbrev pub is_idle_with : Liveness → NodeId → Contents → Touched → Bool → Option ObjectId → Bool
is_idle_with live node c touched is_asked None = not is_asked
is_idle_with live node c touched is_asked (Some id) =
    if touched.is_owner
    then ((is_maybe touched.value || not is_asked) && not (is_known_elsewhere live node c id))
    else (not is_asked && (not touched.owes.alive && not (is_alive (object_at c id))))

-- the cell owes nothing, and nothing is known of it that is asked again
abbrev pub is_idle : Liveness → NodeId → Contents → Touched → Bool → Bool
is_idle live node c touched is_asked =
    not (is_fresh_object c touched.holder) && is_idle_with live node c touched is_asked (object_in touched.value)

abbrev pub is_kept : Liveness → NodeId → Contents → List Bool → Touched → Bool
is_kept live node c near touched = not (is_idle live node c touched (is_cell_asked live node near touched))

-- the cells that aren't idle beside all others
abbrev pub busy_cells : Liveness → NodeId → Contents → List Touched
busy_cells live node c = filter (is_kept live node c (near_objects live node c)) c.cells

abbrev pub with_idle_dropped : Liveness → NodeId → Contents → Contents
with_idle_dropped live node c = record c { cells = busy_cells live node c }

-- that many rounds, in each of which the cells go that are idle then
abbrev pub with_rounds : Liveness → NodeId → ℕ → Contents → Contents
with_rounds live node zero c = c
with_rounds live node (suc rounds) c = with_rounds live node rounds (with_idle_dropped live node c)

-- A cell that goes is no reason any more to keep the next one, so that as many rounds are made as there are cells.
abbrev pub with_cells_kept : Liveness → NodeId → Contents → Contents
with_cells_kept live node c = with_rounds live node (length c.cells) c
