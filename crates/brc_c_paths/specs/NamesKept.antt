-- The names of a normal store: those that are read again, and the last one of each reference that the function owns.
use Rattle.std.specs.Prelude.{Bool, false, not, ◌&&◌, ◌||◌, if◌then◌else◌, Option, None, Some, is_some}
use Rattle.std.specs.Prelude.{find, filter, option_map, option_and_then}
use Rattle.std.specs.Option.{option_or}
use Rattle.brc_c_store.specs.declared.value.Local.{Local}
use Rattle.brc_c_store.specs.declared.value.ObjectId.{ObjectId}
use Rattle.brc_c_store.specs.declared.store.Named.{Named}
use Rattle.brc_c_store.specs.Values.{same_local, object_in, is_unset, is_owned}
use Rattle.brc_c_store.specs.Stores.{Contents, has_value, object_at}
use Rattle.brc_c_graph.specs.declared.graph.Graph.{Graph}
use Rattle.brc_c_graph.specs.declared.node.NodeId.{NodeId}
use Rattle.brc_c_graph.specs.Nodes.{local_at}
use Rattle.brc_c_paths.specs.declared.liveness.Liveness.{Liveness}
use Rattle.brc_c_paths.specs.Lives.{is_read}
use Rattle.brc_c_paths.specs.CellsKept.{is_read_by_name}

-- the source names it
abbrev pub has_name : Graph → Local → Bool
has_name graph local = is_some (option_and_then (λ known. known.name) (local_at graph local))

-- the object's first name that the source has too
abbrev pub first_of_source : Graph → Contents → ObjectId → Option Named
first_of_source graph c id = find (λ n. has_value id n && has_name graph n.local) c.values

-- the object's first name: one that the source has too, if it can be
abbrev pub first_name : Graph → Contents → ObjectId → Option Named
first_name graph c id = option_or (first_of_source graph c id) (find (has_value id) c.values)

-- the name that is kept of an object if none of its names is read again
abbrev pub keeper : Graph → Liveness → NodeId → Contents → ObjectId → Option Local
keeper graph live node c id =
    if is_read_by_name live node c id then None else option_map (λ n. n.local) (first_name graph c id)

-- whether it is this name
abbrev pub is_local : Option Local → Local → Bool
is_local None local = false
is_local (Some other) local = same_local other local

-- the function owns a reference to the object, and this is the name that is kept of it
abbrev pub keeps_reference : Graph → Liveness → NodeId → Contents → Local → Option ObjectId → Bool
keeps_reference graph live node c local None = false
keeps_reference graph live node c local (Some id) =
    is_owned (object_at c id) && is_local (keeper graph live node c id) local

-- the function loses a reference if it forgets this name, which isn't read again
abbrev pub is_last_name : Graph → Liveness → NodeId → Contents → Named → Bool
is_last_name graph live node c n = keeps_reference graph live node c n.local (object_in n.value)

-- the name has a value, and is read again or the last one of a reference
abbrev pub is_name_kept : Graph → Liveness → NodeId → Contents → Named → Bool
is_name_kept graph live node c n =
    not (is_unset n.value) && (is_read live node n.local || is_last_name graph live node c n)

-- the store with those names alone
abbrev pub with_names_kept : Graph → Liveness → NodeId → Contents → Contents
with_names_kept graph live node c = record c { values = filter (is_name_kept graph live node c) c.values }
