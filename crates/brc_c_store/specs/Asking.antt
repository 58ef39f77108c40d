-- What an event asks of a store.
use Rattle.std.specs.Prelude.{Bool, true, false, not, ◌&&◌, ◌||◌, Option, None, Some}
use Rattle.std.specs.List.{list_any}
use Rattle.brc_c_store.specs.declared.value.Local.{Local}
use Rattle.brc_c_store.specs.declared.value.ObjectId.{ObjectId}
use Rattle.brc_c_store.specs.declared.value.Value.{Value}
use Rattle.brc_c_store.specs.declared.value.Value.TheVariants.{Unset, Null, Object as Known, Maybe, Number}
use Rattle.brc_c_store.specs.declared.rules.Rules.{Rules}
use Rattle.brc_c_store.specs.declared.store.Section.{Section}
use Rattle.brc_c_store.specs.Registers.{has_none, without_last}
use Rattle.brc_c_store.specs.Values.{is_object, is_owned, has_one, is_alive, is_private, is_global}
use Rattle.brc_c_store.specs.Stores.{Contents, value_of, object_of, object_at, is_named_beside, is_locked}

abbrev pub locks : ObjectId → Section → Bool
locks id section = is_object section.first id || is_object section.second id

-- a critical section of the object is open
abbrev pub is_in_section : Contents → ObjectId → Bool
is_in_section c id = list_any (locks id) c.sections

abbrev pub loses_old : Option ObjectId → Contents → Local → Option ObjectId → Bool
loses_old None c to new = false
loses_old (Some old) c to new =
    not (is_object new old) && (is_owned (object_at c old) && not (is_named_beside c old to))

-- a name loses the last that is known of a reference if another object is assigned to it
abbrev pub loses : Contents → Local → Option ObjectId → Bool
loses c to new = loses_old (object_of c to) c to new

abbrev pub is_dead_value : Value → Contents → Bool
is_dead_value Unset c = true
is_dead_value Null c = true
is_dead_value (Known id) c = not (is_alive (object_at c id))
is_dead_value (Maybe id) c = not (is_alive (object_at c id))
is_dead_value (Number signs) c = false

-- the use of a name's object is a use of what may be freed
abbrev pub is_dead : Contents → Local → Bool
is_dead c local = is_dead_value (value_of c local) c

abbrev pub is_open_to_others : Rules → Contents → Option ObjectId → Bool
is_open_to_others rules c None = false
is_open_to_others rules c (Some id) =
    not (is_private (object_at c id))
    && (not (is_locked rules c) || (not (is_global rules) && not (is_in_section c id)))

-- a container's item would be borrowed outside a critical section of the container, so that another thread may replace
-- it
abbrev pub is_unprotected : Rules → Contents → Local → Bool
is_unprotected rules c container = is_open_to_others rules c (object_of c container)

abbrev pub is_returned : Contents → Option Local → ObjectId → Bool
is_returned c None id = false
is_returned c (Some local) id = is_object (object_of c local) id

-- the object's references are left if the function returns what a name has: all but one of what it returns
abbrev pub is_left : Contents → Option Local → ObjectId → Bool
is_left c returned id =
    has_one (object_at c id)
    && (not (is_returned c returned id) || not (has_none (without_last (object_at c id).registers)))
