-- What becomes of a store where a reference is given up, and where what is borrowed ends.
use Rattle.std.specs.Prelude.{Bool, false, not, ◌&&◌, if◌then◌else◌, Option, None, Some, is_some, map}
use Rattle.brc_c_store.specs.declared.value.Local.{Local}
use Rattle.brc_c_store.specs.declared.value.ObjectId.{ObjectId}
use Rattle.brc_c_store.specs.declared.value.Value.{Value}
use Rattle.brc_c_store.specs.declared.value.Value.TheVariants.{Null, Object as Known, Maybe}
use Rattle.brc_c_store.specs.declared.object.Base.{Base}
use Rattle.brc_c_store.specs.declared.object.Base.TheVariants.{Gone, Call, Part}
use Rattle.brc_c_store.specs.declared.object.Object.{Object}
use Rattle.brc_c_store.specs.declared.cell.Touched.{Touched}
use Rattle.brc_c_store.specs.declared.store.Named.{Named}
use Rattle.brc_c_store.specs.Registers.{no_registers}
use Rattle.brc_c_store.specs.Values.{same_object, is_object, gone_object, is_owned, has_one, is_alive}
use Rattle.brc_c_store.specs.Values.{is_item, is_field, is_part_of, without_one, known_to_others}
use Rattle.brc_c_store.specs.Stores.{Contents, value_of, object_of, object_at, with_object}
use Rattle.brc_c_store.specs.Cells.{is_in_cell, taken_from_cell, with_handed_back_of}

-- ---- what may be NULL

-- the value is this object or NULL, and nobody has asked yet which
abbrev pub is_maybe : ObjectId → Value → Bool
is_maybe id (Maybe other) = same_object other id
is_maybe id _ = false

abbrev pub named_for : Value → ObjectId → Named → Named
named_for found id n = if is_maybe id n.value then record n { value = found } else n

abbrev pub touched_for : Value → ObjectId → Touched → Touched
touched_for found id t = if is_maybe id t.value then record t { value = found } else t

-- what may be NULL is an object
abbrev pub taken_for_object : Contents → ObjectId → Contents
taken_for_object c id = record c {
  values = map (named_for (Known id) id) c.values;
  cells = map (touched_for (Known id) id) c.cells;
}

abbrev pub refined_value : Value → Contents → Contents
refined_value (Maybe id) c = taken_for_object c id
refined_value _ c = c

-- a name's object is one, where it might be NULL
abbrev pub refined : Contents → Local → Contents
refined c local = refined_value (value_of c local) c

-- a cell that may be NULL is, and has no reference then
abbrev pub touched_for_null : ObjectId → Touched → Touched
touched_for_null id t = if is_maybe id t.value then record t { value = Null; is_owner = false } else t

-- what may be NULL is: there is no such object
abbrev pub taken_for_null : Contents → ObjectId → Contents
taken_for_null c id = with_object (record c {
  values = map (named_for Null id) c.values;
  cells = map (touched_for_null id) c.cells;
}) id gone_object

-- ---- references given up

abbrev pub base_without : ObjectId → Base → Base
base_without id base = if is_part_of base id then Gone else base

abbrev pub keeper_without : ObjectId → Option ObjectId → Option ObjectId
keeper_without id keeper = if is_object keeper id then None else keeper

abbrev pub without_lender : ObjectId → Object → Object
without_lender id object = record object {
  base = base_without id object.base;
  kept_by = keeper_without id object.kept_by;
}

-- the function's last reference to an object is gone: what it lends, and what it keeps, ends
abbrev pub with_parts_ended : Contents → ObjectId → Contents
with_parts_ended c lender = record c { objects = map (without_lender lender) c.objects }

-- an object that a field has no longer isn't lent any more, unless another cell has it
abbrev pub out_of_field : Contents → ObjectId → Object → Object
out_of_field c id object = record object {
  base = if is_field object.base && not (is_in_cell c id) then Gone else object.base;
  is_in_field = false;
}

-- where the function owns no reference, a cell gives back what it has
abbrev pub with_taken_back : Contents → ObjectId → Contents
with_taken_back c id = if has_one (object_at c id) then c else taken_from_cell c id

-- the object once one of its references is given up: the function's, or a cell's
abbrev pub less_one : Contents → ObjectId → Object → Object
less_one c id object = if has_one object then without_one object else out_of_field c id object

-- an object that the function has no longer is its keeper's, or dies, with what it lends and what its fields have
abbrev pub with_ended : Contents → ObjectId → Object → Option ObjectId → Contents
with_ended c id object None = with_handed_back_of (with_parts_ended (with_object c id object) id) id
with_ended c id object (Some keeper) = with_object c id (record object { base = Part keeper })

abbrev pub with_less : Contents → ObjectId → Object → Contents
with_less c id object = if is_alive object then with_object c id object else with_ended c id object object.kept_by

-- one reference of the object is given up
abbrev pub given_up : Contents → ObjectId → Contents
given_up c id = let d = with_taken_back c id in with_less d id (less_one d id (object_at c id))

-- what lends an object that was given to a container
abbrev pub base_in : Contents → Option ObjectId → Base
base_in c None = Call
base_in c (Some keeper) = if is_owned (object_at c keeper) then Part keeper else Call

abbrev pub object_in_container : Contents → Option ObjectId → Object → Object
object_in_container c container object =
    if is_alive object then known_to_others object else record (known_to_others object) { base = base_in c container }

-- the object was given to a container, which lends it
abbrev pub given_to : Contents → ObjectId → Local → Contents
given_to c id container = with_object c id (object_in_container c (object_of c container) (object_at c id))

-- an object's keeper, once a container has made a reference of its own to it; one doesn't keep itself
abbrev pub keeper_of : Option ObjectId → ObjectId → Option ObjectId → Option ObjectId
keeper_of container id old = if is_some container && not (is_object container id) then container else old

-- a container makes a reference of its own to the object
abbrev pub kept : Contents → ObjectId → Option ObjectId → Contents
kept c id container = with_object c id (record (known_to_others (object_at c id)) {
  kept_by = keeper_of container id (object_at c id).kept_by;
})

abbrev pub without_item : Object → Object
without_item object = if is_item object.base then record object { base = Gone } else object

-- what is borrowed as an item isn't alive any more
abbrev pub with_items_ended : Contents → Contents
with_items_ended c = record c { objects = map without_item c.objects; stale = no_registers }
