-- A store whose objects get new numbers: their places in an order. What isn't in the order is forgotten.
use Rattle.std.specs.Prelude.{List, Option, None, Some, map, position, option_map, option_and_then}
use Rattle.brc_c_store.specs.declared.value.ObjectId.{ObjectId}
use Rattle.brc_c_store.specs.declared.value.Value.{Value}
use Rattle.brc_c_store.specs.declared.value.Value.TheVariants.{Unset, Null, Object as Known, Maybe, Number}
use Rattle.brc_c_store.specs.declared.object.Base.{Base}
use Rattle.brc_c_store.specs.declared.object.Base.TheVariants.{Gone, Call, Item, Part, Field}
use Rattle.brc_c_store.specs.declared.object.Object.{Object}
use Rattle.brc_c_store.specs.declared.cell.Touched.{Touched}
use Rattle.brc_c_store.specs.declared.store.Named.{Named}
use Rattle.brc_c_store.specs.declared.store.Section.{Section}
use Rattle.brc_c_store.specs.Values.{same_object}
use Rattle.brc_c_store.specs.Stores.{Contents, object_at}
use Rattle.brc_c_paths.specs.Sorted.{with_cells_sorted}

-- an object's new number
abbrev pub new_number : List ObjectId → ObjectId → Option ObjectId
new_number order id = option_map (λ at. record { 0 = at }) (position (λ known. same_object known id) order)

-- the new number of an object, if there is one
abbrev pub number_in : List ObjectId → Option ObjectId → Option ObjectId
number_in order id = option_and_then (new_number order) id

-- what lends an object whose lender has this number, or is forgotten
abbrev pub part_or_call : Option ObjectId → Base
part_or_call None = Call
part_or_call (Some lender) = Part lender

-- what a forgotten object lends is lent for the whole call
abbrev pub numbered_base : List ObjectId → Base → Base
numbered_base order Gone = Gone
numbered_base order Call = Call
numbered_base order (Item register) = Item register
numbered_base order (Part lender) = part_or_call (new_number order lender)
numbered_base order Field = Field

-- an object with the new numbers of its lender and of its keeper
abbrev pub numbered_object : List ObjectId → Object → Object
numbered_object order object = record object {
  base = numbered_base order object.base;
  kept_by = number_in order object.kept_by;
}

-- a value without an object is unset
abbrev pub object_or_unset : Option ObjectId → Value
object_or_unset None = Unset
object_or_unset (Some id) = Known id

abbrev pub maybe_or_unset : Option ObjectId → Value
maybe_or_unset None = Unset
maybe_or_unset (Some id) = Maybe id

-- a value, a name, a cell and a section with new numbers
abbrev pub numbered_value : List ObjectId → Value → Value
numbered_value order Unset = Unset
numbered_value order Null = Null
numbered_value order (Known id) = object_or_unset (new_number order id)
numbered_value order (Maybe id) = maybe_or_unset (new_number order id)
numbered_value order (Number signs) = Number signs

abbrev pub numbered_name : List ObjectId → Named → Named
numbered_name order n = record n { value = numbered_value order n.value }

abbrev pub numbered_cell : List ObjectId → Touched → Touched
numbered_cell order t = record t {
  holder = number_in order t.holder;
  value = numbered_value order t.value;
}

abbrev pub numbered_section : List ObjectId → Section → Section
numbered_section order section = record {
  first = number_in order section.first;
  second = number_in order section.second;
}

-- the store with new numbers, and its cells in their old order
abbrev pub with_numbers : Contents → List ObjectId → Contents
with_numbers c order = record c {
  objects = map (λ id. numbered_object order (object_at c id)) order;
  values = map (numbered_name order) c.values;
  cells = map (numbered_cell order) c.cells;
  sections = map (numbered_section order) c.sections;
}

-- the store whose objects are those of the order, by their places there
abbrev pub renumbered : Contents → List ObjectId → Contents
renumbered c order = with_cells_sorted (with_numbers c order)
