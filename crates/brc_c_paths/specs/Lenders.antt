-- Objects that lend or keep others, and that nothing leads to.
use Rattle.std.specs.Prelude.{ℕ, Bool, false, not, ◌&&◌, ◌||◌, if◌then◌else◌, length, fold}
use Rattle.std.specs.Prelude.{Option, None, Some, is_some}
use Rattle.std.specs.List.{list_any, range_with_len}
use Rattle.brc_c_store.specs.declared.value.ObjectId.{ObjectId}
use Rattle.brc_c_store.specs.declared.object.Base.{Base}
use Rattle.brc_c_store.specs.declared.object.Base.TheVariants.{Gone, Call, Item, Part, Field}
use Rattle.brc_c_store.specs.declared.object.Object.{Object}
use Rattle.brc_c_store.specs.declared.cell.Touched.{Touched}
use Rattle.brc_c_store.specs.Values.{is_object, has_object, is_owned, lent_object}
use Rattle.brc_c_store.specs.Stores.{Contents, is_named, object_at, with_object}
use Rattle.brc_c_store.specs.Cells.{is_held_by}

-- the object that lends it
abbrev pub lender_in : Base → Option ObjectId
lender_in Gone = None
lender_in Call = None
lender_in (Item register) = None
lender_in (Part lender) = Some lender
lender_in Field = None

-- another object lends it, or keeps it
abbrev pub has_lender : Object → Bool
has_lender object = is_some (lender_in object.base) || is_some object.kept_by

-- the cell has the object, or belongs to it
abbrev pub is_cell_with : ObjectId → Touched → Bool
is_cell_with id t = is_held_by id t || has_object t.value id

-- the object has no name, no cell, and no reference of the function
abbrev pub is_out_of_reach : Contents → ObjectId → Bool
is_out_of_reach c id =
    not (is_named c id) && (not (is_owned (object_at c id)) && not (list_any (is_cell_with id) c.cells))

-- of an object out of reach it is known that it is lent for the whole call, and nothing else
abbrev pub with_known_as_lent : Contents → ℕ → Contents
with_known_as_lent c at =
    let id : ObjectId = record { 0 = at } in
    if is_out_of_reach c id then with_object c id lent_object else c

-- the object is lent by one out of reach, which doesn't keep it
abbrev pub is_lent_by_lost : Contents → Object → Option ObjectId → Bool
is_lent_by_lost c object None = false
is_lent_by_lost c object (Some lender) = is_out_of_reach c lender && not (is_object object.kept_by lender)

-- what an object out of reach lends is lent for the whole call
abbrev pub with_lender_forgotten : Contents → ℕ → Contents
with_lender_forgotten c at =
    let id : ObjectId = record { 0 = at } in
    let object : Object = object_at c id in
    if is_lent_by_lost c object (lender_in object.base) then with_object c id (record object { base = Call }) else c

-- the same of each object in turn
abbrev pub with_all_known_as_lent : Contents → Contents
with_all_known_as_lent c = fold with_known_as_lent c (range_with_len 0 (length c.objects))

-- and of what they lend
abbrev pub with_all_lenders_forgotten : Contents → Contents
with_all_lenders_forgotten c = fold with_lender_forgotten c (range_with_len 0 (length c.objects))

-- the store once nothing is known of objects out of reach, if there are any lenders
abbrev pub with_lenders_forgotten : Contents → Contents
with_lenders_forgotten c =
    if list_any has_lender c.objects then with_all_lenders_forgotten (with_all_known_as_lent c) else c
