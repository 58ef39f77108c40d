-- The order of the objects in a normal store.
use Rattle.std.specs.Prelude.{ℕ, if◌then◌else◌, List, [], ◌∷◌, ◌++◌, length, slice_get, fold}
use Rattle.std.specs.Prelude.{Option, None, Some}
use Rattle.std.specs.List.{list_any, range_with_len}
use Rattle.brc_c_store.specs.declared.value.ObjectId.{ObjectId}
use Rattle.brc_c_store.specs.declared.store.Named.{Named}
use Rattle.brc_c_store.specs.declared.cell.Touched.{Touched}
use Rattle.brc_c_store.specs.Values.{same_object, object_in, is_owned}
use Rattle.brc_c_store.specs.Stores.{Contents, object_at}
use Rattle.brc_c_paths.specs.Lenders.{lender_in}

-- the order with an object at its end, unless it is there
abbrev pub with_once : List ObjectId → ObjectId → List ObjectId
with_once order id = if list_any (λ known. same_object known id) order then order else order ++ id ∷ []

-- the same where there may be no object
abbrev pub with_this_once : List ObjectId → Option ObjectId → List ObjectId
with_this_once order None = order
with_this_once order (Some id) = with_once order id

-- with the object that a name has
abbrev pub with_object_of : List ObjectId → Named → List ObjectId
with_object_of order n = with_this_once order (object_in n.value)

-- with the object of a number, if the function owns a reference to it
abbrev pub with_owned : Contents → List ObjectId → ℕ → List ObjectId
with_owned c order at =
    let id : ObjectId = record { 0 = at } in
    if is_owned (object_at c id) then with_once order id else order

-- with the object that a cell belongs to, and the one that it has
abbrev pub with_objects_of_cell : List ObjectId → Touched → List ObjectId
with_objects_of_cell order t = with_this_once (with_this_once order t.holder) (object_in t.value)

-- with the objects that lend and keep this one
abbrev pub with_sources_of : Contents → List ObjectId → Option ObjectId → List ObjectId
with_sources_of c order None = order
with_sources_of c order (Some id) =
    with_this_once (with_this_once order (lender_in (object_at c id).base)) (object_at c id).kept_by

-- with the objects that lend and keep the one at this place of the order
abbrev pub with_sources_at : Contents → List ObjectId → ℕ → List ObjectId
with_sources_at c order turn = with_sources_of c order (slice_get order turn)

-- the objects that names have
abbrev pub objects_of_names : Contents → List ObjectId
objects_of_names c = fold with_object_of [] c.values

-- and those that the function owns a reference to
abbrev pub named_and_owned : Contents → List ObjectId
named_and_owned c = fold (with_owned c) (objects_of_names c) (range_with_len 0 (length c.objects))

-- and those of cells
abbrev pub reachable_objects : Contents → List ObjectId
reachable_objects c = fold with_objects_of_cell (named_and_owned c) c.cells

-- the objects that are kept, in their new order: these, and those that lend and keep any of the order
abbrev pub order_of : Contents → List ObjectId
order_of c = fold (with_sources_at c) (reachable_objects c) (range_with_len 0 (length c.objects))
