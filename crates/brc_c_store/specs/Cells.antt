-- Cells: what is read of them, stored there and handed back, and what is left in them.
use Rattle.std.specs.Prelude.{ℕ, ◌+◌, Bool, true, false, not, ◌&&◌, ◌||◌, nat_lt, if◌then◌else◌, []}
use Rattle.std.specs.Prelude.{length, Option, None, Some, is_some, slice_get, slice_set, find, filter}
use Rattle.std.specs.Prelude.{fold, take, drop, position, count_by, option_and_then}
use Rattle.std.specs.List.{list_any, range_with_len}
use Rattle.brc_lang.specs.declared.check_code.CheckCode.{CheckCode}
use Rattle.brc_lang.specs.declared.check_code.CheckCode.TheVariants.{EmptyUsed, NotOwned}
use Rattle.brc_c_store.specs.declared.value.Local.{Local}
use Rattle.brc_c_store.specs.declared.value.ObjectId.{ObjectId}
use Rattle.brc_c_store.specs.declared.value.Value.TheVariants.{Unset, Maybe}
use Rattle.brc_c_store.specs.declared.object.Base.TheVariants.{Gone, Field}
use Rattle.brc_c_store.specs.declared.object.Object.{Object}
use Rattle.brc_c_store.specs.declared.cell.Cell.{Cell}
use Rattle.brc_c_store.specs.declared.cell.Field.{Field as FieldName}
use Rattle.brc_c_store.specs.declared.cell.Touched.{Touched}
use Rattle.brc_c_store.specs.declared.rules.Rules.{Rules}
use Rattle.brc_c_store.specs.Registers.{size_of}
use Rattle.brc_c_store.specs.Values.{same_field, same_holder, is_object, object_in, has_object, is_unset, gone_object}
use Rattle.brc_c_store.specs.Values.{is_owned, has_one, is_gone, is_field, is_private, without_one, is_global}
use Rattle.brc_c_store.specs.Stores.{Contents, object_of, object_at, with_object, next_object, is_named}
use Rattle.brc_c_store.specs.Stores.{wants}
use Rattle.brc_c_store.specs.Asking.{is_in_section}

-- ---- lookups

abbrev pub object_of_this : Contents → Option Local → Option ObjectId
object_of_this c None = None
object_of_this c (Some local) = object_of c local

-- the object that a cell belongs to, if its name has one
abbrev pub holder_of : Contents → Cell → Option ObjectId
holder_of c cell = object_of_this c cell.holder

-- a touched cell of this field and this object
abbrev pub is_cell : FieldName → Option ObjectId → Touched → Bool
is_cell field holder touched = same_field touched.field field && same_holder touched.holder holder

-- the place of a cell that was touched
abbrev pub place_of : Contents → Cell → Option ℕ
place_of c cell = position (is_cell cell.field (holder_of c cell)) c.cells

-- what is known of a cell that was touched
abbrev pub touched_at : Contents → Cell → Option Touched
touched_at c cell = option_and_then (slice_get c.cells) (place_of c cell)

abbrev pub is_private_object : Contents → Option ObjectId → Bool
is_private_object c None = false
is_private_object c (Some id) = is_private (object_at c id)

-- the object that has a cell was made by the function, which has given it to nobody
abbrev pub is_held_by_new : Contents → Cell → Bool
is_held_by_new c cell = is_private_object c (holder_of c cell)

abbrev pub is_assumed_object : Contents → Option ObjectId → Bool
is_assumed_object c None = false
is_assumed_object c (Some id) = (object_at c id).is_assumed

-- something is assumed of the object that has a cell: it may be a new one
abbrev pub is_held_by_assumed : Contents → Cell → Bool
is_held_by_assumed c cell = is_assumed_object c (holder_of c cell)

-- the cell has a reference of its own to the object
abbrev pub owns : ObjectId → Touched → Bool
owns id touched = touched.is_owner && has_object touched.value id

-- some cell has a reference of its own to the object
abbrev pub is_in_cell : Contents → ObjectId → Bool
is_in_cell c id = list_any (owns id) c.cells

-- a cell other than the one at this place has the object
abbrev pub is_in_other_cell : Contents → ObjectId → ℕ → Bool
is_in_other_cell c id at =
    list_any (λ t. has_object t.value id) (take at c.cells)
    || list_any (λ t. has_object t.value id) (drop (at + 1) c.cells)

-- the cell belongs to the object
abbrev pub is_held_by : ObjectId → Touched → Bool
is_held_by holder touched = is_object touched.holder holder

-- ---- references of cells

abbrev pub with_cell : Contents → ℕ → Touched → Contents
with_cell c at touched = record c { cells = slice_set c.cells at touched }

abbrev pub with_owner_ended : Contents → ℕ → Option Touched → Contents
with_owner_ended c at None = c
with_owner_ended c at (Some touched) = with_cell c at (record touched { is_owner = false })

abbrev pub with_owner_ended_at : Contents → Option ℕ → Contents
with_owner_ended_at c None = c
with_owner_ended_at c (Some at) = with_owner_ended c at (slice_get c.cells at)

-- the first cell that has a reference of its own to the object gives it back
abbrev pub taken_from_cell : Contents → ObjectId → Contents
taken_from_cell c id = with_owner_ended_at c (position (owns id) c.cells)

abbrev pub field_object : Cell → Object
field_object cell = record gone_object { base = Field; is_assumed = cell.owes.is_assumed }

-- what is found in a cell that wasn't touched before
abbrev pub found_in : Contents → Cell → Touched
found_in c cell = record {
  holder = holder_of c cell;
  field = cell.field;
  owes = cell.owes;
  value = Maybe (next_object c);
  is_owner = true;
}

-- The object once a cell has one of the function's references to it. If the cell may be left without a reference,
-- it may be that it owns nothing.
abbrev pub given_object : Touched → Object → Object
given_object touched object = record (without_one object) {
  base = if is_gone object.base then Field else object.base;
  is_in_field = object.is_in_field || not (is_gone object.base);
  is_assumed = object.is_assumed || not touched.owes.owned;
}

abbrev pub can_be_given : Contents → Option ObjectId → Bool
can_be_given c None = false
can_be_given c (Some id) = has_one (object_at c id)

-- the cell once it has a reference to its value, if the function owns one
abbrev pub given : Contents → Touched → Touched
given c touched = if can_be_given c (object_in touched.value) then record touched { is_owner = true } else touched

abbrev pub with_object_given : Contents → Touched → Option ObjectId → Contents
with_object_given c touched None = c
with_object_given c touched (Some id) =
    if has_one (object_at c id) then with_object c id (given_object touched (object_at c id)) else c

-- the store after that
abbrev pub with_given : Contents → Touched → Contents
with_given c touched = with_object_given c touched (object_in touched.value)

-- the store once a cell has the reference that it has to have
abbrev pub handed_back : Contents → Touched → Contents
handed_back c touched = if touched.is_owner then c else with_given c touched

-- the cell itself after that
abbrev pub given_back : Contents → Touched → Touched
given_back c touched = if touched.is_owner then touched else given c touched

abbrev pub handed_back_at : Contents → Option Touched → Contents
handed_back_at c None = c
handed_back_at c (Some touched) = handed_back c touched

-- each cell gets the reference that it has to have, and is forgotten
abbrev pub with_all_handed_back : Contents → Contents
with_all_handed_back c = record (fold handed_back c c.cells) { cells = [] }

-- ---- the cells of one object

-- whether it is a touched cell of the object, or of any if none is named
abbrev pub is_meant : Option ObjectId → Option Touched → Bool
is_meant None touched = true
is_meant (Some holder) None = false
is_meant (Some holder) (Some touched) = is_held_by holder touched

-- a cell gets the reference that it has to have, if it belongs to the object
abbrev pub handed_back_of : Contents → ObjectId → Option Touched → Contents
handed_back_of c holder touched = if is_meant (Some holder) touched then handed_back_at c touched else c

abbrev pub without_cells_of : Contents → ObjectId → Contents
without_cells_of c holder = record c { cells = filter (λ t. not (is_held_by holder t)) c.cells }

-- each cell of the object gets the reference that it has to have, and is forgotten
abbrev pub with_handed_back_of : Contents → ObjectId → Contents
with_handed_back_of c holder =
    without_cells_of (fold (λ d t. handed_back_of d holder (Some t)) c c.cells) holder

-- ---- other code runs

-- a cell of which nothing is known any more, since another function may set it
abbrev pub forgotten : Touched → Touched
forgotten touched = if is_unset touched.value then touched else record touched { value = Unset; is_owner = false }

-- a cell after other code has run, which leaves steady ones as they are; `kept` is the cell with its reference
abbrev pub after_code : Touched → Touched → Touched
after_code touched kept =
    if touched.owes.is_steady && not (is_unset touched.value) then kept else forgotten touched

abbrev pub with_this_after_code : Contents → ℕ → Option Touched → Contents
with_this_after_code c at None = c
with_this_after_code c at (Some touched) =
    with_cell (handed_back c touched) at (after_code touched (given_back c touched))

-- the cell at a place gets the reference that it has to have, and then other code runs
abbrev pub with_after_code : Contents → ℕ → Contents
with_after_code c at = with_this_after_code c at (slice_get c.cells at)

-- the same of each cell in turn
abbrev pub with_all_forgotten : Contents → Contents
with_all_forgotten c = fold with_after_code c (range_with_len 0 (length c.cells))

abbrev pub with_this_forgotten : Contents → ℕ → Option Touched → Contents
with_this_forgotten c at None = c
with_this_forgotten c at (Some touched) = with_cell (handed_back c touched) at (forgotten touched)

-- another function may set the cell at a place: it gets the reference that it has to have, and is forgotten
abbrev pub with_forgotten_at : Contents → ℕ → Contents
with_forgotten_at c at = with_this_forgotten c at (slice_get c.cells at)

-- ---- what is borrowed from cells

-- a cell that other functions leave as it is has the object
abbrev pub is_in_steady : Contents → ObjectId → Bool
is_in_steady c id = list_any (λ t. t.owes.is_steady && owns id t) c.cells

-- an object that is only borrowed from a cell that another function may set isn't alive any more
abbrev pub with_field_ended : Contents → ObjectId → Contents
with_field_ended c id =
    if is_field (object_at c id).base && not (is_in_steady c id)
    then with_object c id (record (object_at c id) { base = Gone })
    else c

abbrev pub with_field_ended_at : Contents → ℕ → Contents
with_field_ended_at c at = with_field_ended c (record { 0 = at })

-- the same of each object in turn
abbrev pub with_fields_ended : Contents → Contents
with_fields_ended c = fold with_field_ended_at c (range_with_len 0 (length c.objects))

-- the cells of the name are forgotten
abbrev pub without_cells : Contents → FieldName → Contents
without_cells c field = record c { cells = filter (λ t. not (same_field t.field field)) c.cells }

-- ---- what is left in cells

-- how many cells before this place take a reference to the object, too
abbrev pub takers : Contents → ℕ → ObjectId → ℕ
takers c at id = count_by (wants id) (take at c.cells)

-- The rule that is broken by a cell that is left with the object where the function has no reference for it.
abbrev pub left_with : Touched → Object → Option CheckCode
left_with touched object =
    if is_gone object.base && not (is_owned object)
    then (if touched.owes.alive then Some EmptyUsed else None)
    else (if touched.owes.owned then Some NotOwned else None)

-- the cell at a place has a reference to the object, or the function has one for it
abbrev pub has_reference : Contents → ℕ → Touched → ObjectId → Bool
has_reference c at touched id = touched.is_owner || nat_lt (takers c at id) (size_of (object_at c id).registers)

abbrev pub left_with_this : Contents → ℕ → Touched → Option ObjectId → Option CheckCode
left_with_this c at touched None = None
left_with_this c at touched (Some id) =
    if has_reference c at touched id then None else left_with touched (object_at c id)

abbrev pub left_in_this : Contents → ℕ → Option Touched → Option CheckCode
left_in_this c at None = None
left_in_this c at (Some touched) = left_with_this c at touched (object_in touched.value)

-- the rule that is broken if the cell at this place is handed back after those before it
abbrev pub left_in : Contents → ℕ → Option CheckCode
left_in c at = left_in_this c at (slice_get c.cells at)

abbrev pub is_left_at : Contents → Option ObjectId → ℕ → Bool
is_left_at c holder at = is_meant holder (slice_get c.cells at) && is_some (left_in c at)

-- the place of the first cell that is at fault if cells are handed back: all, or those of one object
abbrev pub first_left : Contents → Option ObjectId → Option ℕ
first_left c holder = find (is_left_at c holder) (range_with_len 0 (length c.cells))

-- the rule that is broken if cells are handed back
abbrev pub handing : Contents → Option ObjectId → Option CheckCode
handing c holder = option_and_then (left_in c) (first_left c holder)

abbrev pub is_asked : Option Touched → Bool
is_asked None = false
is_asked (Some touched) = not (is_unset touched.value) || not touched.is_owner

-- the function has read or set a cell itself
abbrev pub has_asked : Contents → Cell → Bool
has_asked c cell = is_asked (touched_at c cell)

abbrev pub is_exposed_of : Contents → Cell → Option ObjectId → Bool
is_exposed_of c cell None = false
is_exposed_of c cell (Some id) = not (has_asked c cell) && not (is_in_section c id)

-- a field is read or set without the protection that it needs; what was read before isn't asked again
abbrev pub is_exposed : Rules → Contents → Cell → Bool
is_exposed rules c cell =
    (not (is_global rules) && (cell.owes.section && not (is_held_by_new c cell)))
    && is_exposed_of c cell (holder_of c cell)

abbrev pub loses_object : Contents → Touched → ℕ → Option ObjectId → Option ObjectId → Bool
loses_object c touched at new None = false
loses_object c touched at new (Some old) =
    ((touched.is_owner && touched.owes.old) || is_owned (object_at c old))
    && (not (is_object new old) && (not (is_named c old) && not (is_in_other_cell c old at)))

abbrev pub loses_touched : Contents → ℕ → Option ObjectId → Option Touched → Bool
loses_touched c at new None = false
loses_touched c at new (Some touched) = loses_object c touched at new (object_in touched.value)

abbrev pub loses_at : Contents → Cell → Option ObjectId → Option ℕ → Bool
loses_at c cell new None = cell.owes.old && (not (is_held_by_new c cell) && not (is_held_by_assumed c cell))
loses_at c cell new (Some at) = loses_touched c at new (slice_get c.cells at)

-- a reference that a cell has is lost where something else is stored there
abbrev pub loses_cell : Contents → Cell → Option Local → Bool
loses_cell c cell from = loses_at c cell (object_of_this c from) (place_of c cell)
