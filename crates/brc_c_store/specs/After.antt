-- The store after an event.
use Rattle.std.specs.Prelude.{ℕ, ◌-◌, Bool, true, false, not, ◌&&◌, ◌==◌, if◌then◌else◌, [], ◌∷◌, ◌++◌, length}
use Rattle.std.specs.Prelude.{take, Option, None, Some, slice_get, filter, option_map, remove}
use Rattle.brc_c_store.specs.declared.value.Local.{Local}
use Rattle.brc_c_store.specs.declared.value.ObjectId.{ObjectId}
use Rattle.brc_c_store.specs.declared.value.Fact.{Fact}
use Rattle.brc_c_store.specs.declared.value.Value.{Value}
use Rattle.brc_c_store.specs.declared.value.Value.TheVariants.{Unset, Null, Object as Known, Maybe, Number}
use Rattle.brc_c_store.specs.declared.object.Base.{Base}
use Rattle.brc_c_store.specs.declared.object.Base.TheVariants.{Call, Item, Part}
use Rattle.brc_c_store.specs.declared.object.Object.{Object}
use Rattle.brc_c_store.specs.declared.register.Register.{Register}
use Rattle.brc_c_store.specs.declared.cell.Cell.{Cell}
use Rattle.brc_c_store.specs.declared.cell.Touched.{Touched}
use Rattle.brc_c_store.specs.declared.rules.Rules.{Rules}
use Rattle.brc_c_store.specs.declared.event.Event.{Event}
use Rattle.brc_c_store.specs.declared.event.Event.TheVariants as events
use Rattle.brc_c_store.specs.declared.event.Calling.{Calling}
use Rattle.brc_c_store.specs.declared.event.Calling.TheVariants.{Succeeds, MayFail, MayMiss}
use Rattle.brc_c_store.specs.declared.event.Choice.{Choice}
use Rattle.brc_c_store.specs.declared.event.Choice.TheVariants.{Yes, Missing}
use Rattle.brc_c_store.specs.declared.event.Gives.{Gives}
use Rattle.brc_c_store.specs.declared.event.Gives.TheVariants as gives
use Rattle.brc_c_store.specs.declared.event.Source.{Source}
use Rattle.brc_c_store.specs.declared.event.Source.TheVariants as sources
use Rattle.brc_c_store.specs.Registers.{no_registers, with_register}
use Rattle.brc_c_store.specs.Values.{same_fact, object_in, is_unset, is_null, gone_object, lent_object, is_owned}
use Rattle.brc_c_store.specs.Values.{has_one, is_alive, is_private, is_global, without_one, known_to_others}
use Rattle.brc_c_store.specs.Stores.{Contents, value_of, object_of, object_at, with_value, with_object, with_added}
use Rattle.brc_c_store.specs.Stores.{with_new, next_object, free_register}
use Rattle.brc_c_store.specs.Cells.{object_of_this, holder_of, place_of, touched_at, field_object, found_in, given}
use Rattle.brc_c_store.specs.Cells.{with_given, with_all_handed_back, with_handed_back_of, with_all_forgotten}
use Rattle.brc_c_store.specs.Cells.{with_cell, with_forgotten_at, with_fields_ended, without_cells}
use Rattle.brc_c_store.specs.Giving.{refined, taken_for_object, out_of_field, given_up, given_to, kept}
use Rattle.brc_c_store.specs.Giving.{with_items_ended}
use Rattle.brc_c_store.specs.Questions.{Outcome, Never, TooMany, Goes, ask_null, ask_sign, ask_fact, ask_singleton}
use Rattle.brc_c_store.specs.Questions.{become_singleton}

-- ---- ways

abbrev pub is_yes : Choice → Bool
is_yes Yes = true
is_yes _ = false

abbrev pub is_missing : Choice → Bool
is_missing Missing = true
is_missing _ = false

-- whether a call has this way after it
abbrev pub is_way_of_call : Calling → Choice → Bool
is_way_of_call Succeeds choice = is_yes choice
is_way_of_call MayFail choice = not (is_missing choice)
is_way_of_call MayMiss choice = true

-- whether an event has this way after it
abbrev pub is_way : Event → Choice → Bool
is_way (events.Null local) choice = not (is_missing choice)
is_way (events.Sign local test) choice = not (is_missing choice)
is_way (events.Choice fact) choice = not (is_missing choice)
is_way (events.Is local singleton) choice = not (is_missing choice)
is_way (events.Call given into ways) choice = is_way_of_call ways choice
is_way (events.Return local) choice = false
is_way events.ReturnPlain choice = false
is_way events.Halt choice = false
is_way events.End choice = false
is_way _ choice = is_yes choice

-- the store, or none if no register is left for a reference
abbrev pub or_too_many : Option Contents → Outcome
or_too_many None = TooMany
or_too_many (Some c) = Goes c

-- ---- names

-- a name gets an object of which nothing is known, or NULL
abbrev pub with_unknown : Contents → Local → Contents
with_unknown c to =
    with_value (with_added c (record lent_object { is_assumed = true })) to (Maybe (next_object c))

abbrev pub copied : Contents → Local → Source → Contents
copied c to sources.Nothing = with_value c to Unset
copied c to sources.Null = with_value c to Null
copied c to (sources.Local from) = with_value c to (value_of c from)
copied c to (sources.Number signs) = with_value c to (Number signs)
copied c to (sources.Singleton singleton) = with_new c to (record lent_object { singleton = Some singleton })
copied c to sources.Unknown = with_unknown c to

-- ---- references

-- the object with one more reference of the function's
abbrev pub with_one_more : Contents → ObjectId → Register → Contents
with_one_more c id r =
    with_object c id (record (object_at c id) { registers = with_register (object_at c id).registers r })

abbrev pub taken_object : Contents → Option ObjectId → Option Contents
taken_object c None = Some c
taken_object c (Some id) = option_map (with_one_more c id) (free_register c)

-- a reference to the name's object is made
abbrev pub taken : Contents → Local → Option Contents
taken c local = let d = refined c local in taken_object d (object_of d local)

abbrev pub given_away_object : Contents → Option ObjectId → Contents
given_away_object c None = c
given_away_object c (Some id) = given_up (with_object c id (known_to_others (object_at c id))) id

-- a reference to the name's object is given up
abbrev pub given_away : Contents → Local → Contents
given_away c local = let d = refined c local in given_away_object d (object_of d local)

abbrev pub object_to_container : Contents → Option ObjectId → Local → Contents
object_to_container c None container = c
object_to_container c (Some id) container = given_to c id container

-- the same, to a container that has the reference then
abbrev pub given_to_container : Contents → Local → Local → Contents
given_to_container c local container =
    let d = given_away c local in object_to_container d (object_of d local) container

abbrev pub kept_object : Contents → Option ObjectId → Option ObjectId → Contents
kept_object c None container = c
kept_object c (Some id) container = kept c id container

-- a container makes a reference of its own to the name's object
abbrev pub kept_by_container : Contents → Local → Local → Contents
kept_by_container c local container = kept_object c (object_of c local) (object_of c container)

-- an object whose reference the function gives up, if it owns one; the object is lent from there on
abbrev pub lent_from_here : Object → Object
lent_from_here object =
    if has_one object && not (is_alive (without_one object))
    then record (without_one (known_to_others object)) { base = Call }
    else without_one (known_to_others object)

abbrev pub stowed_object : Contents → Option ObjectId → Contents
stowed_object c None = c
stowed_object c (Some id) = with_object c id (lent_from_here (object_at c id))

abbrev pub stowed : Contents → Local → Contents
stowed c local = stowed_object c (object_of c local)

abbrev pub assumed_object : Contents → Option ObjectId → Contents
assumed_object c None = c
assumed_object c (Some id) = with_object c id (record (object_at c id) { is_assumed = true })

-- something is assumed of the object that the name has
abbrev pub assumed : Contents → Local → Contents
assumed c local = assumed_object c (object_of c local)

-- ---- calls

-- an object whose reference is in this register
abbrev pub new_object : Bool → Bool → Register → Object
new_object is_fresh is_assumed r =
    record gone_object { registers = with_register no_registers r; is_fresh = is_fresh; is_assumed = is_assumed }

abbrev pub borrowed_object : Base → Object
borrowed_object base = record gone_object { base = base }

-- what lends an item in a register, if one is left
abbrev pub item_base : Option Register → Option Base
item_base None = None
item_base (Some r) = Some (Item r)

abbrev pub item_of_object : Contents → Option ObjectId → Option Base
item_of_object c None = item_base (free_register c)
item_of_object c (Some id) = if is_private (object_at c id) then Some (Part id) else item_base (free_register c)

-- what lends an item of a container; of a private one the item is a part
abbrev pub item_of : Contents → Local → Option Base
item_of c container = item_of_object c (object_of c container)

-- what lends a part of an object that the function doesn't own
abbrev pub part_of_borrowed : ObjectId → Base → Base
part_of_borrowed id (Part lender) = Part id
part_of_borrowed id (Item r) = Item r
part_of_borrowed id _ = Call

abbrev pub part_of_object : Contents → Option ObjectId → Base
part_of_object c None = Call
part_of_object c (Some id) =
    if is_owned (object_at c id) then Part id else part_of_borrowed id (object_at c id).base

-- what lends a part of the name's object
abbrev pub part_of : Contents → Local → Base
part_of c lender = part_of_object c (object_of c lender)

-- what a function gives is its argument; what it gives for NULL isn't known
abbrev pub same_as : Contents → Local → Value → Contents
same_as c into Null = with_unknown c into
same_as c into value = with_value c into value

-- a call has succeeded: the name gets what it gives
abbrev pub with_result : Contents → Local → Gives → Option Contents
with_result c into gives.Nothing = Some c
with_result c into (gives.New is_fresh is_assumed) =
    option_map (λ r. with_new c into (new_object is_fresh is_assumed r)) (free_register c)
with_result c into (gives.Item container) =
    option_map (λ base. with_new c into (borrowed_object base)) (item_of c container)
with_result c into (gives.Part lender) = Some (with_new c into (borrowed_object (part_of c lender)))
with_result c into gives.Lent = Some (with_new c into lent_object)
with_result c into (gives.Same local) = Some (same_as c into (value_of c local))

abbrev pub called : Contents → Gives → Option Local → Choice → Outcome
called c given None choice = Goes c
called c given (Some into) choice = if is_yes choice then or_too_many (with_result c into given) else Goes c

abbrev pub base_of_lender : Contents → Option Local → Base
base_of_lender c None = Call
base_of_lender c (Some lender) = part_of c lender

-- an object is stored there that an argument lends; NULL may be left as it is
abbrev pub lent : Contents → Local → Option Local → Bool → Contents
lent c to lender is_optional =
    with_value (with_added c (borrowed_object (base_of_lender c lender))) to
    (if is_optional && is_null (value_of c to) then Maybe (next_object c) else Known (next_object c))

-- ---- cells

-- what is known of a cell's value: what was touched, unless another function may have set it since
abbrev pub known_in : Option Touched → Option Value
known_in None = None
known_in (Some touched) = if is_unset touched.value then None else Some touched.value

abbrev pub with_cell_added : Contents → Touched → Contents
with_cell_added c touched = record c { cells = c.cells ++ touched ∷ [] }

-- the cell at the place, or a new one if there is no place
abbrev pub with_cell_in : Contents → Option ℕ → Touched → Contents
with_cell_in c None touched = with_cell_added c touched
with_cell_in c (Some at) touched = with_cell c at touched

-- a cell of which nothing is known has an object, or NULL
abbrev pub with_found : Contents → Cell → Contents
with_found c cell = with_cell_in (with_added c (field_object cell)) (place_of c cell) (found_in c cell)

abbrev pub with_found_read : Contents → Cell → Local → Contents
with_found_read c cell to = with_value (with_found c cell) to (Maybe (next_object c))

abbrev pub value_read : Contents → Cell → Local → Option Value → Contents
value_read c cell to None = with_found_read c cell to
value_read c cell to (Some value) = with_value c to value

-- the name gets what the cell has
abbrev pub cell_read : Contents → Cell → Local → Contents
cell_read c cell to = value_read c cell to (known_in (touched_at c cell))

-- a cell that the function hasn't touched, and another one may set
abbrev pub untouched : Contents → Cell → Touched
untouched c cell =
    record { holder = holder_of c cell; field = cell.field; owes = cell.owes; value = Unset; is_owner = true }

abbrev pub forgotten_at : Contents → Cell → Option ℕ → Contents
forgotten_at c cell None = with_cell_added c (untouched c cell)
forgotten_at c cell (Some at) = with_forgotten_at c at

-- another function may set the cell
abbrev pub cell_forgotten : Contents → Cell → Contents
cell_forgotten c cell = forgotten_at c cell (place_of c cell)

-- what is stored: what the name has, or NULL
abbrev pub value_from : Contents → Option Local → Value
value_from c None = Null
value_from c (Some local) = value_of c local

abbrev pub put_there : Contents → Cell → Value → Touched
put_there c cell value =
    record { holder = holder_of c cell; field = cell.field; owes = cell.owes; value = value; is_owner = false }

abbrev pub owned_from_cell : Contents → ObjectId → Register → Contents
owned_from_cell c id r = with_object c id (record (out_of_field c id (object_at c id)) {
  registers = with_register (object_at c id).registers r;
})

abbrev pub object_taken_out : Contents → Option ObjectId → Option Contents
object_taken_out c None = Some c
object_taken_out c (Some id) = option_map (owned_from_cell (taken_for_object c id) id) (free_register c)

-- the function owns the reference that a cell had, if there is a register for it
abbrev pub taken_out : Contents → Touched → Option Contents
taken_out c old = if old.is_owner && old.owes.old then object_taken_out c (object_in old.value) else Some c

abbrev pub taken_out_at : Contents → ℕ → Option Touched → Option Contents
taken_out_at c at None = Some c
taken_out_at c at (Some old) = taken_out (record c { cells = remove c.cells at }) old

abbrev pub without_old : Contents → Option ℕ → Option Contents
without_old c None = Some c
without_old c (Some at) = taken_out_at c at (slice_get c.cells at)

-- what is in a cell isn't the function's alone any more
abbrev pub known_outside : Contents → Option ObjectId → Contents
known_outside c None = c
known_outside c (Some id) = with_object c id (known_to_others (object_at c id))

abbrev pub with_given_added : Contents → Touched → Contents
with_given_added c touched = with_cell_added (with_given c touched) (given c touched)

-- a new cell gets the function's reference to its value, if there is one
abbrev pub stored : Contents → Touched → Contents
stored c touched = with_given_added (known_outside c (object_in touched.value)) touched

-- the value is stored in the cell; the reference that it had is the function's from there on
abbrev pub put : Contents → Cell → Option Local → Option Contents
put c cell from =
    option_map (λ d. stored d (put_there c cell (value_from c from))) (without_old c (place_of c cell))

abbrev pub freed_object : Contents → Option ObjectId → Contents
freed_object c None = c
freed_object c (Some id) = with_handed_back_of c id

-- the memory of an object is given back: what its fields own is nobody's
abbrev pub freed : Contents → Local → Contents
freed c local = freed_object c (object_of c local)

abbrev pub all_handed_back : Contents → Bool → Contents
all_handed_back c runs_code = if runs_code then with_fields_ended (with_all_forgotten c) else with_all_handed_back c

-- ---- sections

abbrev pub with_section : Contents → Option ObjectId → Option ObjectId → Contents
with_section c first second = record c { sections = c.sections ++ record { first = first; second = second } ∷ [] }

-- The text has one lock: if a section is open, it is given back and taken again, which ends items.
abbrev pub with_lock_given_back : Contents → Contents
with_lock_given_back c = if length c.sections == 0 then c else with_items_ended c

-- a section begins
abbrev pub locked : Rules → Contents → Option Local → Option Local → Contents
locked rules c first second =
    if is_global rules then c
    else with_section (with_lock_given_back c) (object_of_this c first) (object_of_this c second)

abbrev pub without_section : Contents → Contents
without_section c = record c { sections = take (length c.sections - 1) c.sections }

-- the innermost section ends, and with it what is borrowed as an item
abbrev pub unlocked : Rules → Contents → Contents
unlocked rules c = if is_global rules then c else with_items_ended (without_section c)

abbrev pub with_detached : Contents → Bool → Contents
with_detached c is_detached = record c { is_detached = is_detached }

-- ---- events

abbrev pub without_fact : Contents → Fact → Contents
without_fact c fact = record c { facts = filter (λ known. not (same_fact known.fact fact)) c.facts }

-- the store after an event that has one way
abbrev pub changed : Rules → Event → Contents → Contents
changed rules (events.Copy to from) c = copied c to from
changed rules (events.Forget fact) c = without_fact c fact
changed rules (events.Use local) c = refined c local
changed rules (events.Release local) c = given_away c local
changed rules (events.Give local) c = given_away c local
changed rules (events.GiveTo local container) c = given_to_container c local container
changed rules (events.Keep local container) c = kept_by_container c local container
changed rules (events.Stow local) c = stowed (assumed c local) local
changed rules (events.HandOver local) c = stowed c local
changed rules (events.Assume local) c = assumed c local
changed rules events.EndItems c = with_items_ended c
changed rules (events.Lend to lender is_optional) c = lent c to lender is_optional
changed rules (events.Read cell to) c = cell_read c cell to
changed rules (events.HandBack runs_code) c = all_handed_back c runs_code
changed rules (events.ForgetCell cell) c = cell_forgotten c cell
changed rules (events.DropCells field) c = without_cells c field
changed rules (events.FreeCells local) c = freed c local
changed rules (events.Lock first second) c = locked rules c first second
changed rules events.Unlock c = unlocked rules c
changed rules events.Detach c = with_detached (with_items_ended c) true
changed rules events.Attach c = with_detached c false
changed rules _ c = c

-- what follows an event along one of its ways
abbrev pub along : Rules → Event → Choice → Contents → Outcome
along rules (events.Null local) choice c = ask_null c local (is_yes choice)
along rules (events.Sign local test) choice c = ask_sign c local test (is_yes choice)
along rules (events.Choice fact) choice c = ask_fact c fact (is_yes choice)
along rules (events.Is local singleton) choice c = ask_singleton c local singleton (is_yes choice)
along rules (events.Become local singleton) choice c = become_singleton c local singleton
along rules (events.Take local) choice c = or_too_many (taken c local)
along rules (events.Call given into ways) choice c = called c given into choice
along rules (events.Put cell from) choice c = or_too_many (put c cell from)
along rules event choice c = Goes (changed rules event c)

-- what follows an event that breaks no rule in the store, if a path goes this way on
abbrev pub after_of : Rules → Event → Choice → Contents → Outcome
after_of rules event choice c = if is_way event choice then along rules event choice c else Never
