-- The rule that an event breaks in a store.
use Rattle.std.specs.Prelude.{Bool, false, not, ◌&&◌, ◌||◌, ◌==◌, if◌then◌else◌, length, Option, None, Some}
use Rattle.std.specs.Prelude.{option_and_then}
use Rattle.std.specs.List.{list_any, range_with_len}
use Rattle.brc_lang.specs.declared.check_code.CheckCode.{CheckCode}
use Rattle.brc_lang.specs.declared.check_code.CheckCode.TheVariants.{EmptyUsed, NotOwned, StillOwns, LeftOwned}
use Rattle.brc_lang.specs.declared.check_code.CheckCode.TheVariants.{LeftLocked, NotLocked, RunsOff}
use Rattle.brc_c_store.specs.declared.value.Local.{Local}
use Rattle.brc_c_store.specs.declared.value.ObjectId.{ObjectId}
use Rattle.brc_c_store.specs.declared.value.Value.{Value}
use Rattle.brc_c_store.specs.declared.value.Value.TheVariants.{Unset, Null, Object as Known, Maybe, Number}
use Rattle.brc_c_store.specs.declared.object.Object.{Object}
use Rattle.brc_c_store.specs.declared.cell.Cell.{Cell}
use Rattle.brc_c_store.specs.declared.rules.Rules.{Rules}
use Rattle.brc_c_store.specs.declared.event.Event.{Event}
use Rattle.brc_c_store.specs.declared.event.Event.TheVariants as events
use Rattle.brc_c_store.specs.declared.event.Gives.{Gives}
use Rattle.brc_c_store.specs.declared.event.Gives.TheVariants as gives
use Rattle.brc_c_store.specs.declared.event.Source.{Source}
use Rattle.brc_c_store.specs.declared.event.Source.TheVariants as sources
use Rattle.brc_c_store.specs.Values.{is_unset, is_null, is_owned, is_gone, is_field, is_last, is_spent, is_global}
use Rattle.brc_c_store.specs.Stores.{Contents, value_of, object_of, object_at, is_locked}
use Rattle.brc_c_store.specs.Asking.{loses, is_dead, is_unprotected, is_left}
use Rattle.brc_c_store.specs.Cells.{place_of, is_in_cell, left_in, handing, is_exposed, loses_cell}

abbrev pub fault_if : Bool → CheckCode → Option CheckCode
fault_if is_one code = if is_one then Some code else None

-- the first of two rules that is broken
abbrev pub or_else : Option CheckCode → Option CheckCode → Option CheckCode
or_else None other = other
or_else (Some code) other = Some code

-- the object that is assigned, if the store has it
abbrev pub object_from : Contents → Source → Option ObjectId
object_from c (sources.Local local) = object_of c local
object_from c _ = None

-- the reference of what the name had is lost
abbrev pub copying : Contents → Local → Source → Option CheckCode
copying c to from = fault_if (loses c to (object_from c from)) StillOwns

-- a container's item is borrowed outside a critical section
abbrev pub borrows_unprotected : Rules → Contents → Gives → Bool
borrows_unprotected rules c (gives.Item container) = is_unprotected rules c container
borrows_unprotected rules c _ = false

abbrev pub object_given : Contents → Gives → Option ObjectId
object_given c (gives.Same local) = object_of c local
object_given c _ = None

abbrev pub loses_this : Contents → Option Local → Option ObjectId → Bool
loses_this c None new = false
loses_this c (Some to) new = loses c to new

abbrev pub calling : Rules → Contents → Gives → Option Local → Option CheckCode
calling rules c given into =
    or_else (fault_if (borrows_unprotected rules c given) NotLocked)
    (fault_if (loses_this c into (object_given c given)) StillOwns)

-- there is a reference that the function may give up: its own, or that of a cell
abbrev pub has_reference : Contents → ObjectId → Object → Bool
has_reference c id object = is_owned object || (is_field object.base || is_in_cell c id)

-- A reference to the object is given up. The last one ends it, and its fields hand back what they have.
abbrev pub giving_up : Contents → ObjectId → Object → Option CheckCode
giving_up c id object =
    if is_last object then handing c (Some id)
    else (if has_reference c id object then None
    else (if is_spent object then Some EmptyUsed
    else fault_if (not object.is_in_field) NotOwned))

abbrev pub giving_value : Contents → Value → Option CheckCode
giving_value c Unset = Some EmptyUsed
giving_value c Null = None
giving_value c (Number signs) = None
giving_value c (Known id) = giving_up c id (object_at c id)
giving_value c (Maybe id) = giving_up c id (object_at c id)

-- a reference is given up that isn't there, or that is only borrowed
abbrev pub giving : Contents → Local → Option CheckCode
giving c local = giving_value c (value_of c local)

-- NULL is given up, or what isn't there, or what is only borrowed
abbrev pub releasing : Contents → Local → Option CheckCode
releasing c local = if is_null (value_of c local) then Some EmptyUsed else giving c local

-- the use of a name's object, or of NULL, is a use of what may be freed
abbrev pub is_dead_object : Contents → Local → Bool
is_dead_object c local = not (is_null (value_of c local)) && is_dead c local

-- nothing was assigned to what is stored
abbrev pub is_nothing : Contents → Option Local → Bool
is_nothing c None = false
is_nothing c (Some local) = is_unset (value_of c local)

-- a cell is set without protection, nothing was assigned to what it gets, or what it had is lost
abbrev pub putting : Rules → Contents → Cell → Option Local → Option CheckCode
putting rules c cell from =
    or_else (fault_if (is_exposed rules c cell) NotLocked)
    (or_else (fault_if (is_nothing c from) EmptyUsed) (fault_if (loses_cell c cell from) StillOwns))

-- a cell that is handed back by itself
abbrev pub forgetting : Contents → Cell → Option CheckCode
forgetting c cell = option_and_then (left_in c) (place_of c cell)

-- a section ends where none is open
abbrev pub unlocking : Rules → Contents → Option CheckCode
unlocking rules c = fault_if (not (is_global rules) && (length c.sections == 0)) NotLocked

-- the function returns without the global lock
abbrev pub is_unlocked : Rules → Contents → Bool
is_unlocked rules c = is_global rules && c.is_detached

-- an object's references are left
abbrev pub leaves : Contents → Option Local → Bool
leaves c returned = list_any (λ at. is_left c returned (record { 0 = at })) (range_with_len 0 (length c.objects))

-- nothing is left at the end: the global lock is held, no reference is owned, no section is open
abbrev pub ending : Rules → Contents → Option Local → Option CheckCode
ending rules c returned =
    or_else (fault_if (is_unlocked rules c) NotLocked)
    (or_else (fault_if (leaves c returned) LeftOwned)
    (fault_if (not (is_global rules) && is_locked rules c) LeftLocked))

abbrev pub returning_object : Rules → Contents → Local → Object → Option CheckCode
returning_object rules c local object =
    if is_owned object then ending rules c (Some local)
    else (if is_unlocked rules c then Some NotLocked
    else (if is_gone object.base then Some EmptyUsed else Some NotOwned))

abbrev pub returning_value : Rules → Contents → Local → Value → Option CheckCode
returning_value rules c local Unset = Some EmptyUsed
returning_value rules c local Null = ending rules c None
returning_value rules c local (Number signs) = ending rules c None
returning_value rules c local (Known id) = returning_object rules c local (object_at c id)
returning_value rules c local (Maybe id) = returning_object rules c local (object_at c id)

-- what is returned has to be the caller's afterwards
abbrev pub returning : Rules → Contents → Local → Option CheckCode
returning rules c local = returning_value rules c local (value_of c local)

-- The rule that an event breaks in a store, if any.
abbrev pub faults_of : Rules → Event → Contents → Option CheckCode
faults_of rules (events.Copy to from) c = copying c to from
faults_of rules (events.Null local) c = fault_if (is_unset (value_of c local)) EmptyUsed
faults_of rules (events.Use local) c = fault_if (is_dead c local) EmptyUsed
faults_of rules (events.UseOrNull local) c = fault_if (is_dead_object c local) EmptyUsed
faults_of rules (events.Take local) c = fault_if (is_dead c local) EmptyUsed
faults_of rules (events.Release local) c = releasing c local
faults_of rules (events.Give local) c = giving c local
faults_of rules (events.GiveTo local container) c = giving c local
faults_of rules (events.Lose local) c = fault_if (loses c local None) LeftOwned
faults_of rules (events.Call given into ways) c = calling rules c given into
faults_of rules (events.Lend to lender is_optional) c = fault_if (loses c to None) StillOwns
faults_of rules (events.Read cell to) c = fault_if (is_exposed rules c cell) NotLocked
faults_of rules (events.Put cell from) c = putting rules c cell from
faults_of rules (events.HandBack runs_code) c = handing c None
faults_of rules (events.ForgetCell cell) c = forgetting c cell
faults_of rules events.Unlock c = unlocking rules c
faults_of rules (events.Return local) c = returning rules c local
faults_of rules events.ReturnPlain c = ending rules c None
faults_of rules events.End c = Some RunsOff
faults_of rules _ c = None
