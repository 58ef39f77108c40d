-- Values and objects.
use Rattle.std.specs.Prelude.{Bool, true, false, not, ◌&&◌, ◌||◌, ◌==◌, Option, None, Some, is_none, is_some}
use Rattle.std.specs.Prelude.{if◌then◌else◌}
use Rattle.brc_c_store.specs.declared.value.Local.{Local}
use Rattle.brc_c_store.specs.declared.value.ObjectId.{ObjectId}
use Rattle.brc_c_store.specs.declared.value.Singleton.{Singleton}
use Rattle.brc_c_store.specs.declared.value.Fact.{Fact}
use Rattle.brc_c_store.specs.declared.value.Value.{Value}
use Rattle.brc_c_store.specs.declared.value.Value.TheVariants.{Unset, Null, Object as Known, Maybe, Number}
use Rattle.brc_c_store.specs.declared.object.Base.{Base}
use Rattle.brc_c_store.specs.declared.object.Base.TheVariants.{Gone, Call, Item, Part, Field}
use Rattle.brc_c_store.specs.declared.object.Object.{Object}
use Rattle.brc_c_store.specs.declared.cell.Field.{Field as FieldName}
use Rattle.brc_c_store.specs.declared.rules.Rules.{Rules}
use Rattle.brc_c_store.specs.declared.rules.Rules.TheVariants.{GlobalLock, FreeThreaded}
use Rattle.brc_c_store.specs.Registers.{no_registers, has_none, size_of, last_of, without_last}

-- ---- the same name, object, and so on

abbrev pub same_local : Local → Local → Bool
same_local a b = a.0 == b.0

abbrev pub same_object : ObjectId → ObjectId → Bool
same_object a b = a.0 == b.0

abbrev pub same_fact : Fact → Fact → Bool
same_fact a b = a.0 == b.0

abbrev pub same_field : FieldName → FieldName → Bool
same_field a b = a.0 == b.0

-- whether it is this object
abbrev pub is_object : Option ObjectId → ObjectId → Bool
is_object None id = false
is_object (Some other) id = same_object other id

-- whether it is this singleton
abbrev pub is_singleton : Option Singleton → Singleton → Bool
is_singleton None singleton = false
is_singleton (Some other) singleton = other.0 == singleton.0

-- whether both cells belong to the same object, or both to none
abbrev pub same_holder : Option ObjectId → Option ObjectId → Bool
same_holder one None = is_none one
same_holder one (Some id) = is_object one id

abbrev pub is_global : Rules → Bool
is_global GlobalLock = true
is_global FreeThreaded = false

-- ---- values

-- the object that a value is, or may be
abbrev pub object_in : Value → Option ObjectId
object_in Unset = None
object_in Null = None
object_in (Known id) = Some id
object_in (Maybe id) = Some id
object_in (Number signs) = None

abbrev pub has_object : Value → ObjectId → Bool
has_object value id = is_object (object_in value) id

abbrev pub is_unset : Value → Bool
is_unset Unset = true
is_unset _ = false

abbrev pub is_null : Value → Bool
is_null Null = true
is_null _ = false

-- ---- objects

-- an object of which nobody has a reference
abbrev pub gone_object : Object
gone_object = record {
  registers = no_registers;
  base = Gone;
  is_fresh = false;
  kept_by = None;
  is_in_field = false;
  singleton = None;
  is_assumed = false;
}

-- an object that is lent for the whole call
abbrev pub lent_object : Object
lent_object = record gone_object { base = Call }

-- the function owns a reference to it
abbrev pub is_owned : Object → Bool
is_owned object = not (has_none object.registers)

-- a register has a reference to it, which may be given up
abbrev pub has_one : Object → Bool
has_one object = is_some (last_of object.registers)

abbrev pub is_gone : Base → Bool
is_gone Gone = true
is_gone _ = false

abbrev pub is_item : Base → Bool
is_item (Item r) = true
is_item _ = false

abbrev pub is_field : Base → Bool
is_field Field = true
is_field _ = false

abbrev pub is_part_of : Base → ObjectId → Bool
is_part_of (Part lender) id = same_object lender id
is_part_of _ id = false

-- the function may use the object
abbrev pub is_alive : Object → Bool
is_alive object = is_owned object || not (is_gone object.base)

-- the object dies if one more reference is given up
abbrev pub is_last : Object → Bool
is_last object = (size_of object.registers == 1) && (is_gone object.base && is_none object.kept_by)

-- nobody else can change the object: the function has made it, and still owns it
abbrev pub is_private : Object → Bool
is_private object = object.is_fresh && is_owned object

-- what is left of the object is the container's that keeps it
abbrev pub is_keepers : Base → Option ObjectId → Bool
is_keepers (Part lender) (Some keeper) = same_object lender keeper
is_keepers _ _ = false

-- a reference is given up that isn't there
abbrev pub is_spent : Object → Bool
is_spent object = not (is_owned object) && (is_gone object.base || is_keepers object.base object.kept_by)

-- the object with one of the function's references less
abbrev pub without_one : Object → Object
without_one object = record object { registers = without_last object.registers }

abbrev pub known_to_others : Object → Object
known_to_others object = record object { is_fresh = false }
