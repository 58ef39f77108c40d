-- Stores: what they have, lookups, and updates.
use Rattle.std.specs.Prelude.{Bool, false, not, ◌&&◌, ◌||◌, ◌==◌, nat_lt, if◌then◌else◌, List, [], ◌∷◌, ◌++◌, length}
use Rattle.std.specs.Prelude.{Option, None, Some, slice_get, slice_set, find, fold, unwrap_or, option_map}
use Rattle.std.specs.List.{list_any}
use Rattle.brc_c_store.specs.declared.value.Local.{Local}
use Rattle.brc_c_store.specs.declared.value.ObjectId.{ObjectId}
use Rattle.brc_c_store.specs.declared.value.Fact.{Fact}
use Rattle.brc_c_store.specs.declared.value.Value.{Value}
use Rattle.brc_c_store.specs.declared.value.Value.TheVariants.{Unset, Object as Known}
use Rattle.brc_c_store.specs.declared.object.Base.{Base}
use Rattle.brc_c_store.specs.declared.object.Base.TheVariants.{Item}
use Rattle.brc_c_store.specs.declared.object.Object.{Object}
use Rattle.brc_c_store.specs.declared.register.Register.{Register}
use Rattle.brc_c_store.specs.declared.register.RegisterSet.{RegisterSet}
use Rattle.brc_c_store.specs.declared.cell.Touched.{Touched}
use Rattle.brc_c_store.specs.declared.rules.Rules.{Rules}
use Rattle.brc_c_store.specs.declared.store.Named.{Named}
use Rattle.brc_c_store.specs.declared.store.Section.{Section}
use Rattle.brc_c_store.specs.declared.store.KnownFact.{KnownFact}
use Rattle.brc_c_store.specs.declared.store.Store.{Store}
use Rattle.brc_c_store.specs.Registers.{no_registers, has_none, with_register, union_of, others_of, last_of}
use Rattle.brc_c_store.specs.Registers.{first_of_two}
use Rattle.brc_c_store.specs.Values.{same_local, same_fact, has_object, object_in, gone_object, is_item, is_global}

-- what a store has, as lists
pub record Contents : Type 0 where
  pub values : List Named
  pub objects : List Object
  pub cells : List Touched
  pub sections : List Section
  pub stale : RegisterSet
  pub is_detached : Bool
  pub facts : List KnownFact

abbrev pub contents_of : Store → Contents
contents_of s = record {
  values = s.values.items;
  objects = s.objects.items;
  cells = s.cells.items;
  sections = s.sections.items;
  stale = s.stale;
  is_detached = s.is_detached;
  facts = s.facts.items;
}

-- the store in which nothing is known
abbrev pub empty_contents : Contents
empty_contents = record {
  values = [];
  objects = [];
  cells = [];
  sections = [];
  stale = no_registers;
  is_detached = false;
  facts = [];
}

-- ---- names

abbrev pub is_of : Local → Named → Bool
is_of local named = same_local named.local local

abbrev pub value_in : Option Named → Value
value_in None = Unset
value_in (Some named) = named.value

-- what a name has
abbrev pub value_of : Contents → Local → Value
value_of c local = value_in (find (is_of local) c.values)

-- the object that a name has, or may have
abbrev pub object_of : Contents → Local → Option ObjectId
object_of c local = object_in (value_of c local)

abbrev pub named : Local → Value → Named
named local value = record { local = local; value = value }

-- the name has a lower number than this one
abbrev pub is_before : Local → Named → Bool
is_before local named = nat_lt named.local.0 local.0

-- the names, by their numbers, after one gets a value
unfoldable pub with_named : List Named → Local → Value → List Named
with_named [] local value = named local value ∷ []
with_named (n ∷ ns) local value =
    if is_before local n then n ∷ with_named ns local value
    else (if is_of local n then named local value ∷ ns else named local value ∷ n ∷ ns)

abbrev pub with_value : Contents → Local → Value → Contents
with_value c local value = record c { values = with_named c.values local value }

abbrev pub has_value : ObjectId → Named → Bool
has_value id n = has_object n.value id

-- a name has the object
abbrev pub is_named : Contents → ObjectId → Bool
is_named c id = list_any (has_value id) c.values

-- the cell has the object without a reference of its own
abbrev pub wants : ObjectId → Touched → Bool
wants id touched = not touched.is_owner && has_object touched.value id

-- a name other than this one has the object, or a cell that is to get a reference to it
abbrev pub is_named_beside : Contents → ObjectId → Local → Bool
is_named_beside c id local =
    list_any (λ n. not (is_of local n) && has_value id n) c.values || list_any (wants id) c.cells

-- ---- objects

-- an object of the store; of another store's nothing is known
abbrev pub object_at : Contents → ObjectId → Object
object_at c id = unwrap_or (slice_get c.objects id.0) gone_object

abbrev pub with_object : Contents → ObjectId → Object → Contents
with_object c id object = record c { objects = slice_set c.objects id.0 object }

-- the object that is made next
abbrev pub next_object : Contents → ObjectId
next_object c = record { 0 = length c.objects }

abbrev pub with_added : Contents → Object → Contents
with_added c object = record c { objects = c.objects ++ object ∷ [] }

-- a name gets a new object
abbrev pub with_new : Contents → Local → Object → Contents
with_new c local object = with_value (with_added c object) local (Known (next_object c))

-- ---- registers

-- the registers that own a reference
abbrev pub owned_registers : Contents → RegisterSet
owned_registers c = fold (λ taken object. union_of taken object.registers) no_registers c.objects

abbrev pub with_item : RegisterSet → Base → RegisterSet
with_item taken (Item r) = with_register taken r
with_item taken _ = taken

-- the registers that aren't empty
abbrev pub used_registers : Contents → RegisterSet
used_registers c = fold (λ taken object. with_item taken object.base) (union_of (owned_registers c) c.stale) c.objects

-- the register that is taken next: the lowest empty one, as long as another one is empty too
abbrev pub free_register : Contents → Option Register
free_register c = first_of_two (others_of (used_registers c))

-- a register that is empty, and stays so
abbrev pub spare_register : Contents → Option Register
spare_register c = last_of (others_of (used_registers c))

-- ---- sections, items, facts

-- the text's lock is locked: the global lock, or that of any section
abbrev pub is_locked : Rules → Contents → Bool
is_locked rules c = not c.is_detached && (is_global rules || not (length c.sections == 0))

-- an object is an item, or a register has one that is forgotten
abbrev pub has_items : Contents → Bool
has_items c = not (has_none c.stale) || list_any (λ object. is_item object.base) c.objects

-- what was found for a condition
abbrev pub fact_of : Contents → Fact → Option Bool
fact_of c fact = option_map (λ known. known.holds) (find (λ known. same_fact known.fact fact) c.facts)
