-- Where a store goes on after a question.
use Rattle.std.specs.Prelude.{Bool, false, not, if◌then◌else◌, [], ◌∷◌, ◌++◌, Option, None, Some}
use Rattle.std.specs.Prelude.{is_some}
use Rattle.std.specs.Bool.{beq}
use Rattle.brc_c_store.specs.declared.value.Local.{Local}
use Rattle.brc_c_store.specs.declared.value.ObjectId.{ObjectId}
use Rattle.brc_c_store.specs.declared.value.Singleton.{Singleton}
use Rattle.brc_c_store.specs.declared.value.Fact.{Fact}
use Rattle.brc_c_store.specs.declared.value.Value.{Value}
use Rattle.brc_c_store.specs.declared.value.Value.TheVariants.{Unset, Null, Object as Known, Maybe, Number}
use Rattle.brc_c_store.specs.declared.signs.Signs.{Signs}
use Rattle.brc_c_store.specs.declared.signs.Test.{Test}
use Rattle.brc_c_store.specs.declared.following.Next.{Next}
use Rattle.brc_c_store.specs.declared.following.Next.TheVariants as nexts
use Rattle.brc_c_store.specs.Signs.{all_signs, has_no_sign, signs_left}
use Rattle.brc_c_store.specs.Values.{is_singleton, is_null, is_owned}
use Rattle.brc_c_store.specs.Stores.{Contents, contents_of, value_of, object_of, object_at, with_value, with_object}
use Rattle.brc_c_store.specs.Stores.{fact_of}
use Rattle.brc_c_store.specs.Giving.{refined, taken_for_object, taken_for_null}

-- what follows an event
pub data Outcome : Type 0 where
  -- no path goes this way
  Never : Outcome
  -- no register is left for a reference
  TooMany : Outcome
  -- the path goes on in this store
  Goes : Contents → Outcome

abbrev pub outcome_of : Next → Outcome
outcome_of nexts.Never = Never
outcome_of nexts.TooMany = TooMany
outcome_of (nexts.Store s) = Goes (contents_of s)

abbrev pub way : Bool → Contents → Outcome
way is_open c = if is_open then Goes c else Never

-- what may be NULL is NULL, or isn't
abbrev pub answered_maybe : ObjectId → Bool → Contents → Local → Contents
answered_maybe id is_null c local = if is_null then taken_for_null c id else refined c local

abbrev pub null_of : Value → Bool → Contents → Local → Outcome
null_of Unset is_null c local = Never
null_of Null is_null c local = way is_null c
null_of (Known id) is_null c local = way (not is_null) c
null_of (Number signs) is_null c local = Goes c
null_of (Maybe id) is_null c local = Goes (answered_maybe id is_null c local)

-- whether a name has NULL
abbrev pub ask_null : Contents → Local → Bool → Outcome
ask_null c local is_null = null_of (value_of c local) is_null c local

-- the signs that a value may have
abbrev pub signs_in : Value → Signs
signs_in (Number signs) = signs
signs_in _ = all_signs

abbrev pub with_signs : Contents → Local → Signs → Outcome
with_signs c local left = if has_no_sign left then Never else Goes (with_value c local (Number left))

-- whether a number passes a test
abbrev pub ask_sign : Contents → Local → Test → Bool → Outcome
ask_sign c local test wanted = with_signs c local (signs_left (signs_in (value_of c local)) test wanted)

abbrev pub with_fact : Contents → Fact → Bool → Contents
with_fact c fact holds = record c { facts = c.facts ++ record { fact = fact; holds = holds } ∷ [] }

abbrev pub known_fact : Option Bool → Contents → Fact → Bool → Outcome
known_fact None c fact holds = Goes (with_fact c fact holds)
known_fact (Some known) c fact holds = way (beq known holds) c

-- whether a condition holds, which two questions in the same words answer alike
abbrev pub ask_fact : Contents → Option Fact → Bool → Outcome
ask_fact c None holds = Goes c
ask_fact c (Some fact) holds = known_fact (fact_of c fact) c fact holds

abbrev pub has_this_singleton : Option ObjectId → Contents → Singleton → Bool
has_this_singleton None c singleton = false
has_this_singleton (Some id) c singleton = is_singleton (object_at c id).singleton singleton

-- the name has the singleton: the function has assigned it
abbrev pub has_singleton : Contents → Local → Singleton → Bool
has_singleton c local singleton = has_this_singleton (object_of c local) c singleton

-- whether a name has a singleton; what has another object isn't NULL
abbrev pub ask_singleton : Contents → Local → Singleton → Bool → Outcome
ask_singleton c local singleton holds =
    if has_singleton c local singleton then way holds c else way (not holds) (refined c local)

abbrev pub with_singleton : Contents → ObjectId → Singleton → Contents
with_singleton c id singleton =
    if is_owned (object_at c id)
    then with_object (taken_for_object c id) id (record (object_at c id) { singleton = Some singleton })
    else c

abbrev pub object_becomes_it : Contents → ObjectId → Singleton → Outcome
object_becomes_it c id singleton =
    if is_some (object_at c id).singleton then way (is_singleton (object_at c id).singleton singleton) c
    else Goes (with_singleton c id singleton)

abbrev pub object_becomes : Contents → Option ObjectId → Singleton → Outcome
object_becomes c None singleton = Goes c
object_becomes c (Some id) singleton = object_becomes_it c id singleton

-- a name was found to have a singleton; of what is only borrowed it doesn't matter
abbrev pub become_singleton : Contents → Local → Singleton → Outcome
become_singleton c local singleton =
    if is_null (value_of c local) then Never else object_becomes c (object_of c local) singleton
