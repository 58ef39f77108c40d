-- Which thread uses a row's field alone. A running thread takes the field out of the table that threads share, uses it
-- with plain reads and writes, and gives it back: it does so while it has locked the row, while it gives birth to the
-- row's object, and while it deallocates the object.
use Rattle.std.specs.Prelude.{◌≡◌, ◌≢◌, ◌⊎◌, ℕ, Bool, true, false, ◌==◌, if◌then◌else◌, List, None, Some, slice_get}
use Rattle.brc_word.specs.declared.values.TheConstants.{EMPTY}
use Rattle.std.specs.List.{list_any}
use Rattle.brc_word.specs.Words.{free_word, closed_word}
use Rattle.brc_model.specs.declared.duty.Holding.{Holding}
use Rattle.brc_model.specs.declared.duty.Duty.{Duty}
use Rattle.brc_model.specs.declared.duty.Duty.TheVariants.{LockGate, UnlockGate, BirthKind, BirthField, BirthLocal, SettleKind, SettleCell, TakeField, CloseResource, SettleEnd}
use Rattle.brc_model.specs.declared.address.Address.TheVariants.{Gate, KindOf, Field}
use Rattle.brc_model.specs.Duties.{address_of, resources_of}
use Rattle.brc_model.specs.Layout.{IsCounted}
use Rattle.brc_model.specs.declared.actor.Actor.{Actor}
use Rattle.brc_model.specs.Machine.{Machine, locked_by}
use Rattle.brc_model.specs.Accounts.{Accounts}
use Rattle.brc_model.specs.Counting.{Counts}
use Rattle.brc_model.specs.CountingLaws.{ComesNext}
use Rattle.brc_model.specs.Ending.{HaveEnded}

-- ---- who uses a field

-- what becomes of the fields that a thread has taken
pub data FieldUse : Type 0 where
  Stays : FieldUse
  -- it takes the row's field
  Takes : ℕ → FieldUse
  -- it gives the row's field back, which is the one that it took last
  Gives : ℕ → FieldUse

-- what a duty does that finds this word
abbrev pub use_of : Duty → ℕ → FieldUse
use_of (LockGate x) found = if found == free_word then Takes x else Stays
use_of (UnlockGate x) found = Gives x
use_of (BirthKind x h w) found = Takes x
use_of (BirthLocal x h) found = Gives x
use_of (SettleKind x) found = Takes x
use_of (SettleEnd x) found = Gives x
use_of _ found = Stays

-- Says whether the duty is one of a birth or a deallocation that has begun to use the row's field.
abbrev pub needs_field : ℕ → Duty → Bool
needs_field x (BirthField y h) = y == x
needs_field x (BirthLocal y h) = y == x
needs_field x (SettleCell y i n) = y == x
needs_field x (TakeField y) = y == x
needs_field x (CloseResource y) = y == x
needs_field x (SettleEnd y) = y == x
needs_field x _ = false

-- The thread uses the row's field: it has locked the row, or one of its next duties does.
abbrev pub UsesField : Actor → ℕ → Type 0
UsesField a x = (a.locked ≡ Some x) ⊎ (list_any (needs_field x) a.agenda ≡ true)

-- A thread takes a field that no thread uses.
abbrev pub FieldsAreFree : Type 0
FieldsAreFree =
    (p : Accounts) (n : ℕ) (m : Machine) (t : ℕ) (a : Actor) (d : Duty) (rest : List Duty) (u : ℕ) (b : Actor) (x : ℕ)
    → Counts p n m → ComesNext m t a d rest → use_of d (m.memory (address_of m.layout t a.head d)) ≡ Takes x
    → slice_get m.actors u ≡ Some b → UsesField b x → ⊥

-- What becomes of a thread's lock when it gives the row's field back: it has locked no row but one that it had locked,
-- and not this one.
pub record Unlocks (a : Actor) (d : Duty) (found x : ℕ) : Type 0 where
  pub left : (y : ℕ) → locked_by a.locked d found ≡ Some y → (y ≢ x) × (a.locked ≡ Some y)
  pub kept : (y : ℕ) → y ≢ x → a.locked ≡ Some y → locked_by a.locked d found ≡ Some y

-- A thread gives a field back as it unlocks the field's row, or while it hasn't locked the row.
abbrev pub GivenFieldsAreUnlocked : Type 0
GivenFieldsAreUnlocked =
    (p : Accounts) (n : ℕ) (m : Machine) (t : ℕ) (a : Actor) (d : Duty) (rest : List Duty) (found x : ℕ)
    → Counts p n m → ComesNext m t a d rest → use_of d found ≡ Gives x → Unlocks a d found x

-- A thread that gives birth to a row's object, or deallocates it, hasn't locked the row.
abbrev pub NeededFieldsAreUnlocked : Type 0
NeededFieldsAreUnlocked =
    (p : Accounts) (n : ℕ) (m : Machine) (t : ℕ) (a : Actor) (d : Duty) (rest : List Duty) (x : ℕ)
    → Counts p n m → ComesNext m t a d rest → needs_field x d ≡ true → a.locked ≡ Some x → ⊥

-- ---- what a field holds

-- What a thread knows of a field that it takes or gives back.
pub record FieldsAreKnown : Type 0 where
  -- the field of an object that isn't born yet is empty
  pub unborn : (p : Accounts) (n : ℕ) (m : Machine) (t : ℕ) (a : Actor) (x : ℕ) (h : Holding) (w : ℕ) (rest : List Duty)
      → Counts p n m → ComesNext m t a (BirthKind x h w) rest → m.memory (Field x) ≡ EMPTY
  -- at the end of a birth the object's resource is there, if its kind has one
  pub born : (p : Accounts) (n : ℕ) (m : Machine) (t : ℕ) (a : Actor) (x : ℕ) (h : Holding) (rest : List Duty)
      → Counts p n m → ComesNext m t a (BirthLocal x h) rest → m.memory (Field x) ≡ resources_of (m.memory (KindOf x))
  -- and so it is where a thread begins to deallocate the object
  pub dying : (p : Accounts) (n : ℕ) (m : Machine) (t : ℕ) (a : Actor) (x : ℕ) (rest : List Duty)
      → Counts p n m → ComesNext m t a (SettleKind x) rest → m.memory (Field x) ≡ resources_of (m.memory (KindOf x))
  -- at the end of that the field is empty
  pub closing : (p : Accounts) (n : ℕ) (m : Machine) (t : ℕ) (a : Actor) (x : ℕ) (rest : List Duty)
      → Counts p n m → ComesNext m t a (SettleEnd x) rest → m.memory (Field x) ≡ EMPTY

-- The field of an object that a thread has locked has the object's resource, if its kind has one, unless the thread has
-- lent it.
abbrev pub LockedFieldsAreFull : Type 0
LockedFieldsAreFull =
    (p : Accounts) (n : ℕ) (m : Machine) (t : ℕ) (a : Actor) (x : ℕ) → Counts p n m → slice_get m.actors t ≡ Some a
    → a.locked ≡ Some x → a.lent ≡ None → m.memory (Field x) ≡ resources_of (m.memory (KindOf x))

-- At the end a field has its row's resource, unless the row is closed.
abbrev pub FieldsEnd : Type 0
FieldsEnd = (p : Accounts) (n : ℕ) (m : Machine) (x : ℕ) → Counts p n m → HaveEnded p m → IsCounted m.layout x
    → m.memory (Field x) ≡ (if m.memory (Gate x) == closed_word then 0 else resources_of (m.memory (KindOf x)))
