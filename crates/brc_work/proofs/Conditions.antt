-- What an instruction's conditions say, where none is broken.
use Rattle.std.proofs.Common.{◌≡◌, ℕ, Bool, true, false, Option, None, Some, refl, sym, ap}
use Rattle.std.specs.Prelude.{◌||◌, not, is_some}
use Rattle.std.proofs.lemmas.Bool.{eqb-true}
use Rattle.brc_model.specs.declared.state.Slot.{Slot}
use Rattle.brc_model.specs.declared.state.Slot.TheVariants.{Empty, Owned, Caller, Locked}
use Rattle.brc_model.specs.declared.state.State.{State}
use Rattle.brc_model.specs.SlotStates.{var_of, is_empty, is_owned, is_borrowed, names}
use Rattle.brc_model.proofs.Basics.Lists.{first_false}
use Rattle.brc_model.proofs.Dispatch.Grounded.{owned_var}
use Rattle.brc_work.specs.Changes.{CanFill, CanGive}

-- The last condition of a code isn't broken.
pub kept : (a : Bool) → (a || false) ≡ false → a ≡ false
kept a is = first_false a false is

pub can_fill : (s : State) (to : ℕ) → (is_owned (var_of s to) || false) ≡ false → (names s.locked to || false) ≡ false
    → CanFill s to
can_fill s to free unlocked =
    record { free = kept (is_owned (var_of s to)) free; unlocked = kept (names s.locked to) unlocked }

pub can_give : (s : State) (from : ℕ) → is_empty (var_of s from) ≡ false → is_borrowed (var_of s from) ≡ false
    → names s.locked from ≡ false → CanGive s from
can_give s from used own unlocked =
    record { owned = owned_var (var_of s from) used own; unlocked = unlocked }

-- What isn't false is true.
pub not_false : (a : Bool) → not a ≡ false → a ≡ true
not_false true is = refl
not_false false is = let wrong : true ≡ false = is in absurd cc

-- The variable is the locked one.
pub locked_is : (locked : Option ℕ) (x : ℕ) → names locked x ≡ true → locked ≡ Some x
locked_is None x is = let wrong : false ≡ true = is in absurd cc
locked_is (Some y) x is = sym (ap Some (eqb-true x y is))

pub none_is : (locked : Option ℕ) → is_some locked ≡ false → locked ≡ None
none_is None is = refl
none_is (Some x) is = let wrong : true ≡ false = is in absurd cc

-- A variable that owns a reference is in use.
pub owned_used : (var : Slot) → is_owned var ≡ true → is_empty var ≡ false
owned_used Empty owned = let wrong : false ≡ true = owned in absurd cc
owned_used (Owned k) owned = refl
owned_used (Caller k) owned = refl
owned_used (Locked k) owned = refl
