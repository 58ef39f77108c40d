-- Equality of states: a test that decides equality of states decides equality of their lists.
use Rattle.std.proofs.Common.{◌≡◌, ◌↔◌, IsTrue, ℕ, ◌+◌, Bool, List, [], ◌∷◌, ◌++◌, refl, sym, ap, ◌∙◌}
use Rattle.std.specs.Prelude.{◌==◌, map, replicate}
use Rattle.std.specs.List.{slice_index_or}
use Rattle.std.proofs.lemmas.Bool.Decides.{Decides-eqb}
use Rattle.std.specs.Bool.{Decides}
use lib.Pointwise.{pointwise, pointwise_decides}
use Rattle.brc_lang.specs.declared.kind.Kind.{Kind}
use Rattle.brc_lang.specs.declared.kind.Kind.TheVariants as kinds
use Rattle.brc_model.specs.declared.state.State.{State}
use Rattle.brc_model.specs.declared.state.Slot.{Slot}
use Rattle.brc_model.specs.declared.state.Slot.TheVariants.{Empty, Owned, Caller, Locked}

-- ---- case by case

pub each_kind : (P : Kind → Type 0) → P kinds.None → P kinds.Num → P kinds.List → P kinds.File → P kinds.Sock
    → P kinds.Any → (k : Kind) → P k
each_kind P none num list file sock any kinds.None = none
each_kind P none num list file sock any kinds.Num = num
each_kind P none num list file sock any kinds.List = list
each_kind P none num list file sock any kinds.File = file
each_kind P none num list file sock any kinds.Sock = sock
each_kind P none num list file sock any kinds.Any = any

pub each_var : (P : Slot → Type 0) → P Empty → ((k : Kind) → P (Owned k)) → ((k : Kind) → P (Caller k))
    → ((k : Kind) → P (Locked k)) → (s : Slot) → P s
each_var P empty owned caller locked Empty = empty
each_var P empty owned caller locked (Owned k) = owned k
each_var P empty owned caller locked (Caller k) = caller k
each_var P empty owned caller locked (Locked k) = locked k

-- ---- a number for each state of a variable

abbrev pub kind_number : Kind → ℕ
kind_number kinds.None = 0
kind_number kinds.Num = 1
kind_number kinds.List = 2
kind_number kinds.File = 3
kind_number kinds.Sock = 4
kind_number kinds.Any = 5

abbrev pub var_number : Slot → ℕ
var_number Empty = 0
var_number (Owned k) = 6 + kind_number k
var_number (Caller k) = 12 + kind_number k
var_number (Locked k) = 18 + kind_number k

abbrev pub all_kinds : List Kind
all_kinds = kinds.None ∷ kinds.Num ∷ kinds.List ∷ kinds.File ∷ kinds.Sock ∷ kinds.Any ∷ []

-- by number: the first six are all the empty state
abbrev pub all_slots : List Slot
all_slots = replicate 6 Empty ++ map Owned all_kinds ++ map Caller all_kinds ++ map Locked all_kinds

numbered : (s : Slot) → slice_index_or all_slots (var_number s) Empty ≡ s
numbered =
    each_var _ refl (each_kind _ refl refl refl refl refl refl) (each_kind _ refl refl refl refl refl refl)
    (each_kind _ refl refl refl refl refl refl)

var_decides : (E : Slot → Slot → Bool) → ((x y : Slot) → E x y ≡ (var_number x == var_number y))
    → (x y : Slot) → Decides (E x y) (x ≡ y)
var_decides E is x y = (
  λ e. sym (numbered x) ∙ ap (λ (n : ℕ). slice_index_or all_slots n Empty)
      ((Decides-eqb (var_number x) (var_number y)).0 (sym (is x y) ∙ e)) ∙ numbered y,
  λ e. is x y ∙ (Decides-eqb (var_number x) (var_number y)).1 (ap var_number e),
)

-- ---- states

pub same_slots : (E : Slot → Slot → Bool) (xs ys : List Slot) (result : Bool)
    → ((x y : Slot) → E x y ≡ (var_number x == var_number y))
    → result ≡ pointwise E xs ys
    → IsTrue result ↔ (xs ≡ ys)
same_slots E xs ys result decided is =
    let both = pointwise_decides (var_decides E decided) xs ys in
    (λ t. both.0 (sym is ∙ t), λ e. is ∙ both.1 e)

pub same_fields : (one other : State) → one.slots ≡ other.slots → one.locked ≡ other.locked → one ≡ other
same_fields one other slots locked = λ i. record { slots = slots i; locked = locked i }
