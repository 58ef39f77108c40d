-- Which variables of a call own a reference, and which of them is the first that names a row.
use Rattle.std.proofs.Common.{◌≡◌, ℕ, zero, suc, ◌+◌, ◌<◌, ◌≤◌, Bool, true, false, cond, List, [], ◌∷◌, length, Option, None, Some, inl, inr, refl, sym, ap, ◌∙◌, subst, arith}
use Rattle.std.specs.Prelude.{if◌then◌else◌, is_some, slice_set}
use Rattle.std.specs.List.{slice_index_or}
use Rattle.std.proofs.lemmas.Bool.Decides.{eqb_tells}
use Rattle.std.proofs.lemmas.List.{ext_get_or, length-set}
use Rattle.brc_model.specs.declared.state.Slot.{Slot}
use Rattle.brc_model.specs.declared.state.Slot.TheVariants.{Empty}
use Rattle.brc_model.specs.SlotStates.{is_owned}
use Rattle.brc_model.specs.Threads.{row_of}
use Rattle.brc_model.specs.Actions.{owned_rows, first_named}
use Rattle.brc_model.proofs.Dispatch.Grounded.{row_of-set_same, row_of-set_other}

-- ---- what is owned

-- the row that the variable keeps
abbrev pub kept_row : List Slot → List (Option ℕ) → ℕ → Option ℕ
kept_row slots rows v = if is_owned (slice_index_or slots v Empty) then row_of rows v else None

-- Of the first variables only those have their rows that own a reference; the others are as they were.
pub record KeepsOwned (slots : List Slot) (rows owned : List (Option ℕ)) (count : ℕ) : Type 0 where
  pub long : length owned ≡ length rows
  pub below : (v : ℕ) → v < count → row_of owned v ≡ kept_row slots rows v
  pub rest : (v : ℕ) → count ≤ v → row_of owned v ≡ row_of rows v

pub keeps_first : (slots : List Slot) (rows : List (Option ℕ)) → KeepsOwned slots rows rows 0
keeps_first slots rows =
    record { long = refl; below = λ v low. absurd (omega (arith, low)); rest = λ v past. refl }

keeps_next : (slots : List Slot) (rows owned after : List (Option ℕ)) (count : ℕ) → KeepsOwned slots rows owned count
    → length after ≡ length owned → row_of after count ≡ kept_row slots rows count
    → ((v : ℕ) → (v ≡ count → ⊥) → row_of after v ≡ row_of owned v) → KeepsOwned slots rows after (count + 1)
keeps_next slots rows owned after count old long here others = record {
  long = long ∙ old.long;
  below = λ v low. elim (eqb_tells v count) [
    | inl this ↦ subst (λ (w : ℕ). row_of after w ≡ kept_row slots rows w) (sym this.1) here
    | inr apart ↦ others v apart.1 ∙ old.below v (omega (arith, low, apart.1))
  ];
  rest = λ v past. others v (λ e. omega (arith, e, past)) ∙ old.rest v (omega (arith, past));
}

-- A variable that owns a reference keeps its row.
pub keeps_owned : (slots : List Slot) (rows owned : List (Option ℕ)) (count : ℕ) → KeepsOwned slots rows owned count
    → is_owned (slice_index_or slots count Empty) ≡ true → KeepsOwned slots rows owned (count + 1)
keeps_owned slots rows owned count old owns =
    keeps_next slots rows owned owned count old refl
    (old.rest count (omega arith) ∙ sym (ap (λ (b : Bool). cond b (row_of rows count) None) owns)) (λ v apart. refl)

-- Any other one loses it.
pub keeps_none : (slots : List Slot) (rows owned : List (Option ℕ)) (count : ℕ) → KeepsOwned slots rows owned count
    → is_owned (slice_index_or slots count Empty) ≡ false → count < length rows
    → KeepsOwned slots rows (slice_set owned count None) (count + 1)
keeps_none slots rows owned count old owns low =
    keeps_next slots rows owned (slice_set owned count None) count old (length-set owned count None)
    (row_of-set_same owned count None (omega (arith, low, old.long))
    ∙ sym (ap (λ (b : Bool). cond b (row_of rows count) None) owns))
    (λ v apart. row_of-set_other owned count v None apart)

owned_long : (slots : List Slot) (rows : List (Option ℕ)) → length slots ≡ length rows
    → length (owned_rows slots rows) ≡ length rows
owned_long [] [] same = refl
owned_long [] (row ∷ rows) same = absurd (omega (arith, same))
owned_long (var ∷ slots) [] same = absurd (omega (arith, same))
owned_long (var ∷ slots) (row ∷ rows) same = ap suc (owned_long slots rows (omega (arith, same)))

owned_at : (slots : List Slot) (rows : List (Option ℕ)) (v : ℕ) → length slots ≡ length rows → v < length rows
    → row_of (owned_rows slots rows) v ≡ kept_row slots rows v
owned_at [] [] v same low = absurd (omega (arith, low))
owned_at [] (row ∷ rows) v same low = absurd (omega (arith, same))
owned_at (var ∷ slots) [] v same low = absurd (omega (arith, same))
owned_at (var ∷ slots) (row ∷ rows) zero same low = refl
owned_at (var ∷ slots) (row ∷ rows) (suc v) same low =
    owned_at slots rows v (omega (arith, same)) (omega (arith, low))

-- After all variables just those that own a reference have their rows.
pub keeps_all : (slots : List Slot) (rows owned : List (Option ℕ)) (count : ℕ) → KeepsOwned slots rows owned count
    → length slots ≡ length rows → length rows ≤ count → owned ≡ owned_rows slots rows
keeps_all slots rows owned count keeps same all =
    ext_get_or None owned (owned_rows slots rows) (keeps.long ∙ sym (owned_long slots rows same))
    (λ v low.
    let within : v < length rows = omega (arith, low, keeps.long) in
    keeps.below v (omega (arith, within, all)) ∙ sym (owned_at slots rows v same within))

-- ---- the first variable that names a row

abbrev pub NamesNone : List (Option ℕ) → ℕ → Type 0
NamesNone rows count = (v : ℕ) → v < count → is_some (row_of rows v) ≡ false

pub names_none_yet : (rows : List (Option ℕ)) → NamesNone rows 0
names_none_yet rows v low = absurd (omega (arith, low))

pub names_none_more : (rows : List (Option ℕ)) (count : ℕ) → NamesNone rows count
    → is_some (row_of rows count) ≡ false → NamesNone rows (count + 1)
names_none_more rows count none here v low = elim (eqb_tells v count) [
  | inl this ↦ subst (λ (w : ℕ). is_some (row_of rows w) ≡ false) (sym this.1) here
  | inr apart ↦ none v (omega (arith, low, apart.1))
]

pub first_is : (rows : List (Option ℕ)) (v : ℕ) → NamesNone rows v → is_some (row_of rows v) ≡ true
    → v ≡ first_named rows
first_is [] v none some = absurd cc
first_is (Some row ∷ rows) zero none some = refl
first_is (None ∷ rows) zero none some = absurd cc
first_is (Some row ∷ rows) (suc v) none some =
    absurd (let wrong : true ≡ false = none 0 (omega arith) in cc)
first_is (None ∷ rows) (suc v) none some =
    ap suc (first_is rows v (λ w low. none (suc w) (omega (arith, low))) some)

pub first_past : (rows : List (Option ℕ)) (count : ℕ) → length rows ≤ count → NamesNone rows count
    → length rows ≡ first_named rows
first_past [] count all none = refl
first_past (Some row ∷ rows) count all none =
    absurd (let wrong : true ≡ false = none 0 (omega (arith, all)) in cc)
first_past (None ∷ rows) (suc count) all none =
    ap suc (first_past rows count (omega (arith, all)) (λ w low. none (suc w) (omega (arith, low))))
first_past (None ∷ rows) zero all none = absurd (omega (arith, all))
