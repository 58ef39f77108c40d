-- How the references of a hand change by one, and with them what a variable owns.
use Rattle.std.proofs.Common.{◌≡◌, ◌⊎◌, ℕ, ◌+◌, ◌≤◌, Bool, true, false, cond, List, [], ◌∷◌, length, Option, None, Some, inl, inr, refl, ap, ◌∙◌, subst, arith}
use Rattle.std.specs.Prelude.{◌==◌, count_by}
use Rattle.std.proofs.lemmas.Bool.{cases_Bool}
use Rattle.std.proofs.lemmas.Bool.Decides.{eqb_tells}
use Rattle.std.proofs.lemmas.List.Sums.{sum_by-cons}
use Rattle.brc_lang.specs.declared.kind.Kind.{Kind}
use Rattle.brc_model.specs.References.{one_if}
use Rattle.brc_model.specs.declared.layout.Layout.{Layout}
use Rattle.brc_model.specs.declared.state.Slot.{Slot}
use Rattle.brc_model.specs.declared.state.Slot.TheVariants.{Empty, Owned, Caller, Locked}
use Rattle.brc_model.specs.Layout.{is_immortal_row, IsCounted}
use Rattle.brc_model.specs.SlotStates.{is_owned}
use Rattle.brc_table.specs.Views.{holds, without_one, with_reference, without_reference}
use Rattle.brc_table.specs.Hands.{HandState}
use Rattle.brc_table.proofs.Accounts.{count_with_reference, count_without_reference, immortal_apart}
use Rattle.brc_work.specs.Fits.{lists}
use Rattle.brc_work.proofs.Owning.{owns_no, lists_no}
use Rattle.brc_work.proofs.Fitting.{Trades}

-- ---- lengths

length_less : (x : ℕ) (rows : List ℕ) → 1 ≤ count_by (λ y. y == x) rows → length (without_one x rows) + 1 ≡ length rows
length_less x [] some = absurd (omega (arith, some))
length_less x (y ∷ rows) some =
    let first = sum_by-cons (λ (z : ℕ). cond (z == x) 1 0) y rows in
    elim (cases_Bool (y == x)) [
      | inl same ↦ ap (λ (b : Bool). length (cond b rows (y ∷ without_one x rows)) + 1) same ∙ omega arith
      | inr other ↦
          let rest = length_less x rows (omega (arith, some, first, ap one_if other)) in
          ap (λ (b : Bool). length (cond b rows (y ∷ without_one x rows)) + 1) other ∙ omega (arith, rest)
    ]

length_with : (layout : Layout) (x : ℕ) (rows : List ℕ) (kind : Kind)
    → length (with_reference layout x rows) ≡ length rows + lists layout (Owned kind) (Some x)
length_with layout x rows kind = elim (cases_Bool (is_immortal_row layout x)) [
  | inl is ↦
      ap (λ (b : Bool). length (cond b rows (x ∷ rows))) is
      ∙ omega (arith, ap {B = ℕ} (λ (b : Bool). cond b 0 1) is)
  | inr is ↦
      ap (λ (b : Bool). length (cond b rows (x ∷ rows))) is
      ∙ omega (arith, ap {B = ℕ} (λ (b : Bool). cond b 0 1) is)
]

length_without : (layout : Layout) (x : ℕ) (rows : List ℕ) (kind : Kind)
    → (is_immortal_row layout x ≡ true) ⊎ (1 ≤ count_by (λ y. y == x) rows)
    → length (without_reference layout x rows) + lists layout (Owned kind) (Some x) ≡ length rows
length_without layout x rows kind (inl is) =
    let same = ap (λ (b : Bool). length (cond b rows (without_one x rows))) is in
    omega (arith, same, ap {B = ℕ} (λ (b : Bool). cond b 0 1) is)
length_without layout x rows kind (inr some) = elim (cases_Bool (is_immortal_row layout x)) [
  | inl is ↦
      let same = ap (λ (b : Bool). length (cond b rows (without_one x rows))) is in
      omega (arith, same, ap {B = ℕ} (λ (b : Bool). cond b 0 1) is)
  | inr is ↦
      let same = ap (λ (b : Bool). length (cond b rows (without_one x rows))) is in
      omega (arith, same, ap {B = ℕ} (λ (b : Bool). cond b 0 1) is, length_less x rows some)
]

-- ---- owned slots

pub owned_kind : (slot : Slot) → is_owned slot ≡ true → (kind : Kind) × (slot ≡ Owned kind)
owned_kind Empty owned = let wrong : false ≡ true = owned in absurd cc
owned_kind (Owned k) owned = (k, refl)
owned_kind (Caller k) owned = let wrong : false ≡ true = owned in absurd cc
owned_kind (Locked k) owned = let wrong : false ≡ true = owned in absurd cc

-- ---- trades

-- A reference to an immortal object isn't listed.
pub uncounted : (layout : Layout) (x : ℕ) (rows : List ℕ) → is_immortal_row layout x ≡ true
    → with_reference layout x rows ≡ rows
uncounted layout x rows immortal = ap (λ (b : Bool). cond b rows (x ∷ rows)) immortal

-- The hand has a reference more, which the variable now owns.
pub gains : (layout : Layout) (old : Slot) (before : Option ℕ) (kind : Kind) (x : ℕ) (hand after : HandState)
    → is_owned old ≡ false → after.view.references ≡ with_reference layout x hand.view.references
    → Trades layout old (Owned kind) before (Some x) hand after
gains layout old before kind x hand after free more = record {
  held = λ y counted.
      let none = owns_no y old before free in
      let one : holds after.view y ≡ holds hand.view y + one_if (x == y) =
      ap (λ (l : List ℕ). count_by (λ z. z == y) l) more ∙ count_with_reference layout x y hand.view.references counted
      in
      omega (arith, none, one);
  few =
      let none = lists_no layout old before free in
      let one = ap (λ (l : List ℕ). length l) more ∙ length_with layout x hand.view.references kind in
      omega (arith, none, one);
}

pub less_held : (layout : Layout) (x y : ℕ) (rows : List ℕ) → IsCounted layout y
    → (is_immortal_row layout x ≡ true) ⊎ (1 ≤ count_by (λ z. z == x) rows)
    → count_by (λ z. z == y) (without_reference layout x rows) + one_if (x == y) ≡ count_by (λ z. z == y) rows
less_held layout x y rows counted (inl immortal) =
    let none = immortal_apart layout x y immortal counted in
    let less = count_without_reference layout x y rows counted in
    omega (arith, none, less)
less_held layout x y rows counted (inr some) =
    let less = count_without_reference layout x y rows counted in
    elim (eqb_tells x y) [
      | inl same ↦
          let there : 1 ≤ count_by (λ z. z == y) rows = subst (λ (w : ℕ). 1 ≤ count_by (λ z. z == w) rows) same.1 some
          in
          omega (arith, less, there, ap one_if same.0)
      | inr apart ↦ omega (arith, less, ap one_if apart.0)
    ]

-- The hand has a reference less, which the variable owned.
pub loses : (layout : Layout) (kind : Kind) (x : ℕ) (hand after : HandState)
    → (is_immortal_row layout x ≡ true) ⊎ (1 ≤ holds hand.view x)
    → after.view.references ≡ without_reference layout x hand.view.references
    → Trades layout (Owned kind) Empty (Some x) None hand after
loses layout kind x hand after held less = record {
  held = λ y counted.
      let one = less_held layout x y hand.view.references counted held in
      let same = ap (λ (l : List ℕ). count_by (λ z. z == y) l) less in
      omega (arith, one, same);
  few =
      let one = length_without layout x hand.view.references kind held in
      let same = ap (λ (l : List ℕ). length l) less in
      omega (arith, one, same);
}

-- The hand has what it had, and so has the variable.
pub nothing : (layout : Layout) (old new : Slot) (before row : Option ℕ) (hand after : HandState)
    → is_owned old ≡ false → is_owned new ≡ false → after.view.references ≡ hand.view.references
    → Trades layout old new before row hand after
nothing layout old new before row hand after free bare same = record {
  held = λ y counted.
      omega (
        arith,
        owns_no y old before free,
        owns_no y new row bare,
        ap (λ (l : List ℕ). count_by (λ z. z == y) l) same,
      );
  few =
      omega (
        arith,
        lists_no layout old before free,
        lists_no layout new row bare,
        ap (λ (l : List ℕ). length l) same,
      );
}

-- The variable takes over the reference that another one had.
pub regains : (layout : Layout) (old : Slot) (before : Option ℕ) (kind : Kind) (x : ℕ) (hand after : HandState)
    → is_owned old ≡ false → (is_immortal_row layout x ≡ true) ⊎ (1 ≤ holds after.view x)
    → hand.view.references ≡ without_reference layout x after.view.references
    → Trades layout old (Owned kind) before (Some x) hand after
regains layout old before kind x hand after free held less = record {
  held = λ y counted.
      let one = less_held layout x y after.view.references counted held in
      let same = ap (λ (l : List ℕ). count_by (λ z. z == y) l) less in
      omega (arith, one, same, owns_no y old before free);
  few =
      let one = length_without layout x after.view.references kind held in
      let same = ap (λ (l : List ℕ). length l) less in
      omega (arith, one, same, lists_no layout old before free);
}

pub length_more : (layout : Layout) (x : ℕ) (rows : List ℕ) → length (with_reference layout x rows) ≤ length rows + 1
length_more layout x rows = elim (cases_Bool (is_immortal_row layout x)) [
  | inl is ↦ let same = ap (λ (b : Bool). length (cond b rows (x ∷ rows))) is in omega (arith, same)
  | inr is ↦ let same = ap (λ (b : Bool). length (cond b rows (x ∷ rows))) is in omega (arith, same)
]
