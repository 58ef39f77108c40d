-- What the hand of a call holds, and what it may do with it.
use Rattle.std.proofs.Common.{◌≡◌, ◌≢◌, ℕ, ◌+◌, ◌<◌, ◌≤◌, Bool, true, false, List, length, Option, None, Some, inl, inr, refl, sym, ap, ◌∙◌, subst, arith}
use Rattle.std.specs.Prelude.{if◌then◌else◌}
use Rattle.std.proofs.lemmas.Bool.{cases_Bool, eq-eqb, false≢true}
use Rattle.brc_lang.specs.declared.kind.Kind.{Kind}
use Rattle.brc_model.specs.References.{one_if}
use Rattle.brc_model.specs.declared.layout.Layout.{Layout}
use Rattle.brc_model.specs.declared.state.Slot.{Slot}
use Rattle.brc_model.specs.declared.state.Slot.TheVariants.{Empty, Owned, Caller, Locked}
use Rattle.brc_model.specs.declared.state.State.{State}
use Rattle.brc_model.specs.Items.{borrows_item}
use Rattle.brc_model.specs.Layout.{is_immortal_row, IsCounted}
use Rattle.brc_model.specs.SlotStates.{var_of, kind_of, is_empty, is_owned, is_one_of, with_resource, with_kind, names}
use Rattle.brc_model.specs.Duties.{resources_of}
use Rattle.brc_model.specs.Threads.{row_of}
use Rattle.brc_model.proofs.Basics.Lists.{some_is, none_some}
use Rattle.brc_model.proofs.Dispatch.TakingHost.{resource_word}
use Rattle.brc_model.proofs.Dispatch.Grounded.{owned_low}
use Rattle.brc_table.specs.declared.view.View.{View}
use Rattle.brc_table.specs.Views.{holds}
use Rattle.brc_table.specs.KnownWords.{knows_kind}
use Rattle.brc_table.specs.Hands.{HandState, HoldsOne, KeepsLock, Borrows, MayUse, most_references}
use Rattle.brc_work.specs.Changes.{CanGive}
use Rattle.brc_work.specs.Fits.{Base, KnowsKind, Unknown, OfNone, OfRoot, OfImmortalList, HasSeen, SlotFits, owns, LockFits, LocksAs, Fits}
use Rattle.brc_work.proofs.Owning.{sum_at, sum_both, sum_lists}

-- ---- what a slot says of its row

-- A variable in use names an object.
pub named : (held : ℕ → ℕ) (v : View) (slot : Slot) (row : Option ℕ) → is_empty slot ≡ false
    → SlotFits held v slot row
    → (x : ℕ) × (row ≡ Some x)
named held v Empty row used fits = let wrong : true ≡ false = used in absurd cc
named held v (Owned k) row used fits = (fits.object, fits.is)
named held v (Caller k) row used fits = (fits.names.object, fits.names.is)
named held v (Locked k) row used fits = (fits.names.object, fits.names.is)

owns_one : (slot : Slot) (row : Option ℕ) (x : ℕ) → is_owned slot ≡ true → row ≡ Some x → owns x slot row ≡ 1
owns_one Empty row x owned is = let wrong : false ≡ true = owned in absurd cc
owns_one (Owned k) row x owned is =
    ap (owns x (Owned k)) is ∙ ap one_if (eq-eqb x x refl)
owns_one (Caller k) row x owned is = let wrong : false ≡ true = owned in absurd cc
owns_one (Locked k) row x owned is = let wrong : false ≡ true = owned in absurd cc

-- ---- what the hand holds

module _ (base : Base) (s : State) (rows : List (Option ℕ)) (hand : HandState) (fits : Fits base s rows hand) where
  low_slot : (i : ℕ) → is_owned (var_of s i) ≡ true → i < length s.slots
  low_slot i owned = omega (arith, owned_low s i fits.some_slots owned, fits.some_slots)

  low_row : (i : ℕ) → is_owned (var_of s i) ≡ true → i < length rows
  low_row i owned = omega (arith, owned_low s i fits.some_slots owned, fits.some_rows)

  here : (x : ℕ) → IsCounted hand.view.layout x → IsCounted base.first.view.layout x
  here x counted = subst (λ (l : Layout). IsCounted l x) fits.follows.layout counted

  -- It holds a reference to what a variable owns,
  pub owned_held : (i x : ℕ) → is_owned (var_of s i) ≡ true → row_of rows i ≡ Some x → IsCounted hand.view.layout x
      → 1 ≤ holds hand.view x
  owned_held i x owned is counted =
      let one = owns_one (var_of s i) (row_of rows i) x owned is in
      let all = sum_at (owns x) i s.slots rows (low_slot i owned) (low_row i owned) in
      omega (arith, one, all, fits.held x (here x counted))

  -- and one to what it holds further out,
  outer_held : (x : ℕ) → 1 ≤ base.held x → IsCounted hand.view.layout x → 1 ≤ holds hand.view x
  outer_held x more counted = omega (arith, more, fits.held x (here x counted))

  -- besides one by a variable.
  owned_outer : (i x : ℕ) → is_owned (var_of s i) ≡ true → row_of rows i ≡ Some x → 1 ≤ base.held x
      → IsCounted hand.view.layout x → 2 ≤ holds hand.view x
  owned_outer i x owned is more counted =
      let one = owns_one (var_of s i) (row_of rows i) x owned is in
      let all = sum_at (owns x) i s.slots rows (low_slot i owned) (low_row i owned) in
      omega (arith, one, all, more, fits.held x (here x counted))

  -- What the caller lends it holds further out.
  pub lent_outer : (i x : ℕ) (k : Kind) → var_of s i ≡ Caller k → row_of rows i ≡ Some x → IsCounted hand.view.layout x
      → 1 ≤ base.held x
  lent_outer i x k is row counted =
      let lent : SlotFits base.held hand.view (Caller k) (row_of rows i) =
      subst (λ (w : Slot). SlotFits base.held hand.view w (row_of rows i)) is (fits.each i) in
      let same : lent.names.object ≡ x = some_is lent.names.object x (sym lent.names.is ∙ row) in
      subst (λ (y : ℕ). 1 ≤ base.held y) same (lent.lent (subst (IsCounted hand.view.layout) (sym same) counted))

  -- Two variables that own a reference to the same object hold two.
  pub both_held : (i j x : ℕ) → i ≢ j → is_owned (var_of s i) ≡ true → row_of rows i ≡ Some x
      → is_owned (var_of s j) ≡ true → row_of rows j ≡ Some x → IsCounted hand.view.layout x → 2 ≤ holds hand.view x
  both_held i j x apart owned is owned_too is_too counted =
      let one = owns_one (var_of s i) (row_of rows i) x owned is in
      let two = owns_one (var_of s j) (row_of rows j) x owned_too is_too in
      let all =
      sum_both (owns x) i j s.slots rows apart (low_slot i owned) (low_row i owned) (low_slot j owned_too)
      (low_row j owned_too) in
      omega (arith, one, two, all, fits.held x (here x counted))

  -- It holds a reference to what a variable owns, or none is counted,
  pub owned_one : (i x : ℕ) → is_owned (var_of s i) ≡ true → row_of rows i ≡ Some x → HoldsOne hand.view x
  owned_one i x owned is = elim (cases_Bool (is_immortal_row hand.view.layout x)) [
    | inl immortal ↦ inl immortal
    | inr counted ↦ inr (owned_held i x owned is counted)
  ]

  -- or what the caller lends,
  lasting_slot : (i x : ℕ) (slot : Slot) → var_of s i ≡ slot → is_empty slot ≡ false → borrows_item slot ≡ false
      → row_of rows i ≡ Some x → HoldsOne hand.view x
  lasting_slot i x Empty is used lasting row = let wrong : true ≡ false = used in absurd cc
  lasting_slot i x (Owned k) is used lasting row = owned_one i x (ap is_owned is) row
  lasting_slot i x (Caller k) is used lasting row =
      elim (cases_Bool (is_immortal_row hand.view.layout x)) [
        | inl immortal ↦ inl immortal
        | inr counted ↦ inr (outer_held x (lent_outer i x k is row counted) counted)
      ]
  lasting_slot i x (Locked k) is used lasting row = let wrong : true ≡ false = lasting in absurd cc

  pub lasting_one : (i x : ℕ) → is_empty (var_of s i) ≡ false → borrows_item (var_of s i) ≡ false
      → row_of rows i ≡ Some x → HoldsOne hand.view x
  lasting_one i x used lasting row = lasting_slot i x (var_of s i) refl used lasting row

  -- and it may use what a variable in use names.
  usable_slot : (i x : ℕ) (slot : Slot) → var_of s i ≡ slot → is_empty slot ≡ false → row_of rows i ≡ Some x
      → MayUse hand.view x
  usable_slot i x Empty is used row = let wrong : true ≡ false = used in absurd cc
  usable_slot i x (Owned k) is used row = inl (lasting_slot i x (Owned k) is refl refl row)
  usable_slot i x (Caller k) is used row = inl (lasting_slot i x (Caller k) is refl refl row)
  usable_slot i x (Locked k) is used row =
      let item : SlotFits base.held hand.view (Locked k) (row_of rows i) =
      subst (λ (w : Slot). SlotFits base.held hand.view w (row_of rows i)) is (fits.each i) in
      let same : item.names.object ≡ x = some_is item.names.object x (sym item.names.is ∙ row) in
      inr (subst (Borrows hand.view) same item.borrows)

  pub usable : (i x : ℕ) → is_empty (var_of s i) ≡ false → row_of rows i ≡ Some x → MayUse hand.view x
  usable i x used row = usable_slot i x (var_of s i) refl used row

  pub names_object : (i : ℕ) → is_empty (var_of s i) ≡ false → (x : ℕ) × (row_of rows i ≡ Some x)
  names_object i used = named base.held hand.view (var_of s i) (row_of rows i) used (fits.each i)

  -- ---- the lock

  locked_slot : (i j x : ℕ) (slot : Slot) → var_of s i ≡ slot → LockFits base.first.fields s rows hand i → i ≢ j
      → row_of rows i ≡ Some x → is_owned (var_of s j) ≡ true → row_of rows j ≡ Some x
      → IsCounted hand.view.layout x → 2 ≤ holds hand.view x
  locked_slot i j x Empty is lock apart row owned other counted =
      let wrong : true ≡ false = sym (ap is_empty is) ∙ lock.used in absurd cc
  locked_slot i j x (Owned k) is lock apart row owned other counted =
      both_held i j x apart (ap is_owned is) row owned other counted
  locked_slot i j x (Caller k) is lock apart row owned other counted =
      owned_outer j x owned other (lent_outer i x k is row counted) counted
  locked_slot i j x (Locked k) is lock apart row owned other counted =
      let wrong : true ≡ false = sym (ap borrows_item is) ∙ lock.lasting in absurd cc

  -- A reference that may be given up isn't the last one to the locked object.
  gives_up : (from x : ℕ) (locked : Option ℕ) → s.locked ≡ locked → LocksAs locked base.first.fields s rows hand
      → CanGive s from → row_of rows from ≡ Some x → KeepsLock hand.view x
  gives_up from x None is lock can row locked = absurd (none_some x (sym lock.0 ∙ locked))
  gives_up from x (Some i) is lock can row locked =
      let same : lock.object ≡ x = some_is lock.object x (sym lock.locked ∙ locked) in
      let apart : i ≢ from = λ e.
      false≢true (sym can.unlocked ∙ (ap (λ (l : Option ℕ). names l from) is ∙ eq-eqb from i (sym e))) in
      elim (cases_Bool (is_immortal_row hand.view.layout x)) [
        | inl immortal ↦ inl immortal
        | inr counted ↦ inr
            (locked_slot i from x (var_of s i) refl lock apart (lock.names ∙ ap Some same) can.owned row counted)
      ]

  pub keeps_lock : (from x : ℕ) → CanGive s from → row_of rows from ≡ Some x → KeepsLock hand.view x
  keeps_lock from x can row = gives_up from x s.locked refl fits.lock can row

  -- The locked object is one that the hand holds.
  pub lock_of : (i : ℕ) → s.locked ≡ Some i → LockFits base.first.fields s rows hand i
  lock_of i is = subst (λ (l : Option ℕ). LocksAs l base.first.fields s rows hand) is fits.lock

  -- ---- how many references

  -- It may make one more.
  pub few_more : length hand.view.references + 1 < most_references
  few_more =
      let most = sum_lists base.first.view.layout s.slots rows in
      omega (arith, fits.few, fits.room, most, fits.some_slots)

  pub few_held : length hand.view.references < most_references
  few_held =
      let most = sum_lists base.first.view.layout s.slots rows in
      omega (arith, fits.few, fits.room, most, fits.some_slots)

-- ---- kinds

-- The hand has seen that the object has a resource.
pub record SeesResource (v : View) (x : ℕ) : Type 0 where
  pub word : ℕ
  pub some : 0 < word
  pub seen : knows_kind x word v ≡ true
  pub has : resources_of word ≡ 1

-- A file or a socket has a resource.
pub sees_resource : (v : View) (kind : Kind) (x : ℕ) → KnowsKind v kind x → is_one_of kind with_resource ≡ true
    → SeesResource v x
sees_resource v kind x (Unknown any) can =
    let wrong : false ≡ true = sym (ap (λ (k : Kind). is_one_of k with_resource) any) ∙ can in absurd cc
sees_resource v kind x (OfNone this is) can =
    let wrong : false ≡ true = sym (ap (λ (k : Kind). is_one_of k with_resource) is) ∙ can in absurd cc
sees_resource v kind x (OfRoot this is) can =
    let wrong : false ≡ true = sym (ap (λ (k : Kind). is_one_of k with_resource) is) ∙ can in absurd cc
sees_resource v kind x (OfImmortalList from below is) can =
    let wrong : false ≡ true = sym (ap (λ (k : Kind). is_one_of k with_resource) is) ∙ can in absurd cc
sees_resource v kind x (HasSeen word some seen is) can = record {
  word = word;
  some = some;
  seen = seen;
  has = ap (λ (b : Bool). if b then 1 else 0) (resource_word kind word (inr is) can);
}

-- What a variable in use names is known to be of its slot's kind.
pub knows_slot : (held : ℕ → ℕ) (v : View) (slot : Slot) (row : Option ℕ) (x : ℕ) → is_empty slot ≡ false
    → SlotFits held v slot row → row ≡ Some x → KnowsKind v (kind_of slot) x
knows_slot held v Empty row x used fits is = let wrong : true ≡ false = used in absurd cc
knows_slot held v (Owned k) row x used fits is =
    subst (KnowsKind v k) (some_is fits.object x (sym fits.is ∙ is)) fits.knows
knows_slot held v (Caller k) row x used fits is =
    subst (KnowsKind v k) (some_is fits.names.object x (sym fits.names.is ∙ is)) fits.names.knows
knows_slot held v (Locked k) row x used fits is =
    subst (KnowsKind v k) (some_is fits.names.object x (sym fits.names.is ∙ is)) fits.names.knows

-- The slot with another kind, which the hand knows to be the object's.
pub fits_with_kind : (held : ℕ → ℕ) (v : View) (slot : Slot) (row : Option ℕ) (kind : Kind)
    → ((x : ℕ) → row ≡ Some x → KnowsKind v kind x) → SlotFits held v slot row
    → SlotFits held v (with_kind slot kind) row
fits_with_kind held v Empty row kind knows fits = tt
fits_with_kind held v (Owned k) row kind knows fits =
    record { object = fits.object; is = fits.is; knows = knows fits.object fits.is }
fits_with_kind held v (Caller k) row kind knows fits = record {
  names = record { object = fits.names.object; is = fits.names.is; knows = knows fits.names.object fits.names.is };
  lent = fits.lent;
}
fits_with_kind held v (Locked k) row kind knows fits = record {
  names = record { object = fits.names.object; is = fits.names.is; knows = knows fits.names.object fits.names.is };
  borrows = fits.borrows;
}
