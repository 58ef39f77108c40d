-- What the words and the hands of a table say together: an object's counts add up to its references. (PEP 703, Biased
-- Reference Counting: an object has as many references as its local and its shared count say together; it is freed only
-- in the states default and merged.)
use Rattle.std.specs.Prelude.{◌≡◌, ◌⊎◌, ℕ, ◌+◌, ◌<◌, ◌≤◌, Bool, true, false, ◌==◌, List, slice_index, sum_by}
use Rattle.std.specs.List.{list_any}
use Rattle.brc_word.specs.Words.{owner_part, local_part, biased_part, phase_part, bias, mark_at, closed_word}
use Rattle.brc_model.specs.declared.duty.Reason.TheVariants.{Own}
use Rattle.brc_model.specs.declared.duty.Duty.{Duty}
use Rattle.brc_model.specs.declared.duty.Duty.TheVariants.{RetainLoad, RetainStore, RetainAdd, ReleaseLoad, ReleaseStore, SharedLoad, SharedExchange, BirthKind, BirthField, BirthLocal, CellSwap}
use Rattle.brc_model.specs.declared.layout.Layout.{Layout}
use Rattle.brc_model.specs.Layout.{block_of, mark_bit}
use Rattle.brc_model.specs.Duties.{mark_place}
use Rattle.brc_model.specs.Knowledge.{IsDyingWord}
use Rattle.brc_model.specs.OpenWork.{is_finalising}
use Rattle.brc_model.specs.References.{word_holds}
use Rattle.brc_model.specs.CountingLaws.{over_cells}
use Rattle.brc_model.specs.Agreement.{at_row, awaits, carries, decides_or_merges, has_swapped, IsPhase}
use Rattle.brc_table.specs.declared.view.View.{View}
use Rattle.brc_table.specs.Places.{local_line, shared_line, in_tile, cell_place, place}
use Rattle.brc_table.specs.Views.{holds, open_work}
use Rattle.brc_table.specs.Rule.{IsHand}
use Rattle.brc_table.specs.Ending.{kind_at, gate_at}

-- ---- the words of an object

abbrev pub local_at : List ℕ → ℕ → ℕ
local_at words x = slice_index words (in_tile local_line x)

abbrev pub shared_at : List ℕ → ℕ → ℕ
shared_at words x = slice_index words (in_tile shared_line x)

-- the row's mark: 1 if it is set, else 0
abbrev pub row_mark : Layout → List ℕ → ℕ → ℕ
row_mark layout words x = mark_at (slice_index words (place layout (mark_place layout x))) (mark_bit layout x)

-- 0 default, 2 queued, 3 merged
abbrev pub phase_at : List ℕ → ℕ → ℕ
phase_at words x = phase_part (shared_at words x)

-- ---- the work of the hands

-- 1 if the duty gives up a reference to the object: the hand no longer lists it, and the counts still have it
abbrev pub gives_up : ℕ → Duty → ℕ
gives_up x (ReleaseLoad y h) = at_row x y
gives_up x (ReleaseStore y w) = at_row x y
gives_up x (SharedLoad y Own) = at_row x y
gives_up x (SharedExchange y Own w) = at_row x y
gives_up x (CellSwap y i z h) = at_row x z
gives_up x _ = 0

-- 1 if the duty makes a reference to the object: the hand lists it already, and the counts don't have it yet
abbrev pub makes : ℕ → Duty → ℕ
makes x (RetainLoad y h) = at_row x y
makes x (RetainStore y h w) = at_row x y
makes x (RetainAdd y h) = at_row x y
makes x (BirthKind y h w) = at_row x y
makes x (BirthField y h) = at_row x y
makes x (BirthLocal y h) = at_row x y
makes x _ = 0

-- the sum of a weight over the open work of all hands
abbrev pub over_work : (Duty → ℕ) → List View → ℕ
over_work weight views = sum_by (λ v. sum_by weight (open_work v)) views

-- ---- the numbers of an object

-- the local and the shared count together, with what merges have swapped out of the local word and not yet added to the
-- shared word, and with the bias of the shared word
abbrev pub counted : List ℕ → List View → ℕ → ℕ
counted words views x = local_part (local_at words x) + biased_part (shared_at words x) + over_work (carries x) views

-- the references that the hands list
abbrev pub listed : List View → ℕ → ℕ
listed views x = sum_by (λ v. holds v x) views

-- the references that cells hold
abbrev pub in_cells : Layout → List ℕ → ℕ → ℕ
in_cells layout words x =
    over_cells (λ y i. word_holds (slice_index words (cell_place layout y i)) x) layout

-- the decrements that are pending: one if the mark is set, and those of the hands' work
abbrev pub pending : Layout → List ℕ → List View → ℕ → ℕ
pending layout words views x = row_mark layout words x + over_work (awaits x) views

-- ---- which objects live

-- The gate says that the object is dying, or that it is closed.
abbrev pub IsDeadGate : ℕ → Type 0
IsDeadGate gate = ((t : ℕ) × IsDyingWord t gate) ⊎ (gate ≡ closed_word)

-- Says whether the duty is of the object's birth, after the kind word is stored, or of its death.
abbrev pub is_birth_or_death : ℕ → Duty → Bool
is_birth_or_death x (BirthField y h) = y == x
is_birth_or_death x (BirthLocal y h) = y == x
is_birth_or_death x d = is_finalising d x

-- The object was born and isn't dying or closed, as the words say, and no hand is at its birth or its death.
pub record IsBornAndOpen (words : List ℕ) (views : List View) (x : ℕ) : Type 0 where
  pub born : 0 < kind_at words x
  pub open_gate : IsDeadGate (gate_at words x) → ⊥
  pub settled : (id : ℕ) (v : View) → IsHand views id v → list_any (is_birth_or_death x) (open_work v) ≡ false

-- The object has a reference or a pending decrement. Then it lives: it is born, and it isn't dying or closed. A hand
-- lists a reference that it makes, and at a birth there is no other, so those that are being made don't count.
abbrev pub IsInUse : Layout → List ℕ → List View → ℕ → Type 0
IsInUse layout words views x =
    over_work (makes x) views
    < listed views x + in_cells layout words x + over_work (gives_up x) views + pending layout words views x

-- The object lives: it is in use, or it was born and isn't dying or closed. So does an object that has lost its last
-- reference and isn't dying.
abbrev pub Lives : Layout → List ℕ → List View → ℕ → Type 0
Lives layout words views x = IsInUse layout words views x ⊎ IsBornAndOpen words views x

-- ---- who counts an object locally

-- The thread of the row's block owns the object, and its local count is at least 1.
pub record IsCountedLocally (layout : Layout) (words : List ℕ) (x : ℕ) : Type 0 where
  pub owner : owner_part (local_at words x) ≡ block_of layout x + 1
  pub counted : 1 ≤ local_part (local_at words x)

-- Some hand has such a duty.
pub record SomeHandHas (views : List View) (is_such : Duty → Bool) : Type 0 where
  pub id : ℕ
  pub view : View
  pub here : IsHand views id view
  pub listed : list_any is_such (open_work view) ≡ true

-- The hand of the thread that the local word names as its owner has such a duty.
pub record OwnersHandHas (words : List ℕ) (views : List View) (x : ℕ) (is_such : Duty → Bool) : Type 0 where
  pub has : SomeHandHas views is_such
  pub owner : owner_part (local_at words x) ≡ has.view.thread + 1

-- ---- dying and closed objects

-- No hand lists the object, no cell names it, no hand makes a reference to it or gives one up, and no decrement is
-- pending.
pub record IsFreeOf (layout : Layout) (words : List ℕ) (views : List View) (x : ℕ) : Type 0 where
  pub unlisted : listed views x ≡ 0
  pub unnamed : in_cells layout words x ≡ 0
  pub unmade : over_work (makes x) views ≡ 0
  pub given_up : over_work (gives_up x) views ≡ 0
  pub none_pending : pending layout words views x ≡ 0

-- ---- agreement

-- The words and all hands agree about the object's references. The total and the first clauses hold of every row, also
-- before a birth and after a death, when the object has no reference. The clauses about states ask that the object
-- lives. Its gate says whether it is dying or closed.
pub record AgreesInTable (layout : Layout) (words : List ℕ) (views : List View) (x : ℕ) : Type 0 where
  -- the counts add up to the references and the pending decrements; the references are those that hands list and those
  -- that cells hold, without those that hands are making, and with those that hands are giving up
  pub total : counted words views x + over_work (makes x) views
      ≡ listed views x + in_cells layout words x + over_work (gives_up x) views + pending layout words views x + bias
  -- no object has two pending decrements
  pub one_pending : pending layout words views x ≤ 1
  -- default: no decrement is pending, and the shared count isn't negative
  pub default_none : phase_at words x ≡ 0 → pending layout words views x ≡ 0
  pub default_counts : phase_at words x ≡ 0 → bias ≤ biased_part (shared_at words x)
  -- queued: one decrement is pending
  pub queued_one : Lives layout words views x → phase_at words x ≡ 2 → pending layout words views x ≡ 1
  -- merged: nobody owns the object, and the shared count is above 0
  pub merged_free : Lives layout words views x → phase_at words x ≡ 3 → local_at words x ≡ 0
  pub merged_counts : Lives layout words views x → phase_at words x ≡ 3 → bias < biased_part (shared_at words x)
  pub phase : Lives layout words views x → IsPhase (phase_at words x)
  -- default: the owner counts the object locally, unless a hand has found the last local reference gone, or merges it
  pub default_local : Lives layout words views x → phase_at words x ≡ 0
      → IsCountedLocally layout words x ⊎ SomeHandHas views (decides_or_merges x)
  -- queued: the owner counts the object locally, unless the owner decides about it or merges it, or a hand has swapped
  -- the local count out
  pub queued_local : Lives layout words views x → phase_at words x ≡ 2
      → IsCountedLocally layout words x ⊎ OwnersHandHas words views x (decides_or_merges x)
      ⊎ SomeHandHas views (has_swapped x)
  -- dying or closed: the object has no reference, and no decrement is pending
  pub dead_free : IsDeadGate (gate_at words x) → IsFreeOf layout words views x
