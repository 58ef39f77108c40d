-- What a step makes of the fields that its hand has taken. A hand takes a field as it locks the field's row, begins a
-- birth or begins a deallocation, and gives it back at the end.
use Rattle.std.specs.Prelude.{◌≡◌, ℕ, ◌<◌, ◌==◌, true, if◌then◌else◌, Option, List, [], ◌∷◌}
use Rattle.atomic_table.specs.Table.{Me}
use Rattle.brc_word.specs.Words.{free_word}
use Rattle.brc_model.specs.declared.duty.Duty.{Duty}
use Rattle.brc_model.specs.declared.duty.Duty.TheVariants.{UnlockGate, BirthLocal, SettleKind, SettleEnd}
use Rattle.brc_model.specs.Duties.{resources_of}
use Rattle.brc_model.specs.FieldLaws.{FieldUse, Stays, Takes, Gives, use_of}
use Rattle.brc_table.specs.declared.view.View.{View}
use Rattle.brc_table.specs.Views.{RowsAreThere, view_after, locking}
use Rattle.brc_table.specs.KnownWords.{knows_kind}
use Rattle.brc_table.specs.Homes.{rows_of, held_in}
use Rattle.brc_table.specs.Hands.{HandState}

-- ---- the fields of a hand, each with how many resources it holds

abbrev pub behind_field : List (ℕ × ℕ) → List (ℕ × ℕ)
behind_field [] = []
behind_field (p ∷ ps) = ps

abbrev pub field_rows : List (ℕ × ℕ) → List ℕ
field_rows [] = []
field_rows (p ∷ ps) = p.0 ∷ field_rows ps

-- The field that the hand took last is that of row x, and holds n resources.
pub record FirstField (fields : List (ℕ × ℕ)) (x n : ℕ) : Type 0 where
  pub rest : List (ℕ × ℕ)
  pub is : fields ≡ (x, n) ∷ rest

-- The fields after a step: the one that it takes holds n resources.
abbrev pub held_after : List (ℕ × ℕ) → FieldUse → ℕ → List (ℕ × ℕ)
held_after fields Stays n = fields
held_after fields (Takes x) n = (x, n) ∷ fields
held_after fields (Gives x) n = behind_field fields

-- what the first duty does with fields
abbrev pub first_use : List Duty → ℕ → FieldUse
first_use [] found = Stays
first_use (d ∷ rest) found = use_of d found

-- How many resources are in the field that the first duty takes: at a deallocation as many as the kind word says, and
-- at a birth none.
abbrev pub first_due : List Duty → ℕ → ℕ
first_due (SettleKind x ∷ rest) found = resources_of found
first_due _ found = 0

-- How many resources have to be in the field that the first duty gives back: at an unlock as many as were there, at the
-- end of a birth as many as the kind word says, and at the end of a deallocation none.
abbrev pub IsDue : View → List Duty → ℕ → Type 0
IsDue v (UnlockGate x ∷ rest) n = n ≡ v.in_field
IsDue v (BirthLocal x h ∷ rest) n = (word : ℕ) × (0 < word) × (knows_kind x word v ≡ true) × (n ≡ resources_of word)
IsDue v (SettleEnd x ∷ rest) n = n ≡ 0
IsDue v _ n = ⊥

-- The field that the hand took last is the row's, and holds as many resources as the row's kind word says that the hand
-- has stored.
pub record HoldsItsOwn (hand : HandState) (x : ℕ) : Type 0 where
  pub word : ℕ
  pub some : 0 < word
  pub seen : knows_kind x word hand.view ≡ true
  pub first : FirstField hand.fields x (resources_of word)

-- ---- steps

-- The seat has the fields that the view lists, if it had them before.
abbrev pub Follows : {T : Type 0} → Me (Option T) View → Me (Option T) View → Type 0
Follows me after = rows_of me.1 ≡ me.0.taken → rows_of after.1 ≡ after.0.taken

-- The hand first becomes `begins` of what it was, and then does its first duty, which takes a field or gives one back.
abbrev pub Uses : {T : Type 0} → (View → View) → Me (Option T) View → ℕ → Me (Option T) View → Type 0
Uses begins me found after =
    (after.0 ≡ view_after (begins me.0) found) × RowsAreThere after.0 × Follows me after
    × (held_in after.1 ≡ held_after (held_in me.1) (first_use (begins me.0).actor.agenda found)
    (first_due (begins me.0).actor.agenda found))

-- The hand tries to lock the row, and takes its field if it finds the gate free. Then the field holds as many resources
-- as the kind word says that the hand has seen.
abbrev pub Locks : {T : Type 0} → ℕ → Me (Option T) View → ℕ → Me (Option T) View → Type 0
Locks x me found after =
    (after.0 ≡ view_after (locking me.0 x after.0.in_field) found) × RowsAreThere after.0 × Follows me after
    × (held_in after.1 ≡ (if found == free_word then (x, after.0.in_field) ∷ held_in me.1 else held_in me.1))
    × ((word : ℕ) → found ≡ free_word → 0 < word → knows_kind x word me.0 ≡ true
    → after.0.in_field ≡ resources_of word)
