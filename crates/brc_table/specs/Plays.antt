-- What a step on a word makes of its hand.
use Rattle.std.specs.Prelude.{◌≡◌, ◌≢◌, ℕ, ◌<◌, true, Some, List, [], ◌∷◌}
use Rattle.brc_model.specs.declared.duty.Reason.TheVariants.{Handed}
use Rattle.brc_model.specs.declared.duty.Duty.{Duty}
use Rattle.brc_model.specs.declared.duty.Duty.TheVariants.{MergeExchange, KindLoad, CellLoad}
use Rattle.brc_model.specs.Duties.{resources_of}
use Rattle.brc_model.specs.FirstRows.{first_kind_word}
use Rattle.brc_model.specs.Layout.{row_count}
use Rattle.brc_model.specs.Machine.{is_running}
use Rattle.brc_model.specs.Within.{Suits, FindsOwner}
use Rattle.brc_word.specs.Words.{merged_word, dead_word}
use Rattle.brc_effect.specs.Accesses.{known_before}
use Rattle.brc_table.specs.declared.view.View.{View}
use Rattle.brc_table.specs.KnownWords.{knows_kind, known_cell}
use Rattle.brc_table.specs.Hands.{MayChange}

-- The value found suits the view's first duty.
abbrev pub SuitsFirst : View → List Duty → ℕ → Type 0
SuitsFirst v [] found = Unit {0}
SuitsFirst v (d ∷ rest) found = Suits v.thread (is_running v.actor.status) (row_count v.layout) d found

-- What a load of a local word finds of the owner.
abbrev pub FirstFindsOwner : View → List Duty → ℕ → Type 0
FirstFindsOwner v [] found = Unit {0}
FirstFindsOwner v (d ∷ rest) found = FindsOwner v.layout d found

-- What a hand knows of what its first duty finds. A load of a kind word finds what the hand has seen there. If the hand
-- has locked the object, the kind word says how many resources the object's field had when the hand took it. A load of
-- a cell that no other hand changes finds what the hand has seen there. A merge for a handed reference that wins leaves
-- that reference counted.
abbrev pub FindsKnown : View → List Duty → ℕ → Type 0
FindsKnown v (KindLoad x ∷ rest) found =
    ((word : ℕ) → 0 < word → knows_kind x word v ≡ true → found ≡ word)
    × (v.actor.locked ≡ Some x → v.in_field ≡ resources_of found)
FindsKnown v (CellLoad x i ∷ rest) found =
    (word : ℕ) → MayChange v x → known_cell x i v ≡ Some word → found ≡ word
FindsKnown v (MergeExchange x c w Handed ∷ rest) found = found ≡ w → merged_word w c ≢ dead_word
FindsKnown v _ found = Unit {0}

-- A load of the kind word of a row that was there from the start finds the row's first kind word.
abbrev pub FindsFirst : List (List ℕ) → View → List Duty → ℕ → Type 0
FindsFirst lines v (KindLoad x ∷ rest) found =
    0 < first_kind_word lines v.layout x → found ≡ first_kind_word lines v.layout x
FindsFirst lines v _ found = Unit {0}

-- the value that the thread's first duty overwrites, if it is a store
abbrev pub overwritten_by : ℕ → List Duty → ℕ
overwritten_by t [] = 0
overwritten_by t (d ∷ rest) = known_before t d

-- the same of a hand
abbrev pub overwritten : View → ℕ
overwritten v = overwritten_by v.thread v.actor.agenda
