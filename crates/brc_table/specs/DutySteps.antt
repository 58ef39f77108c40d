-- What a step makes of its hand, and what the hand learns by it, whichever duty the step is of.
use Rattle.std.specs.Prelude.{◌≡◌, ℕ, List, [], ◌∷◌, Option}
use Rattle.atomic_table.specs.Table.{Me}
use Rattle.brc_model.specs.declared.duty.Duty.{Duty}
use Rattle.brc_model.specs.Duties.{address_of}
use Rattle.brc_model.specs.FieldLaws.{FieldUse, Gives, use_of}
use Rattle.brc_model.specs.Stores.{Overwrites}
use Rattle.brc_table.specs.declared.view.View.{View}
use Rattle.brc_table.specs.Rule.{reading}
use Rattle.brc_table.specs.Plays.{SuitsFirst, FirstFindsOwner, FindsKnown, FindsFirst, overwritten}
use Rattle.brc_table.specs.Views.{view_after}
use Rattle.brc_table.specs.Hands.{HandState}
use Rattle.brc_table.specs.Uses.{FirstField, IsDue, Uses, first_due, held_after}

-- The field that a step gives back is the one that the hand took last, and holds what is due.
abbrev pub DueField : FieldUse → List (ℕ × ℕ) → View → Type 0
DueField (Gives x) fields v = (n : ℕ) × FirstField fields x n × IsDue v v.actor.agenda n
DueField _ fields v = Unit {0}

-- If the first duty is a store, the value found is the one that the thread knows.
abbrev pub OverwritesFirst : ℕ → List Duty → ℕ → Type 0
OverwritesFirst t [] found = Unit {0}
OverwritesFirst t (d ∷ rest) found = Overwrites t d found

-- what the word of the first duty says: that of a thread says that the thread runs, if it isn't started yet
abbrev pub said : View → List Duty → ℕ → ℕ
said v [] word = word
said v (d ∷ rest) word = reading (address_of v.layout v.thread v.actor.head d) word

-- The hand first becomes `begins` of what it was, and then does its first duty, in a table with these lines of immortal
-- lists.
abbrev pub Steps : {T : Type 0} → List (List ℕ) → (View → View) → Me (Option T) View → ℕ → Me (Option T) View → Type 0
Steps lines begins me found after =
    Uses begins me found after
    × SuitsFirst (begins me.0) (begins me.0).actor.agenda found
    × FirstFindsOwner (begins me.0) (begins me.0).actor.agenda found
    × FindsKnown (begins me.0) (begins me.0).actor.agenda found
    × OverwritesFirst (begins me.0).thread (begins me.0).actor.agenda found
    × FindsFirst lines (begins me.0) (begins me.0).actor.agenda found

-- The same of a step that finds this word, and goes on with what the word says.
abbrev pub StepsBy : {T : Type 0} → List (List ℕ) → (View → View) → Me (Option T) View → ℕ → Me (Option T) View
    → Type 0
StepsBy lines begins me word after = Steps lines begins me (said (begins me.0) (begins me.0).actor.agenda word) after

-- The same of a store, which knows the value that it overwrites.
abbrev pub StepsStored : {T : Type 0} → List (List ℕ) → (View → View) → Me (Option T) View → Me (Option T) View → Type 0
StepsStored lines begins me after = Steps lines begins me (overwritten (begins me.0)) after

-- What a step makes of its hand, which does the duty and finds this word. The hand became `begun` first. The lines are
-- those of the table's immortal lists.
pub record DutyDone (lines : List (List ℕ)) (begun : View) (d : Duty) (found : ℕ) (h k : HandState) : Type 0 where
  pub table : k.table ≡ h.table
  pub carried : k.carried ≡ h.carried
  pub fields : k.fields ≡ held_after h.fields (use_of d 0) (first_due (d ∷ []) found)
  pub view : k.view ≡ view_after begun found
  pub overwrites : Overwrites h.view.thread d found
  pub suits : SuitsFirst begun begun.actor.agenda found
  pub owner : FirstFindsOwner begun begun.actor.agenda found
  pub finds : FindsKnown begun begun.actor.agenda found
  pub first : FindsFirst lines begun begun.actor.agenda found
