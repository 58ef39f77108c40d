-- The effects of steps: field by field the model's.
use Rattle.std.specs.Prelude.{◌≡◌, ℕ, ◌+◌, ◌*◌, ◌<◌, ◌^◌, List, [], ◌∷◌, Option}
use Rattle.brc_word.specs.Words.{marks_of_word, lowest_mark}
use Rattle.brc_model.specs.declared.actor.Status.{Status}
use Rattle.brc_model.specs.declared.duty.Duty.{Duty}
use Rattle.brc_model.specs.declared.duty.Duty.TheVariants.{ReleaseLoad, Die, Scan, TakeFound, SettleCell}
use Rattle.brc_model.specs.declared.duty.Holding.TheVariants.{InFlight}
use Rattle.brc_model.specs.Limits.{cell_limit}
use Rattle.brc_model.specs.Duties.{continuation, new_head}
use Rattle.brc_model.specs.Machine.{is_running, status_by, used_by, locked_by, lent_by}
use Rattle.brc_effect.specs.declared.effect.Change.{Change}
use Rattle.brc_effect.specs.declared.effect.Change.TheVariants as changes
use Rattle.brc_effect.specs.declared.effect.Doer.{Doer}
use Rattle.brc_effect.specs.declared.effect.Effect.{Effect}
use Rattle.brc_effect.specs.declared.effect.Next.{Next}
use Rattle.brc_effect.specs.declared.effect.Next.TheVariants.{Nothing, One, Two, Release, Three}

-- the duties, in the order in which the thread does them
abbrev pub duties_of : Next → List Duty
duties_of Nothing = []
duties_of (One a) = a ∷ []
duties_of (Two a b) = a ∷ b ∷ []
duties_of (Release x a) = ReleaseLoad x InFlight ∷ a ∷ []
duties_of (Three a b c) = a ∷ b ∷ c ∷ []

-- the thread's status after the change
abbrev pub status_after : Status → Change → Status
status_after status (changes.Becomes new) = new
status_after status _ = status

-- the number of rows that the thread has used after the change
abbrev pub used_after : ℕ → Change → ℕ
used_after used (changes.Uses new) = new
used_after used _ = used

-- the row of the object that the thread has locked after the change
abbrev pub locked_after : Option ℕ → Change → Option ℕ
locked_after locked (changes.Locks new) = new
locked_after locked _ = locked

-- the row of the object whose resource the thread has lent after the change
abbrev pub lent_after : Option ℕ → Change → Option ℕ
lent_after lent (changes.Lends new) = new
lent_after lent _ = lent

-- if the duty's effect adds 1 to a row or a cell, then the row is below n, the number of all rows, or the cell is below
-- the most cells of any list
abbrev pub IsNumbered : ℕ → Duty → Type 0
IsNumbered n (Die x) = x < n
IsNumbered n (SettleCell x i k) = i < cell_limit
IsNumbered n _ = Unit {0}

-- The mark word that a duty names has no large number, and a duty that takes marks has some.
abbrev pub IsIndexed : Duty → Type 0
IsIndexed (Scan w n) = w < 2 ^ 31
IsIndexed (TakeFound w marks) = (0 < marks) × (marks_of_word * w + lowest_mark marks < 2 ^ 31)
IsIndexed _ = Unit {0}

-- the effect is the model's, for a duty whose step finds `found` in its word
pub record IsEffect (by : Doer) (d : Duty) (found : ℕ) (e : Effect) : Type 0 where
  -- the duties that follow
  pub next : duties_of e.next ≡ continuation by.blocks by.number (is_running by.status) by.head d found
  -- the thread afterwards
  pub head : e.head ≡ new_head by.head d found
  pub status : status_after by.status e.change ≡ status_by by.status d
  pub used : used_after by.used e.change ≡ used_by by.used d
  -- whatever the thread had locked and lent
  pub locked : (locked : Option ℕ) → locked_after locked e.change ≡ locked_by locked d found
  pub lent : (lent : Option ℕ) → lent_after lent e.change ≡ lent_by lent d found
