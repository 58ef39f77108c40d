-- What a step can rely on: its word is there, and the values that it finds and leaves are a header's, below all bounds.
use Rattle.std.specs.Prelude.{◌≡◌, ◌≢◌, ◌⊎◌, ℕ, ◌+◌, ◌*◌, ◌<◌, ◌≤◌, Bool, true, List}
use Rattle.brc_word.specs.declared.values.TheConstants.{EMPTY, FULL}
use Rattle.brc_word.specs.Words.{half, most_local, owner_part, local_part, biased_part, phase_part, bias, marks_of_word, lowest_mark}
use Rattle.brc_model.specs.declared.thread.Choice.{Choice}
use Rattle.brc_model.specs.declared.actor.Place.{Place}
use Rattle.brc_model.specs.declared.address.Address.{Address}
use Rattle.brc_model.specs.declared.address.Address.TheVariants.{Local, Shared, Gate, KindOf, Marks, Cell, Field, Resource, ThreadWord}
use Rattle.brc_model.specs.declared.duty.Duty.{Duty}
use Rattle.brc_model.specs.declared.duty.Duty.TheVariants.{RetainLoad, RetainStore, RetainAdd, ReleaseLoad, ReleaseStore, SharedLoad, SharedExchange, MergeLoad, MergeExchange, TakeFound, SettleCell, TakeField, CloseResource, CellLoad, CellSwap, LendField, ReturnField}
use Rattle.brc_model.specs.Duties.{address_of}
use Rattle.brc_model.specs.declared.actor.Actor.{Actor}
use Rattle.brc_model.specs.Machine.{used_by, is_running}
use Rattle.brc_model.specs.World.{World}
use Rattle.brc_model.specs.Actions.{StepActor, Does}
use Rattle.brc_model.specs.Dispatch.{action_of}
use Rattle.brc_model.specs.declared.layout.Layout.{Layout}
use Rattle.brc_model.specs.Layout.{row_count, block_of, mark_words_of}

-- The address has a word in a world with this layout.
abbrev pub IsThere : Layout → Address → Type 0
IsThere layout (Local x) = x < row_count layout
IsThere layout (Shared x) = x < row_count layout
IsThere layout (Gate x) = x < row_count layout
IsThere layout (KindOf x) = x < row_count layout
IsThere layout (Marks t w) = (t < 1 + layout.workers) × (w < mark_words_of layout t)
IsThere layout (Cell x i) = (x < row_count layout) × (i < layout.cells)
IsThere layout (Field x) = x < row_count layout
IsThere layout (Resource x) = x < row_count layout
IsThere layout (ThreadWord t) = t < 1 + layout.workers

-- a shared word of a header: its count is from -2^40 to 2^40 - 1, and its state isn't the unused one
pub record IsShared (word : ℕ) : Type 0 where
  pub low : biased_part word < 2 * bias
  pub state : phase_part word ≢ 1

-- the value that the duty finds suits what the duty does with it, in a world of n rows
abbrev pub Suits : ℕ → Bool → ℕ → Duty → ℕ → Type 0
Suits t running n (RetainStore x h w) found = local_part w < most_local
Suits t running n (RetainAdd x h) found = IsShared found × (biased_part found + 1 < 2 * bias)
Suits t running n (ReleaseLoad x h) found = running ≡ true → owner_part found ≡ t + 1 → 1 ≤ local_part found
Suits t running n (ReleaseStore x w) found = 1 ≤ local_part w
Suits t running n (SharedLoad x r) found = IsShared found × (1 ≤ biased_part found)
Suits t running n (SharedExchange x r w) found = found ≡ w → IsShared w × (1 ≤ biased_part w)
Suits t running n (MergeLoad x c r) found = (c < half) × IsShared found × (biased_part found + c < 2 * bias)
Suits t running n (MergeExchange x c w r) found =
    (c < half) × (found ≡ w → IsShared w × (biased_part w + c < 2 * bias))
Suits t running n (TakeFound w marks) found = (0 < marks) × (marks_of_word * w + lowest_mark marks < n)
Suits t running n (SettleCell x i k) found = found ≤ n
Suits t running n (CellLoad x i) found = found ≤ n
Suits t running n (CellSwap x i y h) found = (y < n) × (found ≤ n)
Suits t running n (TakeField x) found = found ≡ FULL
Suits t running n (CloseResource x) found = found ≡ 0
Suits t running n (LendField x) found = found ≡ FULL
Suits t running n (ReturnField x) found = found ≡ EMPTY
Suits t running n _ found = Unit {0}

-- A row's local word names no owner, or the thread of the row's block.
abbrev pub OwnerFits : Layout → ℕ → ℕ → Type 0
OwnerFits layout x word = (owner_part word ≡ 0) ⊎ (owner_part word ≡ block_of layout x + 1)

-- what a load of a local word finds of the owner
abbrev pub FindsOwner : Layout → Duty → ℕ → Type 0
FindsOwner layout (RetainLoad x h) found = OwnerFits layout x found
FindsOwner layout (ReleaseLoad x h) found = OwnerFits layout x found
FindsOwner layout _ found = Unit {0}

-- the thread's step of the duty is within all bounds
pub record IsWithin (w : World) (t : ℕ) (a : Actor) (d : Duty) : Type 0 where
  pub there : IsThere w.layout (address_of w.layout t a.head d)
  pub head : a.head ≤ row_count w.layout
  pub used : used_by a.used d ≤ row_count w.layout
  pub suits : Suits t (is_running a.status) (row_count w.layout) d (w.memory (address_of w.layout t a.head d))

-- each duty that the thread may do at its next event is within all bounds
abbrev pub StepsWithin : World → ℕ → StepActor → Type 0
StepsWithin w t a =
    (choice : Choice) (d : Duty) (rest : List Duty) (place : ℕ → Place)
    → action_of w.functions w.states w.layout t a choice ≡ Does d rest place → IsWithin w t a.actor d
