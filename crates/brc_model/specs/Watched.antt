-- Which thread will look at a mark that is set. (PEP 703, Biased Reference Counting, the queue and the merge: the owner
-- merges an object that another thread has queued. If the owner is exiting, its exit or the thread that queued the
-- object does so.)
use Rattle.std.specs.Prelude.{◌≡◌, ◌≢◌, ℕ, ◌+◌, ◌*◌, ◌/◌, Bool, true, false, ◌&&◌, ◌||◌, ◌==◌, nat_le, nat_lt, slice_get, Some}
use Rattle.brc_word.specs.declared.values.TheConstants.{UNSET}
use Rattle.brc_word.specs.Words.{marks_of_word}
use Rattle.std.specs.List.{list_any}
use Rattle.brc_model.specs.declared.duty.Duty.{Duty}
use Rattle.brc_model.specs.declared.duty.Duty.TheVariants.{Look, TakeMark, Scan, TakeFound}
use Rattle.brc_model.specs.declared.actor.Status.TheVariants.{Leaving}
use Rattle.brc_model.specs.declared.actor.Actor.{Actor}
use Rattle.brc_model.specs.Machine.{Machine, mark_of}
use Rattle.brc_model.specs.StepMachine.{StepMachine, counting}
use Rattle.brc_model.specs.OpenWork.{is_found}
use Rattle.brc_model.specs.Progress.{Runs}
use Rattle.brc_model.specs.Layout.{block_of, index_of}

-- a duty to look whether the row's owner still runs, or to take the mark back because it doesn't
abbrev pub looks_at : ℕ → Duty → Bool
looks_at x (Look y) = y == x
looks_at x (TakeMark y) = y == x
looks_at x _ = false

-- a duty to load the mark word that has the mark of the thread's row with the index, or to take that mark, which was
-- found in its word
abbrev pub scans_over : ℕ → Duty → Bool
scans_over i (Scan w n) = nat_le w (i / marks_of_word) && nat_lt i (marks_of_word * w + n)
scans_over i (TakeFound w marks) = is_found i w marks
scans_over i _ = false

-- the thread of the row's block runs; or it is exiting, and hasn't loaded the word of the row's mark yet, or has found
-- the mark there and hasn't taken it yet; or some thread will look
pub data IsWatched (m : Machine) (x : ℕ) : Type 0 where
  ByRunning : Runs m (block_of m.layout x) → IsWatched m x
  ByExit : (a : Actor) → slice_get m.actors (block_of m.layout x) ≡ Some a → a.status ≡ Leaving
      → list_any (scans_over (index_of m.layout (block_of m.layout x) x)) a.agenda ≡ true → IsWatched m x
  ByLook : (t : ℕ) (a : Actor) → slice_get m.actors t ≡ Some a
      → (list_any (looks_at x) a.agenda || list_any (looks_at x) a.aside) ≡ true → IsWatched m x

-- each set mark is watched
abbrev pub MarksWatched : StepMachine → Type 0
MarksWatched m = (x : ℕ) → mark_of m.layout m.memory x ≢ UNSET → IsWatched (counting m) x
