-- What a hand does that looks through its own queue, and what it does as it leaves.
use Rattle.std.specs.Prelude.{◌≡◌, ℕ, ◌+◌, ◌-◌, ◌*◌, ◌/◌, ◌<◌, List, [], ◌∷◌, ◌++◌}
use Rattle.brc_host.specs.HostCalls.{HostCall}
use Rattle.brc_word.specs.Words.{marks_of_word, unmarked_word, lowest_mark, first_marks}
use Rattle.brc_model.specs.declared.duty.Duty.{Duty}
use Rattle.brc_model.specs.declared.duty.Duty.TheVariants.{Scan, TakeFound, Finish}
use Rattle.brc_model.specs.Layout.{root_row}
use Rattle.brc_model.specs.Duties.{found_row, ready}
use Rattle.brc_table.specs.declared.view.View.{View}
use Rattle.brc_table.specs.Views.{view_after, claiming, loading_marks, leaving}
use Rattle.brc_heap.specs.Calls.{released_locally}
use Rattle.brc_free.specs.Works.{HasWorked, to_settle}

-- the number of mark words that have marks of the first rows of a block
abbrev pub words_used : ℕ → ℕ
words_used rows = (rows + (marks_of_word - 1)) / marks_of_word

-- ---- a running hand

-- The hand has taken the mark of the row. Where the mark was set, it has merged the object, given up the reference that
-- was handed over with it, and settled, with these closes of the host.
pub record Claims (x : ℕ) (closes : List HostCall) (v w : View) : Type 0 where
  pub found : ℕ
  pub follows : HasWorked (view_after (claiming v x) found) closes [] w
  pub settled : w.actor.head ≡ 0

-- Of the marks that the hand has found in its mark word, it has claimed all but those that are left, the lowest first,
-- with these closes of the host. A claim may find that the mark is taken by then.
pub data ClaimsFound (word marks : ℕ) (v : View) : ℕ → List HostCall → View → Type 0 where
  NoMark : ClaimsFound word marks v marks [] v
  NextMark : (left : ℕ) (closes more : List HostCall) (u w : View) → ClaimsFound word marks v left closes u → 0 < left
      → Claims (found_row u.layout u.thread word left) more u w
      → ClaimsFound word marks v (unmarked_word left (lowest_mark left)) (closes ++ more) w

-- The hand has loaded its mark word, and claimed the marks of used rows that it has found there.
pub record LooksAt (word : ℕ) (closes : List HostCall) (v w : View) : Type 0 where
  pub found : ℕ
  pub claims : ClaimsFound word (first_marks found (v.actor.used - marks_of_word * word))
      (view_after (loading_marks v word) found) 0 closes w

-- The hand has looked at the first mark words of its block, by rising number, with these closes of the host.
pub data HasScanned (v : View) : ℕ → List HostCall → View → Type 0 where
  NoWord : HasScanned v 0 [] v
  NextWord : (word : ℕ) (closes more : List HostCall) (u w : View) → HasScanned v word closes u → LooksAt word more u w
      → HasScanned v (word + 1) (closes ++ more) w

-- ---- a hand that leaves

-- To scan the marks of all used rows from this mark word on, and then to say that the thread is gone.
abbrev pub scans_from : ℕ → ℕ → List Duty
scans_from used word = Scan word (used - marks_of_word * word) ∷ Finish ∷ []

-- The same is what comes next, and nothing has been scanned yet.
abbrev pub ScansNext : View → Type 0
ScansNext v = v.actor.agenda ≡ ready v.actor.head (Scan 0 v.actor.used ∷ Finish ∷ [])

-- To take these marks that were found in a mark word is what comes next, and then to scan the words behind it.
abbrev pub takes_from : ℕ → ℕ → ℕ → List Duty
takes_from used word marks = TakeFound word marks ∷ scans_from used (word + 1)

-- The hand has left: it has given up the reference to the root; then settled, in no step if its chain was empty; said
-- that it leaves; scanned the marks of its rows, each mark that was set followed by the merge, the release and the
-- settling; and said that it is gone. By this it has made these closes of the host.
pub record HasLeft (closes : List HostCall) (v w : View) : Type 0 where
  pub word : ℕ
  pub released : View
  pub settled : View
  pub scanned : View
  pub first : List HostCall
  pub later : List HostCall
  pub closes_are : closes ≡ first ++ later
  pub releases : HasWorked (released_locally v root_row word) [] [] released
  pub settles : HasWorked (to_settle [] released) first [] settled
  pub empty : settled.actor.head ≡ 0
  pub scans : HasWorked (view_after (leaving settled) 1) later (Finish ∷ []) scanned
  pub gone : w ≡ view_after scanned 2
