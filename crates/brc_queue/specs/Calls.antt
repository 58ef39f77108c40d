-- What each call on a queue does to its hand's view, from the words that its steps find.
use Rattle.std.specs.Prelude.{ℕ}
use Rattle.brc_table.specs.declared.view.View.{View}
use Rattle.brc_table.specs.Views.{view_after, turned}
use Rattle.brc_heap.specs.Marks.{looked_after}

-- the hand has set the object's mark, in this mark word
abbrev pub marked : View → ℕ → ℕ → View
marked v x found = view_after (turned v x) found

-- the hand has loaded the word of the thread of the object's block, and taken the mark back unless that thread runs
abbrev pub looked : View → ℕ → ℕ → ℕ → View
looked v x said found = looked_after (turned v x) said found
