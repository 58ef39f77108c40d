-- A hand joins another one, whose thread is gone, and what is known of the hands that were joined.
use Rattle.std.specs.Prelude.{◌≡◌, ℕ, ◌<◌, ◌≤◌, List, ◌∷◌, All}
use mathlib.Core.Option.{some}
use lib.ListN.{get_elem?}
use Rattle.brc_model.specs.declared.layout.Layout.{Layout}
use Rattle.brc_model.specs.Layout.{row_count, block_of, block_size, index_of}
use Rattle.brc_table.specs.Plan.{Plan}
use Rattle.brc_table.specs.declared.view.View.{View}
use Rattle.brc_table.specs.declared.view.Joined.{Joined}
use Rattle.brc_table.specs.Rule.{Stands}
use Rattle.brc_table.specs.Threads.{thread_word}
use Rattle.brc_table.specs.Ending.{kind_at}

-- the hand after it has joined the other one: it keeps of it what is known of a thread that is gone
abbrev pub joining : View → View → View
joining v gone = record v { joined = record { thread = gone.thread; used = gone.actor.used } ∷ v.joined }

-- Of the rows of the joined hand's block, exactly those that its thread has used are born.
pub record RowsAreUsed (layout : Layout) (words : List ℕ) (hand : Joined) : Type 0 where
  pub few : hand.used ≤ block_size layout hand.thread
  pub born : (x : ℕ) → x < row_count layout → block_of layout x ≡ hand.thread
      → index_of layout hand.thread x < hand.used → 0 < kind_at words x
  pub unborn : (x : ℕ) → x < row_count layout → block_of layout x ≡ hand.thread
      → hand.used ≤ index_of layout hand.thread x → kind_at words x ≡ 0

-- The word of each thread whose hand was joined says that the thread is gone, and its rows are used.
pub record JoinedHandsAreGone : Type 0 where
  pub gone : (plan : Plan) (words : List ℕ) (views : List View) (id : ℕ) (v : View) → Stands plan words views
      → get_elem? views id ≡ some v → All (λ hand. thread_word words hand.thread ≡ 3) v.joined
  pub used : (plan : Plan) (words : List ℕ) (views : List View) (id : ℕ) (v : View) → Stands plan words views
      → get_elem? views id ≡ some v → All (RowsAreUsed plan.layout words) v.joined
