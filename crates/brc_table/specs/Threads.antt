-- The words of threads: 0 says that the thread isn't started, 1 that it runs, 2 that it is leaving, 3 that it is gone.
use Rattle.std.specs.Prelude.{◌≡◌, ℕ, ◌<◌, ◌≤◌, true, false, List, slice_index}
use mathlib.Core.Option.{some}
use lib.ListN.{get_elem?}
use Rattle.brc_model.specs.declared.layout.Layout.{Layout}
use Rattle.brc_table.specs.declared.view.View.{View}
use Rattle.brc_table.specs.Views.{is_given}
use Rattle.brc_table.specs.KnownWords.{has_started, started_word, knows_gone}

abbrev pub thread_word : List ℕ → ℕ → ℕ
thread_word words t = slice_index words t

-- A thread that has a hand is started. Main starts a worker before it gives out the worker's hand, and a thread that is
-- gone stays gone.
pub record ThreadsStand (layout : Layout) (words : List ℕ) (views : List View) : Type 0 where
  pub started : (id : ℕ) (v : View) → get_elem? views id ≡ some v → 0 < thread_word words v.thread
  -- main starts a worker before it gives out the worker's hand
  pub given_started : (id t : ℕ) (v : View) → get_elem? views id ≡ some v → is_given t v ≡ true
      → has_started t v ≡ true
  -- what hands have seen of threads is so
  pub started_seen : (id t : ℕ) (v : View) → get_elem? views id ≡ some v → t ≤ layout.workers
      → has_started t v ≡ true → 0 < thread_word words t
  pub gone_seen : (id t : ℕ) (v : View) → get_elem? views id ≡ some v → t ≤ layout.workers
      → knows_gone t v ≡ true → thread_word words t ≡ 3
  -- a worker whose hand isn't given out is started by main, or not at all
  pub unstarted : (id t : ℕ) (main : View) → get_elem? views id ≡ some main → main.thread ≡ 0 → 0 < t
      → t ≤ layout.workers → is_given t main ≡ false → thread_word words t ≡ started_word t main
