-- When main may start a worker, and when it may give out the worker's hand.
use Rattle.std.specs.Prelude.{◌≡◌, ℕ, ◌<◌, ◌≤◌, true, false, [], ◌∷◌, ◌++◌}
use Rattle.atomic_table.specs.Table.{Me}
use Rattle.brc_model.specs.declared.address.Address.TheVariants.{ThreadWord}
use Rattle.brc_model.specs.Layout.{root_row}
use Rattle.brc_table.specs.declared.view.View.{View}
use Rattle.brc_table.specs.Views.{RowsAreThere, holds, is_given}
use Rattle.brc_table.specs.KnownWords.{has_started, started_word}
use Rattle.brc_table.specs.Hands.{HasNoWork, KeepsLock}

-- Main has a reference to the root to hand over, another one if it has locked the root, and nothing to do about the
-- root. The thread is a worker of the table that main has started, and whose hand it hasn't given out yet.
pub record MayGive (main : View) (thread : ℕ) : Type 0 where
  pub is_main : main.thread ≡ 0
  pub holds_root : 1 ≤ holds main root_row
  pub no_work : HasNoWork main root_row
  pub keeps : KeepsLock main root_row
  pub some_worker : 0 < thread
  pub known_worker : thread ≤ main.layout.workers
  pub not_given : is_given thread main ≡ false
  pub started : has_started thread main ≡ true

-- ---- the start of a worker

-- The thread is a worker of the table whose hand main hasn't given out.
pub record MayStart (main : View) (thread : ℕ) : Type 0 where
  pub is_main : main.thread ≡ 0
  pub some_worker : 0 < thread
  pub known_worker : thread ≤ main.layout.workers
  pub not_given : is_given thread main ≡ false

-- main after it has stored that the thread runs. If it has done so before, it finds what it stored.
abbrev pub starting : View → ℕ → View
starting v thread = record v {
  trace = v.trace ++ record { address = ThreadWord thread; found = started_word thread v; left = 1 } ∷ [];
}

-- What the store makes of main's hand.
abbrev pub StoresRunning : {S : Type 0} → ℕ → Me S View → Me S View → Type 0
StoresRunning thread me after = (after.0 ≡ starting me.0 thread) × (after.1 ≡ me.1) × RowsAreThere after.0
