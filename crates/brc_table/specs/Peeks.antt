-- A hand looks what a thread's word says, without a duty: it only learns what it finds.
use Rattle.std.specs.Prelude.{◌≡◌, ℕ, ◌<◌, ◌≤◌, false, [], ◌∷◌, ◌++◌}
use Rattle.atomic_table.specs.Table.{Me}
use Rattle.brc_model.specs.declared.address.Address.TheVariants.{ThreadWord}
use Rattle.brc_table.specs.declared.view.View.{View}
use Rattle.brc_table.specs.Views.{RowsAreThere, is_given, IsJoined}
use Rattle.brc_table.specs.KnownWords.{has_started}

-- the hand after it has found this word of the thread
abbrev pub peeked : View → ℕ → ℕ → View
peeked v thread word = record v {
  trace = v.trace ++ record { address = ThreadWord thread; found = word; left = word } ∷ [];
}

-- The thread is a worker that main never started.
pub record NeverStarted (main : View) (thread : ℕ) : Type 0 where
  pub some_worker : 0 < thread
  pub not_given : is_given thread main ≡ false
  pub not_started : has_started thread main ≡ false

-- What the look makes of its hand. If it is main's, a word of 0 says that main never started the thread. If the
-- hand has joined the thread's hand, it finds that the thread is gone.
abbrev pub Peeks : {S : Type 0} → ℕ → Me S View → ℕ → Me S View → Type 0
Peeks thread me found after =
    (after.0 ≡ peeked me.0 thread found) × (after.1 ≡ me.1) × (found ≤ 3)
    × (me.0.thread ≡ 0 → found ≡ 0 → NeverStarted me.0 thread) × (IsJoined thread me.0 → found ≡ 3)
    × RowsAreThere after.0
