-- The table's rule: between any two steps, words and views are those of a counting machine that has the invariant.
use Rattle.std.specs.Prelude.{◌≡◌, ℕ, ◌+◌, ◌<◌, true, ◌==◌, if◌then◌else◌, List, length, None, Some, slice_get, slice_index, All}
use mathlib.Core.Option.{some}
use lib.ListN.{get_elem?}
use Rattle.brc_model.specs.declared.duty.Holding.TheVariants.{ByVariable, AsCaller}
use Rattle.brc_model.specs.declared.actor.Status.TheVariants.{Gone}
use Rattle.brc_model.specs.declared.address.Address.{Address}
use Rattle.brc_model.specs.declared.address.Address.TheVariants.{KindOf, Cell, ThreadWord}
use Rattle.brc_model.specs.Layout.{IsCounted}
use Rattle.brc_model.specs.FirstRows.{HasLines, first_kind_word}
use Rattle.brc_model.specs.declared.actor.Actor.{Actor}
use Rattle.brc_model.specs.Machine.{Machine, idle_actor}
use Rattle.brc_model.specs.Accounts.{Accounts, HoldsNone}
use Rattle.brc_model.specs.Knowledge.{GuardsCells}
use Rattle.brc_model.specs.Counting.{Counts, IsPlainLayout}
use Rattle.brc_table.specs.Plan.{Plan}
use Rattle.brc_table.specs.declared.view.View.{View}
use Rattle.brc_table.specs.declared.view.Joined.{Joined}
use Rattle.brc_table.specs.Places.{place, HasWord, word_count}
use Rattle.brc_table.specs.Views.{holds, is_given}
use Rattle.brc_table.specs.KnownWords.{knows_kind, known_cell}
use Rattle.brc_table.specs.Threads.{ThreadsStand}

-- what a thread word says of the thread: one that isn't started yet counts as running
abbrev pub thread_reading : ℕ → ℕ
thread_reading word = if word == 0 then 1 else word

-- what a word says at its address
abbrev pub reading : Address → ℕ → ℕ
reading (ThreadWord t) word = thread_reading word
reading address word = word

-- No other hand changes the list's cells: the hand has locked the list, or has chained it to finalise it.
abbrev pub Guards : Machine → View → ℕ → Type 0
Guards m v x = GuardsCells m v.thread v.actor x

-- The joined hand's thread is gone, and has used this number of rows.
pub record IsGone (actors : List Actor) (hand : Joined) : Type 0 where
  pub actor : Actor
  pub found : slice_get actors hand.thread ≡ Some actor
  pub gone : actor.status ≡ Gone
  pub used : actor.used ≡ hand.used

-- The view is that of the hand with this number.
abbrev pub IsHand : List View → ℕ → View → Type 0
IsHand views id v = get_elem? views id ≡ some v

-- There is a counting machine with the invariant whose words, threads and accounts are those of the table.
pub record Stands (plan : Plan) (words : List ℕ) (views : List View) : Type 0 where
  pub accounts : Accounts
  pub machine : Machine
  pub counts : Counts accounts (1 + machine.layout.workers) machine
  pub layout_is : machine.layout ≡ plan.layout
  pub plain : IsPlainLayout machine.layout
  pub lines : HasLines plan.lines plan.layout
  pub length_is : length words ≡ word_count machine.layout
  pub reads : (a : Address) → HasWord machine.layout a
      → machine.memory a ≡ reading a (slice_index words (place machine.layout a))
  -- each view is its thread's
  pub same_actor : (id : ℕ) (v : View) → IsHand views id v
      → slice_get machine.actors v.thread ≡ Some v.actor
  -- a hand lends no resource by a duty: it takes the resource out of a field that nobody else can see
  pub lends_none : (id : ℕ) (v : View) → IsHand views id v → v.actor.lent ≡ None
  pub same_layout : (id : ℕ) (v : View) → IsHand views id v → v.layout ≡ machine.layout
  -- the references to counted objects are those that the view lists
  pub holding : (id : ℕ) (v : View) (x : ℕ) → IsHand views id v → IsCounted machine.layout x
      → accounts v.thread AsCaller x ≡ holds v x
  -- the kind word of a row that was there from the start is the row's first one
  pub first_kinds : (x : ℕ) → 0 < first_kind_word plan.lines plan.layout x
      → machine.memory (KindOf x) ≡ first_kind_word plan.lines plan.layout x
  -- a kind word that a hand has seen is still there
  pub kinds_seen : (id x word : ℕ) (v : View) → IsHand views id v → 0 < word
      → knows_kind x word v ≡ true → machine.memory (KindOf x) ≡ word
  -- while a hand guards a list's cells, a cell has what the hand last saw or stored there
  pub cells_seen : (id x i word : ℕ) (v : View) → IsHand views id v → Guards machine v x
      → known_cell x i v ≡ Some word → machine.memory (Cell x i) ≡ word
  -- no hand holds a reference by a variable
  pub no_variables : (t depth i x : ℕ) → accounts t (ByVariable depth i) x ≡ 0
  -- no thread has two hands
  pub one_hand : (id other : ℕ) (v w : View) → IsHand views id v → IsHand views other w
      → v.thread ≡ w.thread → id ≡ other
  -- a thread without a hand has done nothing and holds nothing
  pub idle : (t : ℕ) → t < 1 + machine.layout.workers
      → ((id : ℕ) (v : View) → IsHand views id v → v.thread ≡ t → ⊥)
      → (slice_get machine.actors t ≡ Some (idle_actor 0)) × HoldsNone (accounts t)
  -- the other hands are those that main has given out
  pub given_out : (id other : ℕ) (main v : View) → IsHand views id main → main.thread ≡ 0
      → IsHand views other v → 0 < v.thread → is_given v.thread main ≡ true
  -- the hands that a hand has joined are gone
  pub joined : (id : ℕ) (v : View) → IsHand views id v → All (IsGone machine.actors) v.joined
  -- what the words of threads say
  pub threads : ThreadsStand machine.layout words views
