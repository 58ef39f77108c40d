-- What main has to do with workers on threads of their own.
use Rattle.std.specs.Prelude.{◌≡◌, ℕ, ◌<◌, ◌≤◌, true, [], length}
use Rattle.brc_model.specs.Layout.{root_row}
use Rattle.brc_table.specs.declared.view.View.{View}
use Rattle.brc_table.specs.declared.view.Joined.{Joined}
use Rattle.brc_table.specs.Hands.{IsRunning, HasNoWork, MayWait, most_references}
use Rattle.brc_table.specs.Views.{holds, open_work, with_work, is_given, HasJoined, IsJoined}
use Rattle.brc_heap.specs.Steps.{Keeps}

-- Main may give out hands: it runs, holds the root and has nothing to do about it, and has given out no hand before.
pub record MayFanOut (v : View) : Type 0 where
  pub is_main : v.thread ≡ 0
  pub running : IsRunning v
  pub held : 1 ≤ holds v root_row
  pub idle : HasNoWork v root_row
  pub few : length v.references < most_references
  pub none_given : v.given ≡ []

-- The hand has joined others more, and is else as it was.
pub record JoinsMore (v u : View) : Type 0 where
  pub same : u ≡ record v { joined = u.joined }
  pub still : (hand : Joined) → HasJoined v hand → HasJoined u hand

-- Each hand that main has given out it has joined: the thread is gone.
abbrev pub HasJoinedAll : View → Type 0
HasJoinedAll v = (t : ℕ) → is_given t v ≡ true → IsJoined t v

-- Main has given out hands. It holds what it held before, and its work and its chain are as they were.
pub record KeepsMain (v u : View) : Type 0 where
  pub keeps : Keeps (record (with_work v u.actor.agenda u.actor.aside) { given = u.given }) u
  pub head : u.actor.head ≡ v.actor.head
  pub waits : MayWait u.actor.agenda
  pub work : open_work u ≡ open_work v
