-- What one step of a thread asks of the words and the thread in the code, and what it leaves: the contracts that
-- several functions have.
use Rattle.std.specs.Prelude.{◌≡◌, ℕ, ◌+◌, ◌≤◌, length, Result, OnOk, OnErr, vec_len, vec_capacity}
use Rattle.brc_model.specs.declared.address.Address.{Address}
use Rattle.brc_model.specs.declared.duty.Duty.{Duty}
use Rattle.brc_model.specs.declared.layout.Layout.{Layout}
use Rattle.brc_model.specs.Actions.{StepActor}
use Rattle.brc_model.specs.Duties.{address_of, new_word}
use Rattle.brc_model.specs.Limits.{worker_limit, total_limit}
use Rattle.brc_model.specs.Machine.{is_running, used_by}
use Rattle.brc_model.specs.Within.{IsThere, Suits}
use Rattle.brc_machine.specs.declared.faults.Faults.{Faults}
use Rattle.brc_machine.specs.declared.no_memory.NoMemory.{NoMemory}
use Rattle.brc_machine.specs.Sights.{found_by}
use Rattle.brc_machine.specs.Storage.{Columns, word_in, AreOf, IsStored}
use Rattle.brc_world.specs.declared.did.Did.{Did}
use Rattle.brc_world.specs.declared.thread.Thread.{Thread}
use Rattle.brc_world.specs.Actors.{actor_of, actor_after}

-- the thread can do the duty on these words, and has room for what follows it
pub record HasDuty (blocks : Layout) (number : ℕ) (memory : Columns) (thread : Thread) (d : Duty) : Type 0 where
  pub columns : AreOf blocks memory
  pub small : length memory.local ≤ total_limit
  pub known : number ≤ worker_limit
  pub there : IsThere blocks (address_of blocks number thread.head d)
  pub suits : Suits number (is_running thread.status) (length memory.local) d
      (found_by blocks number (word_in memory) (actor_of thread) d)
  pub uses : used_by thread.used d ≤ length memory.local
  pub room : vec_len thread.agenda + 4 ≤ vec_capacity thread.agenda

-- the duty is done: its word is stored, and the thread is where it was in its calls
pub record DutyDone (blocks : Layout) (number : ℕ) (old new : Columns) (before after : Thread) (d : Duty) (value : ℕ)
    : Type 0 where
  pub word : IsStored old (address_of blocks number before.head d) (new_word blocks number before.head d
      (found_by blocks number (word_in old) (actor_of before) d)) new
  pub actor : actor_of after ≡ actor_after blocks number (word_in old) (actor_of before) d
  pub found : value ≡ found_by blocks number (word_in old) (actor_of before) d
  pub calls : after.left ≡ before.left
  pub point : after.at ≡ before.at
  pub variables : after.variables ≡ before.variables
  pub turns : after.turns ≡ before.turns
  pub outer : after.outer ≡ before.outer
  pub mode : after.mode ≡ before.mode

-- After a step the words, the thread and the counts of faults are these or, if memory was refused, the same as before.
-- There are as many words in any case.
pub record Turned (old new : Columns) (a b : StepActor) (f g : Faults) (r : Result Did NoMemory) (memory : Address → ℕ)
    (next : StepActor) (faults : Faults) : Type 0 where
  pub words : OnOk r (word_in new ≡ memory)
  pub actor : OnOk r (b ≡ next)
  pub faults_are : OnOk r (g ≡ faults)
  pub same_words : OnErr r (new ≡ old)
  pub same_actor : OnErr r (b ≡ a)
  pub same_faults : OnErr r (g ≡ f)
  pub rows : length new.local ≡ length old.local
  pub threads : length new.thread ≡ length old.thread
  pub cells : new.width ≡ old.width
