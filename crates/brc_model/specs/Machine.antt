-- The counting machine: the memory, with a word at each address; the threads, each with an agenda; and beside them the
-- abstract state and the life of each row. A step is a thread's first duty. The machine knows no code.
use Rattle.std.specs.Prelude.{ℕ, ◌+◌, Bool, true, false, ◌&&◌, ◌==◌, nat_lt, if◌then◌else◌, List, [], ◌∷◌, ◌++◌, Option, None, Some, slice_set}
use Rattle.brc_word.specs.declared.values.TheConstants.{FULL}
use Rattle.brc_model.specs.declared.actor.Actor.{Actor}
use Rattle.brc_model.specs.declared.actor.Status.{Status}
use Rattle.brc_model.specs.declared.actor.Status.TheVariants.{Running, Leaving, Gone}
use Rattle.brc_model.specs.declared.duty.Duty.{Duty}
use Rattle.brc_model.specs.declared.duty.Duty.TheVariants.{Die, SettleEnd, Leave, Finish, BirthLocal, LockGate, UnlockGate, LendField, ReturnField}
use Rattle.brc_model.specs.declared.address.Address.{Address}
use Rattle.brc_model.specs.declared.layout.Layout.{Layout}
use Rattle.brc_model.specs.declared.address.Address.TheVariants.{Local, Shared, Gate, KindOf, Marks, Cell, Field, Resource, ThreadWord}
use Rattle.brc_model.specs.AbstractState.{AbstractState, Move, moved}
use Rattle.brc_word.specs.Words.{free_word, mark_at}
use Rattle.brc_model.specs.Duties.{mark_place, address_of, new_word, continuation, new_head, ready}
use Rattle.brc_model.specs.Layout.{block_size, mark_bit}
use Rattle.brc_model.specs.Moves.{reference_effects}

-- ---- threads

-- a running thread with nothing to do, which has used `used` rows
abbrev pub idle_actor : ℕ → Actor
idle_actor used =
    record { status = Running; agenda = []; aside = []; head = 0; used = used; locked = None; lent = None }

abbrev pub is_running : Status → Bool
is_running Running = true
is_running Leaving = false
is_running Gone = false

abbrev pub status_by : Status → Duty → Status
status_by status (Leave i n) = Leaving
status_by status Finish = Gone
status_by status _ = status

-- a birth uses the next row of the thread's block
abbrev pub used_by : ℕ → Duty → ℕ
used_by used (BirthLocal x h) = used + 1
used_by used _ = used

-- Says whether the duty locks or unlocks a list.
abbrev pub is_locking : Duty → Bool
is_locking (LockGate x) = true
is_locking (UnlockGate x) = true
is_locking _ = false

-- A thread that finds the gate free has locked the list, until it unlocks it.
abbrev pub locked_by : Option ℕ → Duty → ℕ → Option ℕ
locked_by locked (LockGate x) found = if found == free_word then Some x else locked
locked_by locked (UnlockGate x) found = None
locked_by locked _ found = locked

-- Says whether the duty takes a resource for a call of the host, or puts it back.
abbrev pub is_lending : Duty → Bool
is_lending (LendField x) = true
is_lending (ReturnField x) = true
is_lending _ = false

-- A thread that finds the resource in its field has it lent, until it puts it back.
abbrev pub lent_by : Option ℕ → Duty → ℕ → Option ℕ
lent_by lent (LendField x) found = if found == FULL then Some x else lent
lent_by lent (ReturnField x) found = None
lent_by lent _ found = lent

-- ---- the rows of a thread

-- Whether the thread has a row left for its next birth.
abbrev pub has_room : Layout → ℕ → ℕ → Bool
has_room layout t used = nat_lt used (block_size layout t)

-- ---- the machine

pub data Life : Type 0 where
  Unborn : Life
  Live : Life
  Dying : ℕ → Life
  Closed : Life

pub record Machine : Type 0 where
  pub layout : Layout
  pub memory : Address → ℕ
  pub actors : List Actor
  pub abstract : AbstractState
  pub life : ℕ → Life

abbrev pub same_address : Address → Address → Bool
same_address (Local x) (Local y) = x == y
same_address (Shared x) (Shared y) = x == y
same_address (Gate x) (Gate y) = x == y
same_address (KindOf x) (KindOf y) = x == y
same_address (Marks t w) (Marks u v) = (t == u) && (w == v)
same_address (Cell x i) (Cell y j) = (x == y) && (i == j)
same_address (Field x) (Field y) = x == y
same_address (Resource x) (Resource y) = x == y
same_address (ThreadWord t) (ThreadWord u) = t == u
same_address _ _ = false

-- the memory with one word changed
abbrev pub written : (Address → ℕ) → Address → ℕ → Address → ℕ
written memory a word b = if same_address a b then word else memory b

-- the row's mark: 1 if it is set, else 0
abbrev pub mark_of : Layout → (Address → ℕ) → ℕ → ℕ
mark_of layout memory x = mark_at (memory (mark_place layout x)) (mark_bit layout x)

-- ---- life

-- the row whose object dies by the step, if any: the first duty that follows says so
abbrev pub dies_next : List Duty → Option ℕ
dies_next (Die x ∷ rest) = Some x
dies_next _ = None

abbrev pub with_life : (ℕ → Life) → Option ℕ → Life → ℕ → Life
with_life life None state y = life y
with_life life (Some x) state y = if x == y then state else life y

abbrev pub ended_row : Duty → Option ℕ
ended_row (SettleEnd x) = Some x
ended_row _ = None

abbrev pub born_row : Duty → Option ℕ
born_row (BirthLocal x h) = Some x
born_row _ = None

abbrev pub life_by : (ℕ → Life) → ℕ → Duty → List Duty → ℕ → Life
life_by life t d next =
    with_life (with_life (with_life life (dies_next next) (Dying t)) (ended_row d) Closed) (born_row d) Live

-- ---- one step

-- the thread after its first duty
abbrev pub actor_by : Layout → ℕ → Actor → Duty → List Duty → ℕ → Actor
actor_by layout t a d rest found = record {
  status = status_by a.status d;
  agenda = ready (new_head a.head d found) (continuation layout t (is_running a.status) a.head d found ++ rest);
  aside = a.aside;
  head = new_head a.head d found;
  used = used_by a.used d;
  locked = locked_by a.locked d found;
  lent = lent_by a.lent d found;
}

-- Returns the machine after the duty of thread t, which is one step on one word. `rest` are the duties after it.
abbrev pub machine_by_duty : Machine → ℕ → Actor → Duty → List Duty → Machine
machine_by_duty m t a d rest =
    let address = address_of m.layout t a.head d in
    let found = m.memory address in
    record {
      layout = m.layout;
      memory = written m.memory address (new_word m.layout t a.head d found);
      actors = slice_set m.actors t (actor_by m.layout t a d rest found);
      abstract = moved m.abstract (reference_effects m.memory t d found);
      life = life_by m.life t d (continuation m.layout t (is_running a.status) a.head d found);
    }

abbrev pub with_actor : Machine → ℕ → Actor → Machine
with_actor m t a =
    record {
      layout = m.layout;
      memory = m.memory;
      actors = slice_set m.actors t a;
      abstract = m.abstract;
      life = m.life;
    }

-- the machine after moves of references
abbrev pub with_moves : Machine → List Move → Machine
with_moves m moves =
    record {
      layout = m.layout;
      memory = m.memory;
      actors = m.actors;
      abstract = moved m.abstract moves;
      life = m.life;
    }
