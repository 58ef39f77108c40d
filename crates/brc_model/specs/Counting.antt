-- The counting machine as running threads use it: the whole invariant, and the changes of a thread's work and account
-- between two duties.
use Rattle.std.specs.Prelude.{◌≡◌, ◌⊎◌, ℕ, ◌+◌, ◌-◌, ◌<◌, ◌≤◌, cond, ◌&&◌, ◌==◌, List, [], ◌∷◌, Some, slice_get, count_by, replicate}
use Rattle.brc_model.specs.declared.duty.Holding.{Holding}
use Rattle.brc_model.specs.declared.duty.Holding.TheVariants.{AsCaller, InFlight}
use Rattle.brc_model.specs.declared.duty.Duty.{Duty}
use Rattle.brc_model.specs.declared.actor.Status.TheVariants.{Running}
use Rattle.brc_model.specs.declared.address.Address.TheVariants.{Cell}
use Rattle.brc_model.specs.declared.layout.Layout.{Layout}
use Rattle.brc_model.specs.Layout.{block_size, root_row}
use Rattle.brc_model.specs.Limits.{root_cells, cell_limit, worker_limit, row_limit}
use Rattle.brc_model.specs.AbstractState.{same_holding}
use Rattle.brc_model.specs.References.{one_if}
use Rattle.brc_model.specs.Accounts.{Account, Accounts}
use Rattle.brc_model.specs.declared.actor.Actor.{Actor}
use Rattle.brc_model.specs.Machine.{Machine, idle_actor}
use Rattle.brc_model.specs.FirstRows.{first_life}
use Rattle.brc_model.specs.StepMachine.{rooted_memory, first_abstract}
use Rattle.brc_model.specs.OpenWork.{is_about, about_of}
use Rattle.brc_model.specs.Invariant.{Invariant}
use Rattle.brc_model.specs.Ranges.{Ranges}

-- No account has a reference in flight, as inside no instruction.
abbrev pub HasNothingInFlight : Accounts → Type 0
HasNothingInFlight p = (t object : ℕ) → p t InFlight object ≡ 0

-- What holds between any two steps of running threads with these accounts: the invariant, and the rows of all duties
-- are rows of the machine, and no account has a reference in flight.
pub record Counts (p : Accounts) (n : ℕ) (m : Machine) : Type 0 where
  pub kept : Invariant p n m
  pub ranges : Ranges n m
  pub no_flight : HasNothingInFlight p

-- ---- accounts

-- the accounts, with the account of one thread replaced
abbrev pub with_account : Accounts → ℕ → Account → Accounts
with_account p t account u = cond (u == t) account (p u)

-- the account with one reference more
abbrev pub with_one_more : Account → Holding → ℕ → Account
with_one_more account h x k object = account k object + one_if (same_holding h k && (x == object))

-- the account with one reference less
abbrev pub with_one_less : Account → Holding → ℕ → Account
with_one_less account h x k object = account k object - one_if (same_holding h k && (x == object))

-- ---- work

-- the thread with another agenda and other duties put aside
abbrev pub working : Actor → List Duty → List Duty → Actor
working a agenda aside =
    record {
      status = a.status;
      agenda = agenda;
      aside = aside;
      head = a.head;
      used = a.used;
      locked = a.locked;
      lent = a.lent;
    }

-- The thread runs, and no duty comes next: all its open work is put aside.
pub record IsReady (m : Machine) (t : ℕ) (a : Actor) : Type 0 where
  pub found : slice_get m.actors t ≡ Some a
  pub running : a.status ≡ Running
  pub agenda : a.agenda ≡ []

-- None of the thread's open work is about the row.
abbrev pub HasNoneAbout : Actor → ℕ → Type 0
HasNoneAbout a x = one_if (about_of x a.agenda) + count_by (is_about x) a.aside ≡ 0

-- The thread may give up a reference to the object: if it has locked the object, it holds another one.
abbrev pub MayGiveUp : Account → Actor → ℕ → Type 0
MayGiveUp account a x = a.locked ≡ Some x → 2 ≤ account AsCaller x

-- A cell of the list that the thread has locked has the object, so the thread may borrow it. (Python/C API manual, List
-- Objects: `PyList_GetItem` returns a borrowed reference.)
pub record IsLockedItem (m : Machine) (a : Actor) (x : ℕ) : Type 0 where
  pub list : ℕ
  pub cell : ℕ
  pub locked : a.locked ≡ Some list
  pub word : m.memory (Cell list cell) ≡ x + 1

-- The thread holds a reference to the object as the caller, or may borrow it from the list that it has locked. Either
-- backs the object for a duty that begins now.
abbrev pub IsAtHand : Account → Machine → Actor → ℕ → Type 0
IsAtHand account m a x = (1 ≤ account AsCaller x) ⊎ IsLockedItem m a x

-- ---- the first machine

-- a layout of running threads
pub record IsPlainLayout (layout : Layout) : Type 0 where
  pub some_workers : 0 < layout.workers
  pub few_workers : layout.workers ≤ worker_limit
  pub some_rows : 0 < layout.rows
  pub few_rows : layout.rows ≤ row_limit
  pub some_cells : root_cells ≤ layout.cells
  pub few_cells : layout.cells ≤ cell_limit

-- Main holds the root, no worker holds anything, and each cell of an immortal list holds its number. All threads count
-- as running, whether they are started or not.
abbrev pub hands_machine : List (List ℕ) → Layout → Machine
hands_machine lines layout = record {
  layout = layout;
  memory = rooted_memory lines layout 1;
  actors = idle_actor (block_size layout 0) ∷ replicate layout.workers (idle_actor 0);
  abstract = first_abstract lines layout 1;
  life = first_life layout;
}

abbrev pub hands_accounts : Accounts
hands_accounts t k object = one_if ((t == 0) && (same_holding AsCaller k && (root_row == object)))
