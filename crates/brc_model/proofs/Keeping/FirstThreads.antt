-- The rooted machine: the threads below a number hold the root, and no thread has done anything else. The first machine
-- of modules and that of hands are such machines. What holds in it of main and of each worker holds of each thread.
use Rattle.std.proofs.Common.{◌≡◌, ℕ, zero, suc, ◌+◌, ◌<◌, ◌≤◌, List, ◌∷◌, Some, refl, subst, arith}
use Rattle.std.specs.Prelude.{slice_get, replicate}
use Rattle.std.proofs.lemmas.List.Sums.{sum_by-cons}
use Rattle.brc_model.specs.declared.actor.Actor.{Actor}
use Rattle.brc_model.specs.declared.duty.Duty.{Duty}
use Rattle.brc_model.specs.declared.duty.Holding.{Holding}
use Rattle.brc_model.specs.declared.layout.Layout.{Layout}
use Rattle.brc_model.specs.Limits.{row_limit, worker_limit, cell_limit}
use Rattle.brc_model.specs.Layout.{block_size}
use Rattle.brc_model.specs.References.{held, reference_of}
use Rattle.brc_model.specs.Machine.{Machine, idle_actor}
use Rattle.brc_model.specs.FirstRows.{HasLines, first_life}
use Rattle.brc_model.specs.StepMachine.{callers_below, rooted_memory, first_abstract}
use Rattle.brc_model.specs.RowInvariant.{agenda_weight, weight}
use Rattle.brc_model.specs.Accounts.{Accounts}
use Rattle.brc_model.specs.Resources.{lends, lenders}
use Rattle.brc_model.proofs.Basics.Lists.{some_is}

-- ---- the machine

-- Main has used all its rows, and the workers none.
abbrev pub idle_actors : Layout → List Actor
idle_actors layout = idle_actor (block_size layout 0) ∷ replicate layout.workers (idle_actor 0)

-- the machine in which the threads below `callers` hold the root
abbrev pub rooted_machine : List (List ℕ) → Layout → ℕ → Machine
rooted_machine lines layout callers = record {
  layout = layout;
  memory = rooted_memory lines layout callers;
  actors = idle_actors layout;
  abstract = first_abstract lines layout callers;
  life = first_life layout;
}

-- The layout is small and has the rows of the lines, and main is among the threads that hold the root.
pub record IsRooted (lines : List (List ℕ)) (layout : Layout) (callers : ℕ) : Type 0 where
  pub some_callers : 0 < callers
  pub few_callers : callers ≤ 1 + layout.workers
  pub few_workers : layout.workers ≤ worker_limit
  pub some_rows : 0 < layout.rows
  pub few_rows : layout.rows ≤ row_limit
  pub few_cells : layout.cells ≤ cell_limit
  pub has_lines : HasLines lines layout

-- The accounts say what the bag has: the root of each thread below `callers`, and nothing else.
pub record AccountsHoldRoot (p : Accounts) (workers callers : ℕ) : Type 0 where
  pub each : (t : ℕ) → t ≤ workers → (k : Holding) (object : ℕ)
      → p t k object ≡ held (reference_of t k object) (callers_below callers)

-- ---- its threads

-- Each worker is idle.
worker_idle : (n t : ℕ) (a : Actor) → slice_get (replicate n (idle_actor 0)) t ≡ Some a → (t < n) × (idle_actor 0 ≡ a)
worker_idle zero t a is = absurd cc
worker_idle (suc n) zero a is = (omega arith, some_is (idle_actor 0) a is)
worker_idle (suc n) (suc t) a is = let later = worker_idle n t a is in (omega (arith, later.0), later.1)

-- What holds of main and of each worker holds of each thread.
pub each_idle : (P : ℕ → Actor → Type 0) (layout : Layout) → P 0 (idle_actor (block_size layout 0))
    → ((t : ℕ) → t < layout.workers → P (suc t) (idle_actor 0))
    → (t : ℕ) (a : Actor) → slice_get (idle_actors layout) t ≡ Some a → P t a
each_idle P layout main worker zero a is = subst (P 0) (some_is (idle_actor (block_size layout 0)) a is) main
each_idle P layout main worker (suc t) a is =
    let found = worker_idle layout.workers t a is in subst (P (suc t)) found.1 (worker t found.0)

-- No thread has a duty.
workers_weight : (f : Duty → ℕ) (n : ℕ) → weight f (replicate n (idle_actor 0)) ≡ 0
workers_weight f zero = refl
workers_weight f (suc n) =
    omega (arith, sum_by-cons (agenda_weight f) (idle_actor 0) (replicate n (idle_actor 0)), workers_weight f n)

pub no_weight : (f : Duty → ℕ) (layout : Layout) → weight f (idle_actors layout) ≡ 0
no_weight f layout =
    omega (
      arith,
      sum_by-cons (agenda_weight f) (idle_actor (block_size layout 0)) (replicate layout.workers (idle_actor 0)),
      workers_weight f layout.workers,
    )

-- Nobody has lent anything.
workers_lend : (x n : ℕ) → lenders x (replicate n (idle_actor 0)) ≡ 0
workers_lend x zero = refl
workers_lend x (suc n) =
    omega (arith, sum_by-cons (lends x) (idle_actor 0) (replicate n (idle_actor 0)), workers_lend x n)

pub none_lend : (x : ℕ) (layout : Layout) → lenders x (idle_actors layout) ≡ 0
none_lend x layout =
    omega (
      arith,
      sum_by-cons (lends x) (idle_actor (block_size layout 0)) (replicate layout.workers (idle_actor 0)),
      workers_lend x layout.workers,
    )
