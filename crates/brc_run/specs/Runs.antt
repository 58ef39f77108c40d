-- A run of a function on real threads.
use Rattle.std.specs.Prelude.{◌≡◌, ℕ, ◌+◌, ◌<◌, None, All, List, [], ◌∷◌, length, map, sum_by, slice_index_or}
use Rattle.brc_host.specs.HostCounts.{raised}
use Rattle.brc_host.specs.HostCalls.{HostCall, HasAnswered, close_faults}
use Rattle.brc_host.specs.declared.counts.HostCounts.{HostCounts}
use Rattle.brc_lang.specs.declared.module.Module.{Module}
use Rattle.brc_model.specs.FirstRows.{value_count}
use Rattle.brc_model.specs.Layout.{root_row}
use Rattle.brc_model.specs.StepMachine.{layout_of}
use Rattle.brc_model.specs.declared.thread.Call.{Call}
use Rattle.brc_table.specs.declared.view.View.{View}
use Rattle.brc_table.specs.Calls.{IsFree}
use Rattle.brc_table.specs.Ending.{EndState}
use Rattle.brc_table.specs.Hands.{TableState, HandState}
use Rattle.brc_heap.specs.Ends.{HasEnded}
use Rattle.brc_os.specs.HostStates.{HostState, AnswersForSystem, new_host}
use Rattle.brc_queue.specs.Scans.{HasLeft}
use Rattle.brc_report.specs.declared.tally.Tally.{Tally}
use Rattle.brc_work.specs.Totals.{totals_of}
use Rattle.brc_work.specs.Workers.{HasGone, job}
use Rattle.brc_work.specs.declared.ran.Ran.{Ran}
use Rattle.brc_work.specs.declared.totals.Totals.{Totals}
use Rattle.brc_run.specs.Tallies.{tally_at_end}

-- Main may leave: it has nothing to do, and holds a reference to the root and no other.
pub record MayEnd (v : View) : Type 0 where
  pub thread : v.thread ≡ 0
  pub free : IsFree v
  pub settled : v.actor.head ≡ 0
  pub unlocked : v.actor.locked ≡ None
  pub root : v.references ≡ root_row ∷ []

-- what each worker has counted
abbrev pub totals_in : List (HandState × Ran) → List Totals
totals_in gone = map (λ w. totals_of w.1) gone

-- The tally of a run with this number of workers, and of rows for each. Each worker makes the call `call.times` times,
-- or is stopped where it has begun `steps` instructions: its thread is gone, and has made the events of the calls,
-- those of its stop, if it was stopped, and then those of its exit, and its host was asked for just what they ask. The
-- tally is of the end of the heap that they share, at which each thread is gone, of what each worker has counted of its
-- host's answers, and of the closes of main that failed. Worker k + 1 had host k.
pub record IsTallyOf {S : Type 0} (answers : S → HostCall → S → Type 0) (counts : S → HostCounts) (m : Module)
    (workers rows : ℕ) (call : Call) (steps : ℕ) (hosts : List S) (close_faults : ℕ) (tally : Tally) : Type 0 where
  pub heap : TableState
  pub same : heap.layout ≡ layout_of m workers rows
  pub lines : heap.lines ≡ m.statics
  pub gone : List (HandState × Ran)
  pub end : EndState
  pub one_each : length gone ≡ workers
  pub each : (k : ℕ) (w : HandState × Ran) (h : S) → k < workers → HasGone answers counts
      (job heap m call.function call.times steps (k + 1) (slice_index_or hosts k h)) (slice_index_or gone k w).0
      (slice_index_or gone k w).1
  pub of : end.table ≡ heap.table
  pub layout : end.layout ≡ layout_of m workers rows
  pub ended : HasEnded end
  pub counted : tally ≡ tally_at_end end workers (totals_in gone) close_faults
  -- the root was created, the numbers in the cells of the static lists, and what the workers have made
  pub created : tally.created ≡ 1 + value_count m.statics + sum_by (λ t. t.created) (totals_in gone)

-- Main has left with these closes of its host, and no other call. The tally has counted those that failed.
pub record CountsMain {S : Type 0} (answers : S → HostCall → S → Type 0) (counts : S → HostCounts) (m : Module)
    (workers rows : ℕ) (call : Call) (steps : ℕ) (hosts : List S) (before after : S) (tally : Tally) : Type 0 where
  pub closes : List HostCall
  pub first : View
  pub last : View
  pub leaves : HasLeft closes first last
  pub host : HasAnswered answers counts before closes after
  pub counted : IsTallyOf answers counts m workers rows call steps hosts (raised (close_faults closes) 0)
      tally

-- The same over hosts of the system. Each worker's host, and main's, reached just these paths and these peers, and
-- hadn't been called; what becomes of them isn't seen any more.
abbrev pub IsTallyOfRun : List (List ℕ) → List (List ℕ) → Module → ℕ → ℕ → Call → ℕ → Tally → Type 0
IsTallyOfRun paths peers m workers rows call steps tally = (hosts : List HostState) × (after : HostState)
    × (length hosts ≡ workers) × All (λ host. host ≡ new_host paths peers) hosts
    × CountsMain AnswersForSystem (λ (host : HostState). host.counts) m workers rows call steps hosts
    (new_host paths peers) after tally

-- Main has left, and the heap of a run of the module with this number of workers, and of rows for each, has ended: each
-- thread is gone. Main has left with these closes of its host, and no other call.
pub record MainHasLeft {S : Type 0} (answers : S → HostCall → S → Type 0) (counts : S → HostCounts) (m : Module)
    (workers rows : ℕ) (before after : S) : Type 0 where
  pub end : EndState
  pub layout : end.layout ≡ layout_of m workers rows
  pub ended : HasEnded end
  pub closes : List HostCall
  pub first : View
  pub last : View
  pub leaves : HasLeft closes first last
  pub host : HasAnswered answers counts before closes after
