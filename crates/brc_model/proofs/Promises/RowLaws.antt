-- What the invariant says of each event and of each machine holds of everything that an accepted module's events lead
-- to.
use Rattle.std.proofs.Common.{ℕ, ◌+◌, length}
use Rattle.brc_lang.specs.declared.module.Module.{Module}
use Rattle.brc_lang.specs.Grammar.{IsModule}
use Rattle.brc_model.specs.declared.thread.Choice.{Choice}
use Rattle.brc_model.specs.Paths.{IsAcceptable}
use Rattle.brc_model.specs.StepMachine.{StepMachine, first_machine}
use Rattle.brc_model.specs.Progress.{Always, AtEachEvent, StatesRise, OnlyOwnersCount, OwnersStay, ClosedStays, ClosesAnew, ImmortalsStay, ClosedOnce, CellsChangeUnderLock}
use Rattle.brc_model.proofs.Keeping.CodeInvariant.{CodeInvariant}
use Rattle.brc_model.proofs.Keeping.CodeEvents.{code_invariant_after}
use Rattle.brc_model.proofs.Promises.Safe.{first_code_invariant}
use Rattle.brc_model.proofs.Promises.StatesRise as states
use Rattle.brc_model.proofs.Promises.Owners as owners
use Rattle.brc_model.proofs.Promises.ClosedOnce as closed
use Rattle.brc_model.proofs.Promises.Immortals as immortals
use Rattle.brc_model.proofs.Promises.KindWords as words
use Rattle.brc_model.proofs.Promises.CellsUnderLock as cells
use Rattle.brc_model.specs.KnownKinds.{KindsStay}

-- What both layers of the invariant imply holds of every machine that an accepted module's events lead to.
pub always : (P : StepMachine → Type 0) → ((p : Module) (n : ℕ) (m : StepMachine) → CodeInvariant p n m → P m)
    → (p : Module)
    → IsModule p → IsAcceptable p → Always P p
always P holds p fits accepted = λ states rows calls events states_true some most are_calls.
    holds p (1 + length calls) _ (code_invariant_after p (1 + length calls) (first_machine p states rows calls) events
    (first_code_invariant p states rows calls fits accepted states_true are_calls some most))

-- What both layers of the invariant imply of each event holds in every such machine.
pub at_each_event : (P : StepMachine → ℕ × Choice → Type 0)
    → ((p : Module) (n : ℕ) (m : StepMachine) (event : ℕ × Choice) → CodeInvariant p n m → P m event) → (p : Module)
    → IsModule p
    → IsAcceptable p → AtEachEvent P p
at_each_event P holds p fits accepted =
    λ event. always (λ m. P m event) (λ q n m whole. holds q n m event whole) p fits accepted

pub states_rise : (p : Module) → IsModule p → IsAcceptable p → AtEachEvent StatesRise p
states_rise = at_each_event StatesRise states.states_rise

pub only_owners_count : (p : Module) → IsModule p → IsAcceptable p → AtEachEvent OnlyOwnersCount p
only_owners_count = at_each_event OnlyOwnersCount owners.only_owners_count

pub owners_stay : (p : Module) → IsModule p → IsAcceptable p → AtEachEvent OwnersStay p
owners_stay = at_each_event OwnersStay owners.owners_stay

pub closed_stays : (p : Module) → IsModule p → IsAcceptable p → AtEachEvent ClosedStays p
closed_stays = at_each_event ClosedStays closed.closed_stays

pub closes_anew : (p : Module) → IsModule p → IsAcceptable p → AtEachEvent ClosesAnew p
closes_anew = at_each_event ClosesAnew closed.closes_anew

pub closed_once : (p : Module) → IsModule p → IsAcceptable p → Always ClosedOnce p
closed_once = always ClosedOnce closed.closed_once

pub immortals_stay : (p : Module) → IsModule p → IsAcceptable p → AtEachEvent ImmortalsStay p
immortals_stay = at_each_event ImmortalsStay immortals.immortals_stay

pub kinds_stay : (p : Module) → IsModule p → IsAcceptable p → AtEachEvent KindsStay p
kinds_stay = at_each_event KindsStay words.kinds_stay

pub cells_under_lock : (p : Module) → IsModule p → IsAcceptable p → AtEachEvent CellsChangeUnderLock p
cells_under_lock = at_each_event CellsChangeUnderLock cells.cells_under_lock
