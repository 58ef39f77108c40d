-- The word that a duty finds, the exit of a host call, or what a thread holds where it stops may decide where the
-- thread goes on: what holds of each place that it can be holds of the one that it is.
use Rattle.std.proofs.Common.{ℕ, zero, suc, ◌<◌, cond, List, [], ◌∷◌, length, Option, None, Some}
use Rattle.std.specs.Prelude.{◌||◌, nat_lt, is_some, slice_set}
use Rattle.std.specs.List.{list_any}
use Rattle.std.proofs.lemmas.Bool.{ltb-true}
use Rattle.brc_model.specs.declared.state.Exit.{Exit}
use Rattle.brc_model.specs.declared.state.Exit.TheVariants.{Success, Fault}
use Rattle.brc_model.specs.declared.state.State.{State}
use Rattle.brc_model.specs.declared.actor.Place.{Place}
use Rattle.brc_model.specs.declared.actor.Place.TheVariants.{Idle, InCall, Inside, Stopping, Exiting}
use Rattle.brc_model.specs.declared.duty.Holding.TheVariants.{ByVariable}
use Rattle.brc_model.specs.declared.duty.Duty.TheVariants.{ReleaseLoad, Settle}
use Rattle.brc_model.specs.Duties.{cells_of}
use Rattle.brc_model.specs.Threads.{row_of, number_under}
use Rattle.brc_model.specs.Actions.{Action, Skip, Stuck, Silent, Does, always, with_row, by_range, by_item, by_exit, owned_rows, row_locked, holds_some, stopping, first_named, give_up_first, give_up, stop_in_call, stop_action, given_up}
use Rattle.brc_model.proofs.Basics.Lists.{either}
use Rattle.brc_lang.specs.declared.module.Function.{Function}

-- The list's kind word says whether the list has the cell.
pub range_decides : (P : Place → Type 0) (inside outside : Place) (index found : ℕ)
    → (index < cells_of found → P inside) → P outside → P (by_range index inside outside found)
range_decides P inside outside index found within past =
    either P (nat_lt index (cells_of found)) inside outside (λ has. within (ltb-true index (cells_of found) has)) past

-- The cell's word says whether the cell is empty, or else which row it holds.
pub item_decides : (P : ℕ → Place → Type 0) (empty : Place) (holds : ℕ → Place) → P 0 empty
    → ((item : ℕ) → P (suc item) (holds item)) → (found : ℕ) → P found (by_item empty holds found)
item_decides P empty holds none some zero = none
item_decides P empty holds none some (suc item) = some item

-- The exit of a host call says whether the call succeeded.
pub exit_decides : (P : Place → Type 0) (succeeded faulted : Place) → P succeeded → P faulted → (exit : Exit)
    → P (by_exit succeeded faulted exit)
exit_decides P succeeded faulted granted refused Success = granted
exit_decides P succeeded faulted granted refused Fault = refused

-- A thread that has stopped is stopping, or is done with its calls.
pub stopping_decides : (P : Place → Type 0) (lock : Option ℕ) (calls : List (List (Option ℕ)))
    → P (Stopping lock calls) → P (Idle 0) → P (stopping lock calls)
stopping_decides P lock calls stops ends =
    either P (is_some lock || holds_some calls) (Stopping lock calls) (Idle 0) (λ some. stops) ends

-- A stop leads there silently, from any place where it acts.
pub stop_decides : (Q : Action → Type 0) (functions : List Function) (states : ℕ → ℕ → Option State) (first : ℕ)
    (place : Place) → Q Skip → Q Stuck
    → ((lock : Option ℕ) (calls : List (List (Option ℕ))) → Q (Silent [] (stopping lock calls)))
    → Q (Silent [] (Idle 0)) → Q (stop_action functions states first place)
stop_decides Q functions states first (Idle left) skips stuck stops ends = ends
stop_decides Q functions states first (InCall context at variables) skips stuck stops ends =
    let outer = given_up functions states first context.outer in
    elim (states (number_under first context.outer) at) as (λ o. Q (stop_in_call outer variables o)) [
      | None ↦ stuck
      | Some s ↦ stops (row_locked s.locked variables) (owned_rows s.slots variables ∷ outer)
    ]
stop_decides Q functions states first (Inside context at variables stage) skips stuck stops ends = skips
stop_decides Q functions states first (Stopping lock calls) skips stuck stops ends = skips
stop_decides Q functions states first Exiting skips stuck stops ends = skips

-- What a stopped thread gives up next: a reference of one of its calls.
pub give_up_decides : (Q : Action → Type 0) → Q Stuck
    → ((row depth v : ℕ) (after : List (List (Option ℕ)))
    → Q (Does (ReleaseLoad row (ByVariable depth v)) (cond (holds_some after) [] (Settle ∷ []))
    (always (stopping None after))))
    → (calls : List (List (Option ℕ))) → Q (give_up calls)
give_up_decides Q stuck each [] = stuck
give_up_decides Q stuck each (rows ∷ outer) =
    let v = first_named rows in
    let after = slice_set rows v None ∷ outer in
    let first : Q (give_up_first rows outer) =
    elim (row_of rows v) as
    (λ o. Q (with_row o (λ row. Does (ReleaseLoad row (ByVariable (length outer) v))
    (cond (holds_some after) [] (Settle ∷ [])) (always (stopping None after))))) [
      | None ↦ stuck
      | Some row ↦ each row (length outer) v after
    ] in
    either Q (list_any is_some rows) (give_up_first rows outer) (give_up outer) (λ names. first)
    (give_up_decides Q stuck each outer)
