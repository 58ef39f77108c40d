-- A hand that puts an item into a cell, and gives up what was there, makes the events of its thread.
use Rattle.std.proofs.Common.{◌≡◌, ℕ, zero, suc, List, [], ◌∷◌, ◌++◌, None, Some, add-one, refl, sym, ap, ◌∙◌, subst}
use Rattle.brc_host.specs.HostCalls.{HostCall}
use Rattle.brc_model.specs.Actions.{Does, always}
use Rattle.brc_model.specs.Duties.{ready, release_found}
use Rattle.brc_model.specs.declared.actor.Actor.{Actor}
use Rattle.brc_model.specs.declared.actor.Place.{Place}
use Rattle.brc_model.specs.declared.address.Address.TheVariants.{Cell}
use Rattle.brc_model.specs.declared.duty.Duty.{Duty}
use Rattle.brc_model.specs.declared.duty.Duty.TheVariants.{ReleaseLoad, CellSwap, Settle}
use Rattle.brc_model.specs.declared.duty.Holding.{Holding}
use Rattle.brc_model.specs.declared.duty.Holding.TheVariants.{InFlight}
use Rattle.brc_model.proofs.Basics.Lists.{some_is, none_some}
use Rattle.brc_model.specs.declared.event.WordEvent.{WordEvent}
use Rattle.brc_table.specs.declared.view.View.{View}
use Rattle.brc_table.specs.Swaps.{swapped}
use Rattle.brc_table.specs.Views.{open_work}
use Rattle.brc_list.specs.Calls.{row_in}
use Rattle.brc_model.specs.Trace.{events_of}
use Rattle.brc_work.specs.Traces.{Program, dispatch_in, Makes, Refl, Dispatches, Traces, MakesTrace, thread_with, begun_at}
use Rattle.brc_work.specs.Performs.{MakesSwap, MakesRelease}
use Rattle.brc_work.proofs.Traces.Joining.{only_these, traces_then, with_duties}
use Rattle.brc_work.proofs.Traces.Duties.{comes_next}

-- The word of an empty cell,
word_none : (word : ℕ) → row_in word ≡ None → word ≡ 0
word_none zero is = refl
word_none (suc x) is = absurd (none_some x (sym is))

-- and that of a cell with an item.
word_some : (word item : ℕ) → row_in word ≡ Some item → word ≡ suc item
word_some zero item is = absurd (none_some item is)
word_some (suc x) item is = ap suc (some_is x item is)

-- what the thread does after the swap
abbrev pub swap_next : ℕ → ℕ → List Duty
swap_next head found = ready head (release_found found ++ Settle ∷ [])

-- The thread swaps the cell, however it holds the item. It gives up what it finds there, and settles.
swaps : (program : Program) (place next : Place) (row cell item found : ℕ) (holding : Holding) (v : View)
    → v.actor.agenda ≡ []
    → dispatch_in v.layout v.thread v.actor.used program place ≡ Does (CellSwap row cell item holding) (Settle ∷ [])
    (always next)
    → Traces (begun_at place) [] program place [] v next (swap_next v.actor.head found)
    (swapped v row cell (suc item) found)
swaps program place next row cell item found holding v none is =
    let d = CellSwap row cell item holding in
    let events = events_of v.layout v.thread (thread_with v []) d found in
    let stored : ℕ → WordEvent = λ left. record { address = Cell row cell; found = found; left = left } in
    let aside : v.actor.aside ≡ open_work v = ap (λ (ds : List Duty). ds ++ v.actor.aside) (sym none) in
    record {
      events = events;
      trace = ap (λ (left : ℕ). v.trace ++ stored left ∷ []) (sym (add-one item));
      makes = subst (λ (a : Actor).
          Makes v.layout v.thread program place (thread_with v []) (begun_at place) [] events next a)
          (λ i. record (thread_with v (swap_next v.actor.head found)) { aside = aside i })
          (only_these (Dispatches 0 [] [] place (thread_with v []) d (Settle ∷ []) (always next) found Refl refl is
          refl));
      layout = refl;
      thread = refl;
    }

-- If the cell was empty, a thread whose chain is empty has nothing more to do.
pub swaps_nothing : (row cell item found : ℕ) (v u : View) → v.actor.agenda ≡ [] → v.actor.head ≡ 0 → row_in found
    ≡ None
    → u ≡ swapped v row cell (suc item) found → MakesSwap [] row cell item v u
swaps_nothing row cell item found v u none empty nothing is = λ program place next holding does.
    subst (MakesTrace (begun_at place) [] program place v next) (sym is)
    (with_duties program place next [] (swap_next v.actor.head found) [] v (swapped v row cell (suc item) found)
    (ap (swap_next v.actor.head) (word_none found nothing) ∙ ap (λ (head : ℕ). ready head (Settle ∷ [])) empty)
    (swaps program place next row cell item found holding v none (does v.layout v.thread v.actor.used)))

-- Otherwise the hand gives up the item that came out.
pub swaps_item : {cs : List HostCall} (row cell item found old : ℕ) (v mid u : View) → v.actor.agenda ≡ []
    → row_in found ≡ Some old
    → mid ≡ swapped v row cell (suc item) found → MakesRelease cs old mid u → MakesSwap cs row cell item v u
swaps_item row cell item found old v mid u none some is releases = λ program place next holding does.
    let duties = ReleaseLoad old InFlight ∷ Settle ∷ [] in
    traces_then program place next next [] duties [] v mid u
    (subst (Traces (begun_at place) [] program place [] v next duties) (sym is)
    (with_duties program place next [] (swap_next v.actor.head found) duties v (swapped v row cell (suc item) found)
    (ap (swap_next v.actor.head) (word_some found old some) ∙ comes_next v.actor.head (ReleaseLoad old InFlight)
    (Settle ∷ []) refl)
    (swaps program place next row cell item found holding v none (does v.layout v.thread v.actor.used))))
    (releases.next program next InFlight)
