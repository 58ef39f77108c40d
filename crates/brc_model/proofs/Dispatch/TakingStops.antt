-- What a thread takes up that stops or has stopped meets its condition: it unlocks what it has locked, and gives up
-- what its calls hold.
use Rattle.std.proofs.Common.{◌≡◌, ◌≢◌, ℕ, ◌<◌, ◌≤◌, Bool, true, false, cond, List, [], ◌∷◌, length, Option, None, Some, inl, inr, refl, sym, ap, ◌∙◌, subst, arith}
use Rattle.std.specs.Prelude.{◌||◌, is_some, slice_set}
use Rattle.std.specs.List.{list_any}
use Rattle.std.proofs.lemmas.Bool.{eq-eqb}
use Rattle.std.proofs.lemmas.Bool.Decides.{eqb_tells}
use Rattle.std.proofs.lemmas.List.{length-set}
use Rattle.brc_model.specs.declared.state.State.{State}
use Rattle.brc_model.specs.declared.actor.Context.{Context}
use Rattle.brc_model.specs.declared.actor.Place.{Place}
use Rattle.brc_model.specs.declared.actor.Place.TheVariants.{Idle, Stopping, Exiting}
use Rattle.brc_model.specs.declared.duty.Holding.TheVariants.{ByVariable}
use Rattle.brc_model.specs.declared.duty.Duty.{Duty}
use Rattle.brc_model.specs.declared.duty.Duty.TheVariants.{ReleaseLoad, Settle, UnlockGate}
use Rattle.brc_model.specs.AbstractState.{Reference}
use Rattle.brc_model.specs.References.{held, one_if, reference_of}
use Rattle.brc_model.specs.SlotStates.{names}
use Rattle.brc_model.specs.Threads.{row_of}
use Rattle.brc_model.specs.Actions.{Does, always, owned_rows, row_locked, holds_some, stopping, first_named, give_up_first, give_up, given_up}
use Rattle.brc_model.proofs.Basics.Bag.{held-le-references_to}
use Rattle.brc_model.proofs.Basics.Lists.{either, some_is, none_some, first_false, second_false}
use Rattle.brc_model.proofs.Frame.Aside.{HoldsAlone}
use Rattle.brc_model.proofs.Keeping.SilentMoves.{Stays}
use Rattle.brc_model.proofs.Dispatch.Holds.{once_each, call_of, of_variables}
use Rattle.brc_model.proofs.Dispatch.Grounded.{IsInside}
use Rattle.brc_model.proofs.Dispatch.Guards.{LocksAgree}
use Rattle.brc_model.proofs.Dispatch.Stopped.{rows_at, rows_here, rows_further, rows_past, of_stopped, IsStopped, stop_says, stop_stopped, stop_lock, first_names, given_says, passed_says, stopped_says}
use Rattle.brc_model.proofs.Dispatch.Coded.{PlaceFits}
use Rattle.brc_model.proofs.Dispatch.TakingUp.{Scene, ByOwn, Gives, Unlocks, Nothing, Settles, MayFollow, Taken, SilentTaken, IsTaken, taken_with_row, idle_stays}
use Rattle.brc_model.proofs.Dispatch.Programs.{Program}

-- ---- where a thread is that has stopped

pub stopping_stays : (lock : Option ℕ) (calls : List (List (Option ℕ))) → stopping lock calls ≢ Exiting
stopping_stays lock calls =
    either (λ (place : Place). place ≢ Exiting) (is_some lock || holds_some calls) (Stopping lock calls) (Idle 0)
    (λ some e. cc) (idle_stays 0)

no_lock : (lock : Option ℕ) → is_some lock ≡ false → lock ≡ None
no_lock None none = refl
no_lock (Some x) none = absurd cc

-- The place fits a thread that holds what its calls have still to give up.
pub stopping_fits : (program : Program) (bag : List Reference) (t : ℕ) (agenda : List Duty) (locked lock : Option ℕ)
    (calls : List (List (Option ℕ)))
    → locked ≡ lock → IsStopped lock calls → HoldsAlone bag t (once_each (of_stopped calls)) agenda
    → PlaceFits program bag t agenda locked (stopping lock calls)
stopping_fits program bag t agenda locked lock calls same is holds =
    let some = is_some lock || holds_some calls in
    elim some as (λ b. some ≡ b → PlaceFits program bag t agenda locked (cond b (Stopping lock calls) (Idle 0))) [
      | true ↦ λ yes. (same, is, yes, holds)
      | false ↦ λ no. (
        same ∙ no_lock lock (first_false (is_some lock) (holds_some calls) no),
        record {
          each = λ k object.
              let ended = ap one_if (stopped_says calls (second_false (is_some lock) (holds_some calls) no) k object) in
              omega (arith, holds.each k object, ended);
        },
        tt,
      )
    ] refl

-- ---- a stop

-- A thread that stops in a call holds what it held.
pub stop_taken : (program : Program) (g : Scene) (context : Context) (at : ℕ) (variables : List (Option ℕ)) (s : State)
    → IsInside (call_of program context) at variables s → LocksAgree s variables g.locked
    → HoldsAlone g.bag g.thread (once_each (of_variables (call_of program context) s variables)) []
    → SilentTaken program g []
    (stopping (row_locked s.locked variables) (owned_rows s.slots variables ∷ given_up program.functions program.states
    program.first context.outer))
stop_taken program g context at variables s inside guards holds =
    let lock = row_locked s.locked variables in
    let calls = owned_rows s.slots variables ∷ given_up program.functions program.states program.first context.outer in
    record {
      moves_fit = Stays;
      placed =
          stopping_fits program g.bag g.thread [] g.locked lock calls (stop_lock s variables s.locked g.locked guards)
          (stop_stopped program context.outer at s variables g.locked inside guards)
          (record {
            each = λ k object.
                let same = ap one_if (stop_says program context.outer s variables k object) in
                omega (arith, holds.each k object, same);
          });
      stays = stopping_stays lock calls;
    }

-- ---- the lock

-- The thread unlocks what it has locked, and keeps all its references.
pub stopped_unlocks : (program : Program) (g : Scene) (row : ℕ) (calls : List (List (Option ℕ)))
    → PlaceFits program g.bag g.thread [] g.locked (Stopping (Some row) calls) → g.lent ≡ None
    → IsTaken program g (Does (UnlockGate row) [] (always (stopping None calls)))
stopped_unlocks program g row calls fits unlent found =
    let holds = fits.1.lock_held row refl in
    let is_held = ap one_if holds.1 in
    let one : 0 < held (reference_of g.thread holds.0 row) g.bag = omega (arith, fits.3.each holds.0 row, is_held) in
    record {
      placed =
          stopping_fits program g.bag g.thread (UnlockGate row ∷ []) None None calls refl
          (record { few = fits.1.few; rows = fits.1.rows; lock_held = λ x e. absurd (none_some x e) })
          (record { each = λ k object. omega (arith, fits.3.each k object) });
      starts = Unlocks row (ByOwn holds.0 one) fits.0 unlent;
      follows = Nothing (stopping_stays None calls);
      keeps = λ x locked. record {
        by = holds.0;
        held_so = let same = some_is row x (sym fits.0 ∙ locked) in
            subst (λ (y : ℕ). 0 < held (reference_of g.thread holds.0 y) g.bag) same one;
        beside = refl;
      };
    }

-- ---- the references

-- After its release a thread settles if this was its last reference.
settles_last : (b : Bool) (g : Scene) (place : Place) → place ≢ Exiting
    → MayFollow g.layout g.thread g.used place (cond b [] (Settle ∷ []))
settles_last true g place stays = Nothing stays
settles_last false g place stays = Settles stays

-- The call's first variable that names a row gives up its reference.
first_taken : (program : Program) (g : Scene) (rows : List (Option ℕ)) (outer : List (List (Option ℕ)))
    → g.locked ≡ None → IsStopped None (rows ∷ outer)
    → HoldsAlone g.bag g.thread (once_each (of_stopped (rows ∷ outer))) [] → list_any is_some rows ≡ true
    → IsTaken program g (give_up_first rows outer)
first_taken program g rows outer unlocked is holds some =
    let v = first_named rows in
    let by = ByVariable (length outer) v in
    let named = first_names rows some in
    let x = named.0 in
    let after = slice_set rows v None ∷ outer in
    let rest = cond (holds_some after) [] (Settle ∷ []) in
    let mine : of_stopped (rows ∷ outer) by x ≡ true =
    ap (λ (l : List (Option ℕ)). names (row_of l v) x) (rows_here rows outer)
    ∙ ap (λ (row : Option ℕ). names row x) named.1 ∙ eq-eqb x x refl in
    let is_held = ap one_if mine in
    let one : held (reference_of g.thread by x) g.bag ≡ 1 = omega (arith, holds.each by x, is_held) in
    let fewer : IsStopped None after = record {
      few = omega (arith, is.few);
      rows = λ depth. elim (eqb_tells depth (length outer)) [
        | inl this ↦
            let now = ap (λ (b : Bool). length (cond b (slice_set rows v None) (rows_at outer depth))) this.0 in
            let old = ap (λ (b : Bool). length (cond b rows (rows_at outer depth))) this.0 in
            omega (arith, now, old, length-set rows v None, is.rows depth)
        | inr apart ↦
            let same = ap (λ (l : List (Option ℕ)). length l)
            (rows_further (slice_set rows v None) outer depth apart.0 ∙ sym (rows_further rows outer depth apart.0)) in
            omega (arith, same, is.rows depth)
      ];
      lock_held = λ y e. absurd (none_some y e);
    } in
    let taken : (found : ℕ) → Taken program g found (stopping None after) (ReleaseLoad x by) rest = λ found. record {
      placed =
          stopping_fits program g.bag g.thread (ReleaseLoad x by ∷ rest) g.locked None after unlocked fewer
          (record {
            each = λ k object.
                let said = given_says rows outer v x named.2 named.1 k object in
                omega (arith, holds.each k object, said);
          });
      starts =
          Gives x by rest (omega (arith, one, held-le-references_to (reference_of g.thread by x) g.bag));
      follows = settles_last (holds_some after) g (stopping None after) (stopping_stays None after);
      keeps = λ y locked. absurd (none_some y (sym unlocked ∙ locked));
    } in
    taken_with_row program g x (row_of rows v)
    (λ row. Does (ReleaseLoad row by) rest (always (stopping None after))) named.1 taken

-- The calls further out have few variables.
further_few : (rows : List (Option ℕ)) (outer : List (List (Option ℕ))) (depth : ℕ) → IsStopped None (rows ∷ outer)
    → length (rows_at outer depth) ≤ 16
further_few rows outer depth is =
    elim (eqb_tells depth (length outer)) [
      | inl this ↦
          let none = ap (λ (l : List (Option ℕ)). length l) (rows_past outer depth (omega (arith, this.1))) in
          omega (arith, none)
      | inr apart ↦
          let same = ap (λ (l : List (Option ℕ)). length l) (rows_further rows outer depth apart.0) in
          omega (arith, same, is.rows depth)
    ]

-- So does the first of any call that names one.
pub give_up_taken : (program : Program) (g : Scene) (calls : List (List (Option ℕ))) → g.locked ≡ None
    → IsStopped None calls → HoldsAlone g.bag g.thread (once_each (of_stopped calls)) [] → holds_some calls ≡ true
    → IsTaken program g (give_up calls)
give_up_taken program g [] unlocked is holds some = absurd cc
give_up_taken program g (rows ∷ outer) unlocked is holds some =
    let here = list_any is_some rows in
    elim here as (λ b. here ≡ b → IsTaken program g (cond b (give_up_first rows outer) (give_up outer))) [
      | true ↦ λ names. first_taken program g rows outer unlocked is holds names
      | false ↦ λ none.
          give_up_taken program g outer unlocked
          (record {
            few = omega (arith, is.few);
            rows = λ depth. further_few rows outer depth is;
            lock_held = λ y e. absurd (none_some y e);
          })
          (record {
            each = λ k object.
                let same = ap one_if (passed_says rows outer none k object) in
                omega (arith, holds.each k object, same);
          })
          (sym (ap (λ (b : Bool). b || holds_some outer) none) ∙ some)
    ] refl
