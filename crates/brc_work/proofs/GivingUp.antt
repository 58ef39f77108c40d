-- Variable after variable, a stopped call gives up what it owns.
use Rattle.std.proofs.Common.{◌≡◌, ◌≢◌, ℕ, zero, suc, ◌<◌, Bool, true, false, cond, List, [], ◌∷◌, Option, None, Some, inl, inr, refl, sym, ap, ◌∙◌, subst, arith}
use Rattle.std.specs.Prelude.{◌||◌, not, find, map}
use Rattle.std.specs.List.{slice_index_or}
use Rattle.std.proofs.lemmas.Bool.Decides.{eqb_tells}
use Rattle.brc_lang.specs.declared.check_code.CheckCode.TheVariants.{EmptyUsed, WrongKind, NotOwned, StillOwns, LeftOwned, LeftLocked, SecondLock, NotLocked, LockedChanged}
use Rattle.brc_lang.specs.declared.module.Instr.TheVariants as instructions
use Rattle.brc_model.specs.declared.actor.Place.{Place}
use Rattle.brc_model.specs.declared.actor.Place.TheVariants.{Stopping}
use Rattle.brc_model.specs.declared.state.Exit.TheVariants.{Success}
use Rattle.brc_model.specs.declared.state.Slot.{Slot}
use Rattle.brc_model.specs.declared.state.Slot.TheVariants.{Empty, Owned, Caller, Locked}
use Rattle.brc_model.specs.Actions.{always}
use Rattle.brc_model.specs.declared.state.State.{State}
use Rattle.brc_model.specs.SlotStates.{var_of, is_owned, is_empty, names, put, without_item, after, applies, lowest}
use Rattle.brc_model.specs.Stops.{row_locked, owned_rows, stopping}
use Rattle.brc_model.specs.Threads.{row_of}
use Rattle.brc_model.proofs.Dispatch.Stopped.{owned_exactly}
use Rattle.brc_table.specs.Hands.{TableState, HandState, IsOf}
use Rattle.brc_table.specs.declared.view.View.{View}
use Rattle.brc_work.specs.Calls.{HasReturned}
use Rattle.brc_work.specs.Changes.{CanGive}
use Rattle.brc_work.specs.Fits.{Base, Fits, HasDone}
use Rattle.brc_work.specs.Stopping.{unchained, OwnsAsMuch, IsGivingUp, GoesChained, Unlocks, Loosens, GivesUpTo, MakesReleases}
use Rattle.brc_work.specs.Traces.{Program, MakesTrace}
use Rattle.brc_work.proofs.Holding.{lock_of}
use Rattle.brc_work.proofs.Stepping.{ends}
use Rattle.brc_work.proofs.Stopping.{emptied, emptied_later, emptied_locked, all_emptied}
use Rattle.brc_work.proofs.Traces.Joining.{no_trace}
use Rattle.brc_work.proofs.Traces.Starting.{unlocks as unlocks_row}
use Rattle.brc_work.proofs.Traces.Stops.{Stops, stops_first, stops_on, stops_off, emptied_left, unowned_left, nothing_left}

-- The variables below the number have given up what they owned, and the thread gives up the rest.
abbrev pub HaveGiven : TableState → State → List (Option ℕ) → HandState → ℕ → List (Option ℕ) → HandState → Type 0
HaveGiven heap state first hand k rows after =
    IsOf heap after
    × ((base : Base) (s : State) → Fits base s first (unchained hand) → OwnsAsMuch state s
    → Fits base (emptied k s) rows (unchained after))
    × ((i : ℕ) → i < k → row_of (owned_rows state.slots rows) i ≡ None)
    × ((program : Program) (p : Place) (w : View) (outer : List (List (Option ℕ)))
    → GivesUpTo program p w (owned_rows state.slots first ∷ outer) hand.view
    → Stops program p w state.slots outer rows after.view)

-- A hand whose chain is empty.
pub as_unchained : (hand : HandState) → hand.view.actor.head ≡ 0 → hand ≡ unchained hand
as_unchained hand empty =
    λ i. record hand { view = record hand.view { actor = record hand.view.actor { head = empty i } } }

module _ (heap : TableState) (state : State) (first : List (Option ℕ)) (hand : HandState)
    (is : IsGivingUp heap (OwnsAsMuch state) first hand) where
  pub none_given : HaveGiven heap state first hand 0 first hand
  none_given = (
    is.of,
    λ base s fits alike. fits,
    λ i low. absurd (omega (arith, low)),
    λ program p w outer to. stops_first program p w state.slots outer first hand.view to is.fits.rests.agenda,
  )

  pub can_loosen : (s : State) (k : ℕ) → OwnsAsMuch state s → is_owned (var_of state k) ≡ true
      → CanGive (emptied k s) k
  can_loosen s k alike owned = record {
    owned = ap is_owned (emptied_later k k s (omega arith)) ∙ (alike.owned k ∙ owned);
    unlocked = ap (λ (o : Option ℕ). names o k) (emptied_locked k s ∙ alike.unlocked);
  }

  module _ (k : ℕ) (rows : List (Option ℕ)) (now : HandState) (given : HaveGiven heap state first hand k rows now) where
    fits_now : Fits is.base (emptied k is.state) rows (unchained now)
    fits_now = given.1 is.base is.state is.fits is.can_do

    pub one_given : (after_rows : List (Option ℕ)) (after : HandState) → is_owned (var_of state k) ≡ true
        → IsOf heap after
        → GoesChained (λ s. CanGive s k) (λ s. put s k Empty) rows now after_rows after
        → Loosens k rows now.view after_rows after.view
        → HaveGiven heap state first hand (suc k) after_rows after
    one_given after_rows after owned of goes loosens = (
      of,
      λ base s fits alike.
          subst (λ (b : Bool). Fits base (cond b (put (emptied k s) k Empty) (emptied k s)) after_rows
          (unchained after))
          (sym (alike.owned k ∙ owned)) (goes base (emptied k s) (given.1 base s fits alike)
          (can_loosen s k alike owned)),
      λ i low.
          subst (λ (rs : List (Option ℕ)). row_of (owned_rows state.slots rs) i ≡ None) (sym loosens.emptied)
          (emptied_left state.slots rows k i low given.2),
      λ program p w outer to.
          stops_on program p w state.slots outer rows after_rows k now.view after.view (given.3 program p w outer to)
          fits_now.rests.agenda loosens
          ((owned_exactly state.slots rows k loosens.row).1 (owned, loosens.names)) given.2,
    )

    pub none_more : is_owned (var_of state k) ≡ false → HaveGiven heap state first hand (suc k) rows now
    none_more bare = (
      given.0,
      λ base s fits alike.
          subst (λ (b : Bool). Fits base (cond b (put (emptied k s) k Empty) (emptied k s)) rows (unchained now))
          (sym (alike.owned k ∙ bare)) (given.1 base s fits alike),
      λ i low. unowned_left state.slots rows k i low bare given.2,
      given.3,
    )

  -- All have given up what they owned.
  module _ (rows : List (Option ℕ)) (now : HandState) (given : HaveGiven heap state first hand 16 rows now) where
    pub all_returned : (base : Base) (s : State) → Fits base s first (unchained hand) → OwnsAsMuch state s
        → HasReturned base (unchained now)
    all_returned base s fits alike =
        ends base (emptied 16 s) rows (unchained now) (given.1 base s fits alike) (all_emptied s fits.some_slots)
        (emptied_locked 16 s ∙ alike.unlocked)

    pub all_made : MakesReleases state first hand.view now.view
    all_made = λ program p w outer to.
        let at_end = given.1 is.base is.state is.fits is.can_do in
        stops_off program p w state.slots outer rows now.view (given.3 program p w outer to)
        (nothing_left state.slots rows at_end.some_rows given.2) at_end.rests.agenda

-- ---- the lock

names_itself : (x : ℕ) → names (Some x) x ≡ true
names_itself x = elim (eqb_tells x x) [
  | inl same ↦ same.0
  | inr apart ↦ absurd (apart.1 refl)
]

-- What is locked may be unlocked.
pub may_unlock : (s : State) (object : ℕ) → is_empty (var_of s object) ≡ false → s.locked ≡ Some object
    → lowest (instructions.Unlock object) s ≡ None
may_unlock s object used locked =
    let applied = applies (instructions.Unlock object) s in
    ap (λ (b : Bool). cond (b || (false || false)) (Some EmptyUsed)
    (find applied (WrongKind ∷ NotOwned ∷ StillOwns ∷ LeftOwned ∷ LeftLocked ∷ SecondLock ∷ NotLocked ∷ LockedChanged
    ∷ []))) used
    ∙ ap (λ (b : Bool). cond (false || (not b || false)) (Some NotLocked) (find applied (LockedChanged ∷ [])))
    (ap (λ (o : Option ℕ). names o object) locked ∙ names_itself object)

-- What borrows from the list is empty once the list is unlocked. So the same variables own references.
owned_alike : (slots : List Slot) (i : ℕ)
    → is_owned (slice_index_or (map without_item slots) i Empty) ≡ is_owned (slice_index_or slots i Empty)
owned_alike [] i = refl
owned_alike (Empty ∷ slots) zero = refl
owned_alike (Owned k ∷ slots) zero = refl
owned_alike (Caller k ∷ slots) zero = refl
owned_alike (Locked k ∷ slots) zero = refl
owned_alike (slot ∷ slots) (suc i) = owned_alike slots i

-- Nothing is locked any more: the variables own what they owned, and the thread has unlocked what it had to.
pub record IsUnlocked (heap : TableState) (state : State) (rows : List (Option ℕ)) (hand now : HandState) : Type 0 where
  pub left : State
  pub alike : OwnsAsMuch state left
  pub of : IsOf heap now
  pub fits : (base : Base) → Fits base state rows hand → Fits base left rows now
  pub made : (program : Program) (outer : List (List (Option ℕ)))
      → MakesTrace 0 [] program (stopping (row_locked state.locked rows) (owned_rows state.slots rows ∷ outer))
      hand.view (stopping None (owned_rows state.slots rows ∷ outer)) now.view

module _ (heap : TableState) (state : State) (rows : List (Option ℕ)) (hand : HandState) where
  pub unlocked_now : (now : HandState) (object : ℕ) → state.locked ≡ Some object → IsOf heap now
      → hand.view.actor.agenda ≡ []
      → HasDone (instructions.Unlock object) Success rows hand rows now → Unlocks object rows hand.view now.view
      → IsUnlocked heap state rows hand now
  unlocked_now now object locked of none done unlocks = record {
    left = after (instructions.Unlock object) Success state;
    alike = record { unlocked = refl; owned = λ i. owned_alike state.slots i };
    of = of;
    fits = λ base fits. done base state fits
        (may_unlock state object (lock_of base state rows hand fits object locked).used locked);
    made = λ program outer.
        let calls = owned_rows state.slots rows ∷ outer in
        subst (λ (o : Option ℕ). MakesTrace 0 [] program (stopping o calls) hand.view (stopping None calls) now.view)
        (sym (ap (λ (o : Option ℕ). row_locked o rows) locked ∙ unlocks.names))
        (subst (MakesTrace 0 [] program (Stopping (Some unlocks.row) calls) hand.view (stopping None calls))
        (sym unlocks.is)
        (unlocks_row program (Stopping (Some unlocks.row) calls) (always (stopping None calls)) hand.view none
        unlocks.row unlocks.found refl));
  }

  pub unlocked_already : state.locked ≡ None → IsOf heap hand → IsUnlocked heap state rows hand hand
  unlocked_already locked of = record {
    left = state;
    alike = record { unlocked = locked; owned = λ i. refl };
    of = of;
    fits = λ base fits. fits;
    made = λ program outer.
        let calls = owned_rows state.slots rows ∷ outer in
        subst (λ (o : Option ℕ). MakesTrace 0 [] program (stopping (row_locked o rows) calls) hand.view
        (stopping None calls) hand.view) (sym locked) (no_trace program (stopping None calls) [] hand.view);
  }

pub no_lock_left : (o : Option ℕ) → ((x : ℕ) → o ≢ Some x) → o ≡ None
no_lock_left None apart = refl
no_lock_left (Some x) apart = absurd (apart x refl)
