-- A lock and an unlock that a thread of accepted code takes up meet their condition.
use Rattle.std.proofs.Common.{◌≡◌, ◌≢◌, ℕ, ◌+◌, true, false, List, [], ◌∷◌, ◌++◌, Option, None, Some, refl, sym, ap, ◌∙◌, arith, cond}
use Rattle.std.specs.Prelude.{◌==◌}
use Rattle.std.proofs.lemmas.List.{length-map}
use Rattle.std.proofs.lemmas.Bool.{not-false}
use Rattle.brc_lang.specs.declared.module.Instr.TheVariants.{Lock, Unlock}
use Rattle.brc_word.specs.Words.{free_word}
use Rattle.brc_model.specs.declared.state.Slot.{Slot}
use Rattle.brc_model.specs.declared.state.Slot.TheVariants.{Locked}
use Rattle.brc_model.specs.declared.state.State.{State}
use Rattle.brc_model.specs.declared.state.Exit.TheVariants.{Success}
use Rattle.brc_model.specs.declared.duty.Holding.{Holding}
use Rattle.brc_model.specs.declared.duty.Holding.TheVariants.{ByVariable, AsCaller, InFlight}
use Rattle.brc_model.specs.declared.duty.Duty.TheVariants.{LockGate, UnlockGate}
use Rattle.brc_model.specs.declared.actor.Place.{Place}
use Rattle.brc_model.specs.declared.actor.Context.{Context}
use Rattle.brc_model.specs.declared.actor.Place.TheVariants.{InCall, Exiting}
use Rattle.brc_model.specs.SlotStates.{var_of, is_empty, names, without_item, without_items, with_lock}
use Rattle.brc_model.specs.Threads.{row_of}
use Rattle.brc_model.specs.References.{one_if}
use Rattle.brc_model.specs.Actions.{Does, always, dispatch_instruction}
use Rattle.brc_model.specs.Items.{borrows_item}
use Rattle.brc_model.proofs.Basics.Lists.{first_false, none_some}
use Rattle.brc_model.proofs.Frame.Aside.{HoldsAlone}
use Rattle.brc_model.proofs.Dispatch.Holds.{once_each, Activation, of_variables, call_of}
use Rattle.brc_model.proofs.Dispatch.Grounded.{IsInside, grounded-without, says-without}
use Rattle.brc_model.proofs.Dispatch.Guards.{is_kept, guards_none, guards_row}
use Rattle.brc_model.proofs.Dispatch.Coded.{PlaceFits, fits_with}
use Rattle.brc_model.proofs.Dispatch.TakingUp.{Scene, StandsAt, Locks, Unlocks, Nothing, Taken, IsTaken, taken_with_row, in_call_stays}
use Rattle.brc_model.proofs.Dispatch.Standing.{named_at, keeps_all}
use Rattle.brc_model.proofs.Dispatch.Programs.{Program}

-- ---- lock

-- A variable that isn't empty keeps its object, since no variable borrows an item while nothing is locked.
var_kept : (var : Slot) → is_empty var ≡ false → (borrows_item var ≡ true → ⊥) → is_kept var ≡ true
var_kept (Locked k) some none = absurd (none refl)
var_kept _ some none = cc

-- A lock changes nothing of what the thread is to hold.
says_locked : (call : Activation) (s : State) (variables : List (Option ℕ)) (o : Option ℕ) (h : Holding) (object : ℕ)
    → of_variables call s variables h object ≡ of_variables call (with_lock s o) variables h object
says_locked call s variables o (ByVariable depth v) object = refl
says_locked call s variables o AsCaller object = refl
says_locked call s variables o InFlight object = refl

-- The gate is free: the thread has locked the object and is at the next instruction. The gate isn't free: the thread is
-- where it was.
lock_taken_at : (program : Program) (g : Scene) (before after : Place) (row found : ℕ)
    → PlaceFits program g.bag g.thread (LockGate row ∷ []) (Some row) after → (after ≢ Exiting)
    → PlaceFits program g.bag g.thread (LockGate row ∷ []) g.locked before → (before ≢ Exiting)
    → PlaceFits program g.bag g.thread (LockGate row ∷ []) (cond (found == free_word) (Some row) g.locked)
    (cond (found == free_word) after before)
    × (cond (found == free_word) after before ≢ Exiting)
lock_taken_at program g before after row found fits goes back remains =
    elim (found == free_word) as
    (λ b. PlaceFits program g.bag g.thread (LockGate row ∷ []) (cond b (Some row) g.locked) (cond b after before)
    × (cond b after before ≢ Exiting)) [
      | true ↦ (fits, goes)
      | false ↦ (back, remains)
    ]

module _ {program : Program} {g : Scene} {before : Place} {context : Context} {at : ℕ} {variables : List (Option ℕ)}
    {s : State} where
  pub lock_taken : (object : ℕ) → StandsAt program context g before at variables s (Lock object)
      → IsTaken program g (dispatch_instruction g.layout g.thread g.used before context at variables
      (Some (Lock object)))
  lock_taken object here =
      let some : is_empty (var_of s object) ≡ false = first_false _ _ here.met.not_empty in
      let live = named_at program context g before at variables s (Lock object) object here some in
      let none : g.locked ≡ None =
      guards_none s variables s.locked g.locked (first_false _ _ here.met.first_lock) here.guards in
      let no_items : borrows_item (var_of s object) ≡ true → ⊥ = λ borrows.
      none_some _ (sym none ∙ (here.items object live.object borrows live.is_row).is_locked) in
      let locked = with_lock s (Some object) in
      let next : IsInside (call_of program context) (at + 1) variables locked = record {
        is_call = here.inside.is_call;
        exits = here.inside.exits ++ Success ∷ [];
        arrived = here.leads Success (at + 1) refl;
        slots = here.inside.slots;
        rows = here.inside.rows;
        grounded = here.inside.grounded;
      } in
      let held_now : HoldsAlone g.bag g.thread (once_each (of_variables (call_of program context) locked variables))
      (LockGate live.object ∷ []) =
      record {
        each = λ k o. omega (
          arith,
          here.holds.each k o,
          ap one_if (says_locked (call_of program context) s variables (Some object) k o),
        );
      } in
      let goes : PlaceFits program g.bag g.thread (LockGate live.object ∷ []) (Some live.object)
      (InCall context (at + 1) variables) =
      (locked, next, (live.object, refl, live.is_row, var_kept (var_of s object) some no_items), held_now) in
      let back = fits_with program g.bag g.thread (LockGate live.object ∷ []) g.locked before (λ k o. refl)
      (λ k o. refl)
      here.back in
      let taken : (found : ℕ)
      → Taken program g found (cond (found == free_word) (InCall context (at + 1) variables) before)
      (LockGate live.object)
      [] = λ found.
      let placed =
      lock_taken_at program g before (InCall context (at + 1) variables) live.object found goes
      (in_call_stays context (at + 1) variables) back here.remains in
      record {
        placed = placed.0;
        starts = Locks live.object live.backs none;
        follows = Nothing placed.1;
        keeps = λ x is. absurd (let wrong : None ≡ Some x = sym none ∙ is in cc);
      } in
      taken_with_row program g live.object (row_of variables object)
      (λ row. Does (LockGate row) []
      (λ found. cond (found == free_word) (InCall context (at + 1) variables) before)) live.is_row taken

  -- ---- unlock

  pub unlock_taken : (object : ℕ) → StandsAt program context g before at variables s (Unlock object)
      → IsTaken program g (dispatch_instruction g.layout g.thread g.used before context at variables
      (Some (Unlock object)))
  unlock_taken object here =
      let some : is_empty (var_of s object) ≡ false = first_false _ _ here.met.not_empty in
      let live = named_at program context g before at variables s (Unlock object) object here some in
      let this : names s.locked object ≡ true = not-false _ (first_false _ _ here.met.has_lock) in
      let has : g.locked ≡ Some live.object =
      guards_row s variables object live.object s.locked g.locked this live.is_row here.guards in
      let unlocked = with_lock (without_items s) None in
      let next : IsInside (call_of program context) (at + 1) variables unlocked = record {
        is_call = here.inside.is_call;
        exits = here.inside.exits ++ Success ∷ [];
        arrived = here.leads Success (at + 1) refl;
        slots = length-map s.slots without_item ∙ here.inside.slots;
        rows = here.inside.rows;
        grounded = grounded-without (call_of program context) s variables here.inside.grounded;
      } in
      let held_now : HoldsAlone g.bag g.thread (once_each (of_variables (call_of program context) unlocked variables))
      (UnlockGate live.object ∷ []) =
      record {
        each = λ k o.
            let same : of_variables (call_of program context) s variables k o
            ≡ of_variables (call_of program context) unlocked variables k o =
            says-without (call_of program context) s variables k o ∙ says_locked (call_of program context)
            (without_items s)
            variables None k o in
            omega (arith, here.holds.each k o, ap one_if same);
      } in
      let taken : (found : ℕ) → Taken program g found (InCall context (at + 1) variables) (UnlockGate live.object) [] =
      λ found. record {
        placed = (unlocked, next, refl, held_now);
        starts = Unlocks live.object live.backs has here.unlent;
        follows = Nothing (in_call_stays context (at + 1) variables);
        keeps = keeps_all program context g before at variables s (Unlock object) (UnlockGate live.object) here
            (λ k o. refl);
      } in
      taken_with_row program g live.object (row_of variables object)
      (λ row. Does (UnlockGate row) [] (always (InCall context (at + 1) variables))) live.is_row taken
