-- A thread that waits for a lock changes nothing; any other thread that isn't gone changes the world.
use Rattle.std.proofs.Common.{◌≡◌, ◌≢◌, ℕ, zero, suc, ◌≤◌, true, false, List, [], ◌∷◌, length, Some, inl, inr, refl, sym, ap, ◌∙◌, arith, get_or, get_or-set_same}
use Rattle.std.specs.Prelude.{slice_get}
use Rattle.std.proofs.lemmas.Bool.{cases_Bool}
use Rattle.std.proofs.lemmas.Option.{get_or_from_slice_get, slice_get_within}
use Rattle.brc_model.specs.declared.actor.Status.TheVariants.{Gone}
use Rattle.brc_model.specs.declared.address.Address.{Address}
use Rattle.brc_model.specs.declared.duty.Duty.{Duty}
use Rattle.brc_model.specs.declared.duty.Duty.TheVariants.{Settle, Scan, TakeFound, LockGate}
use Rattle.brc_model.specs.declared.layout.Layout.{Layout}
use Rattle.brc_model.specs.declared.state.Exit.{Exit}
use Rattle.brc_model.specs.Actions.{StepActor, Action, Does, always}
use Rattle.brc_model.specs.Dispatch.{agenda_action, status_action}
use Rattle.brc_model.specs.Duties.{ready}
use Rattle.brc_model.specs.World.{World, step, finds_locked, waits_for_lock}
use Rattle.brc_world.specs.Actors.{actor_by, waits}
use Rattle.brc_world.proofs.Acting.{alive_action}
use Rattle.brc_world.specs.Worlds.{choice_of}
use Rattle.brc_world.proofs.Stepping.{going_on}

-- Skipping duties makes an agenda no longer.
ready_length : (head : ℕ) (agenda : List Duty) → length (ready head agenda) ≤ length agenda
ready_length zero [] = omega arith
ready_length (suc head) [] = omega arith
ready_length zero (Settle ∷ rest) = omega (arith, ready_length zero rest)
ready_length zero (Scan w zero ∷ rest) = omega (arith, ready_length zero rest)
ready_length (suc head) (Scan w zero ∷ rest) = omega (arith, ready_length (suc head) rest)
ready_length zero (TakeFound w zero ∷ rest) = omega (arith, ready_length zero rest)
ready_length (suc head) (TakeFound w zero ∷ rest) = omega (arith, ready_length (suc head) rest)
ready_length zero (_ ∷ rest) = omega arith
ready_length (suc head) (_ ∷ rest) = omega arith

-- A thread whose agenda begins with a lock is another one after the lock's step: its agenda is shorter.
lock_leaves : (layout : Layout) (t : ℕ) (memory : Address → ℕ) (a : StepActor) (exit : Exit) (d : Duty)
    (rest : List Duty)
    → a.actor.agenda ≡ d ∷ rest → finds_locked memory (Does d rest (always a.place)) ≡ true
    → actor_by layout t memory a exit (Does d rest (always a.place)) ≢ a
lock_leaves layout t memory a exit (LockGate x) rest at locked e =
    let shorter : ready a.actor.head rest ≡ LockGate x ∷ rest = ap (λ (b : StepActor). b.actor.agenda) e ∙ at in
    omega (arith, ready_length a.actor.head rest, ap length shorter)
lock_leaves layout t memory a exit d rest at locked e = absurd cc

-- If the world is the same after a step, so is the thread.
same_thread : (w : World) (t : ℕ) (a : StepActor) (exit : Exit) → slice_get w.actors t ≡ Some a
    → step w t (choice_of exit) ≡ w
    → actor_by w.layout t w.memory a exit (status_action w.functions w.layout t a a.actor.status) ≡ a
same_thread w t a exit found same =
    let b = actor_by w.layout t w.memory a exit (status_action w.functions w.layout t a a.actor.status) in
    sym (get_or-set_same w.actors t b a (slice_get_within w.actors t a found))
    ∙ ap (λ (v : World). get_or v.actors t a) (sym (going_on w t a exit found) ∙ same)
    ∙ get_or_from_slice_get w.actors t a a found

-- ---- which steps change the world

-- Only a thread whose next step would lock a locked object waits.
pub waits_locked : (memory : Address → ℕ) (agenda : List Duty) (x : Action) → waits memory agenda x ≡ true
    → finds_locked memory x ≡ true
waits_locked memory [] x waiting = waiting
waits_locked memory (d ∷ rest) x waiting = absurd cc

-- the next step of a thread with this agenda changes the world, though it would lock a locked object
lock_in_agenda : (w : World) (t : ℕ) (a : StepActor) (exit : Exit) (agenda : List Duty)
    → slice_get w.actors t ≡ Some a
    → a.actor.status ≢ Gone → a.actor.agenda ≡ agenda → waits_for_lock w t a ≡ true
    → waits w.memory agenda (status_action w.functions w.layout t a a.actor.status) ≡ false
    → step w t (choice_of exit) ≢ w
lock_in_agenda w t a exit [] found alive at locked quiet same =
    let wrong : true ≡ false = sym locked ∙ quiet in absurd cc
lock_in_agenda w t a exit (d ∷ rest) found alive at locked quiet same =
    let is : status_action w.functions w.layout t a a.actor.status ≡ Does d rest (always a.place) =
    sym (alive_action w.functions w.layout t a a.actor.status alive) ∙ ap (agenda_action w.functions w.layout t a) at in
    lock_leaves w.layout t w.memory a exit d rest at (ap (finds_locked w.memory) (sym is) ∙ locked)
    (ap (actor_by w.layout t w.memory a exit) (sym is) ∙ same_thread w t a exit found same)

-- A thread that isn't gone and doesn't wait changes the world.
pub moves_unless_waiting : (w : World) (t : ℕ) (a : StepActor) (exit : Exit) → slice_get w.actors t ≡ Some a
    → (waits_for_lock w t a ≡ false → step w t (choice_of exit) ≢ w) → a.actor.status ≢ Gone
    → waits w.memory a.actor.agenda (status_action w.functions w.layout t a a.actor.status) ≡ false
    → step w t (choice_of exit) ≢ w
moves_unless_waiting w t a exit found moves alive quiet =
    elim (cases_Bool (waits_for_lock w t a)) [
      | inl locked ↦ lock_in_agenda w t a exit a.actor.agenda found alive refl locked quiet
      | inr free ↦ moves free
    ]
