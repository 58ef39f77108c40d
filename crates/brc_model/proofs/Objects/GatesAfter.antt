-- After each step too, the gate of an unborn row is free, that of a live row is free or names the thread that has
-- locked it, and the gate of a closed row says that it is closed.
use Rattle.std.proofs.Common.{◌≡◌, ℕ, ◌-◌, Bool, true, false, cond, List, inl, inr, None, Some, refl, sym, ap, ◌∙◌, subst}
use Rattle.std.specs.Prelude.{◌==◌}
use Rattle.std.proofs.lemmas.Bool.Decides.{eqb_tells}
use Rattle.std.proofs.lemmas.Option.{slice_get_within}
use Rattle.brc_word.specs.Words.{free_word, locked_word, dying_word, closed_word}
use Rattle.brc_model.specs.declared.duty.Duty.{Duty}
use Rattle.brc_model.specs.declared.duty.Duty.TheVariants.{Die, Settle, SettleEnd, LockGate, UnlockGate}
use Rattle.brc_model.specs.declared.address.Address.TheVariants.{Gate}
use Rattle.brc_model.specs.declared.actor.Actor.{Actor}
use Rattle.brc_model.specs.Machine.{Life, Unborn, Live, Dying, Closed, Machine, is_locking, ended_row, actor_by, machine_by_duty}
use Rattle.brc_model.proofs.Basics.Lists.{some_is, none_some, slice_get-set_same}
use Rattle.brc_model.proofs.Basics.Written.{written_here, written_apart, written_load, apart_gate}
use Rattle.brc_model.proofs.Frame.Alive.{backed_lives}
use Rattle.brc_model.proofs.Frame.Leaves.{head_of}
use Rattle.brc_model.proofs.Frame.Locks.{live_gate_kept, live_gate_others}
use Rattle.brc_model.proofs.Stepping.FitsAfter.{found_by, memory_by}
use Rattle.brc_model.proofs.Objects.Closing.{GoesOn, BeginsToDie, IsClosed, IsBorn, life_step}
use Rattle.brc_model.specs.Accounts.{Accounts}
use Rattle.brc_model.specs.Gates.{LiveGate, IsFree, IsLocked, GateFits}
use Rattle.brc_model.specs.Invariant.{AtDuty}

-- ---- gates in which the step doesn't store

module _ {p : Accounts} {n : ℕ} {m : Machine} {t : ℕ} {a : Actor} {rest : List Duty} where
  -- A thread that neither locks nor unlocks stores in the gate of a row only if it is finalising the row.
  gate_stays : (d : Duty) (x : ℕ) → AtDuty p n m t a d rest → (m.life x ≡ Dying t → ⊥) → is_locking d ≡ false
      → memory_by m t a d (Gate x) ≡ m.memory (Gate x)
  gate_stays (Die y) x here other plain =
      written_apart m.memory (Gate y) (Gate x) (dying_word t a.head)
      (apart_gate y x (λ e. other (ap m.life (sym e) ∙ (head_of here).1)))
  gate_stays Settle x here other plain = written_load m.memory (Gate (a.head - 1)) (Gate x)
  gate_stays (SettleEnd y) x here other plain =
      written_apart m.memory (Gate y) (Gate x) closed_word
      (apart_gate y x (λ e. other (ap m.life (sym e) ∙ (head_of here).1)))
  gate_stays _ x here other plain = cc

  -- A thread stores in the gate of a row only if it is finalising the row, or the row lives.
  dead_gate_stays : (d : Duty) (x : ℕ) → AtDuty p n m t a d rest → (m.life x ≡ Dying t → ⊥) → (m.life x ≡ Live → ⊥)
      → memory_by m t a d (Gate x) ≡ m.memory (Gate x)
  dead_gate_stays (LockGate y) x here other dead =
      written_apart m.memory (Gate y) (Gate x) _
      (apart_gate y x (λ e. dead (ap m.life (sym e) ∙ backed_lives t a y here.core (head_of here).0)))
  dead_gate_stays (UnlockGate y) x here other dead =
      written_apart m.memory (Gate y) (Gate x) _
      (apart_gate y x (λ e. dead (ap m.life (sym e) ∙ backed_lives t a y here.core (head_of here).0)))
  dead_gate_stays d x here other dead = gate_stays d x here other refl

ended_gate : (m : Machine) (t : ℕ) (a : Actor) (d : Duty) (x : ℕ) → ended_row d ≡ Some x
    → memory_by m t a d (Gate x) ≡ closed_word
ended_gate m t a (SettleEnd y) x ended =
    subst (λ (z : ℕ). memory_by m t a (SettleEnd y) (Gate z) ≡ closed_word) (some_is y x ended)
    (written_here m.memory (Gate y) closed_word)
ended_gate m t a _ x ended = absurd (let wrong : None ≡ Some x = ended in cc)

-- ---- gates of live rows

module _ {p : Accounts} {n : ℕ} {m : Machine} {t : ℕ} {a : Actor} {rest : List Duty} where
  -- The gate of the row that the thread tries to lock.
  lock_tried : (x : ℕ) → AtDuty p n m t a (LockGate x) rest → LiveGate m.actors x (m.memory (Gate x))
      → LiveGate (machine_by_duty m t a (LockGate x) rest).actors x (memory_by m t a (LockGate x) (Gate x))
  lock_tried x here live =
      let none : a.locked ≡ None = (head_of here).1 in
      let found = m.memory (Gate x) in
      let after = actor_by m.layout t a (LockGate x) rest found in
      let new = (machine_by_duty m t a (LockGate x) rest).actors in
      elim (found == free_word)
      as (λ b. (found == free_word) ≡ b → LiveGate new x (memory_by m t a (LockGate x) (Gate x))) [
        | true ↦ λ free.
            let word : memory_by m t a (LockGate x) (Gate x) ≡ locked_word t =
            written_here m.memory (Gate x) _ ∙ ap (λ (b : Bool). cond b (locked_word t) found) free in
            IsLocked t after (slice_get-set_same m.actors t after (slice_get_within m.actors t a here.found))
            (ap (λ (b : Bool). cond b (Some x) a.locked) free) word
        | false ↦ λ held.
            let word : memory_by m t a (LockGate x) (Gate x) ≡ found =
            written_here m.memory (Gate x) _ ∙ ap (λ (b : Bool). cond b (locked_word t) found) held in
            subst (LiveGate new x) (sym word)
            (live_gate_others m.actors t a after here.found x found (λ e. none_some x (sym none ∙ e)) live)
      ] refl

  -- A live row's gate still fits.
  live_gate_after : (d : Duty) (x : ℕ) → AtDuty p n m t a d rest → m.life x ≡ Live
      → LiveGate m.actors x (m.memory (Gate x)) → LiveGate (machine_by_duty m t a d rest).actors x
      (memory_by m t a d (Gate x))
  live_gate_after (LockGate y) x here lives live =
      let none : a.locked ≡ None = (head_of here).1 in
      let after = actor_by m.layout t a (LockGate y) rest (m.memory (Gate y)) in
      let new = (machine_by_duty m t a (LockGate y) rest).actors in
      elim (eqb_tells y x) [
        | inl same ↦
            let there : LiveGate m.actors y (m.memory (Gate y)) =
            subst (λ (z : ℕ). LiveGate m.actors z (m.memory (Gate z))) (sym same.1) live in
            subst (λ (z : ℕ). LiveGate new z (memory_by m t a (LockGate y) (Gate z))) same.1 (lock_tried y here there)
        | inr other ↦
            subst (LiveGate new x) (sym (written_apart m.memory (Gate y) (Gate x) _ (apart_gate y x other.1)))
            (live_gate_others m.actors t a after here.found x (m.memory (Gate x)) (λ e. none_some x (sym none ∙ e))
            live)
      ]
  live_gate_after (UnlockGate y) x here lives live =
      let mine : a.locked ≡ Some y = (head_of here).1 in
      let after = actor_by m.layout t a (UnlockGate y) rest (m.memory (Gate y)) in
      let new = (machine_by_duty m t a (UnlockGate y) rest).actors in
      elim (eqb_tells y x) [
        | inl same ↦ IsFree (ap (λ (b : Bool). cond b free_word (m.memory (Gate x))) same.0)
        | inr other ↦
            subst (LiveGate new x) (sym (written_apart m.memory (Gate y) (Gate x) _ (apart_gate y x other.1)))
            (live_gate_others m.actors t a after here.found x (m.memory (Gate x))
            (λ e. other.1 (some_is y x (sym mine ∙ e))) live)
      ]
  live_gate_after d x here lives live =
      let stays = gate_stays d x here (λ e. let wrong : Live ≡ Dying t = sym lives ∙ e in cc) refl in
      subst (LiveGate (machine_by_duty m t a d rest).actors x) (sym stays)
      (live_gate_kept m.actors t a (actor_by m.layout t a d rest (found_by m t a d)) here.found x (m.memory (Gate x))
      refl live)

-- ---- all gates

module _ {p : Accounts} {n : ℕ} {m : Machine} {t : ℕ} {a : Actor} {d : Duty} {rest : List Duty} where
  -- The gate still fits a row whose life doesn't change.
  gate_goes_on : (x : ℕ) (l : Life) → AtDuty p n m t a d rest → m.life x ≡ l → GateFits m.actors x l (m.memory (Gate x))
      → GateFits (machine_by_duty m t a d rest).actors x l (memory_by m t a d (Gate x))
  gate_goes_on x Unborn here is fits =
      dead_gate_stays d x here (λ e. let wrong : Unborn ≡ Dying t = sym is ∙ e in cc)
      (λ e. let wrong : Unborn ≡ Live = sym is ∙ e in cc) ∙ fits
  gate_goes_on x Live here is fits = live_gate_after d x here is fits
  gate_goes_on x (Dying u) here is fits = tt
  gate_goes_on x Closed here is fits =
      dead_gate_stays d x here (λ e. let wrong : Closed ≡ Dying t = sym is ∙ e in cc)
      (λ e. let wrong : Closed ≡ Live = sym is ∙ e in cc) ∙ fits

  -- After a thread's step each gate fits its row's life.
  pub gates_after : AtDuty p n m t a d rest → (x : ℕ)
      → GateFits (machine_by_duty m t a d rest).actors x ((machine_by_duty m t a d rest).life x)
      (memory_by m t a d (Gate x))
  gates_after here x =
      let Fits : Life → Type 0 = λ l. GateFits (machine_by_duty m t a d rest).actors x l (memory_by m t a d (Gate x)) in
      elim (life_step d x here) [
        | GoesOn now other ↦ subst Fits (sym now) (gate_goes_on x (m.life x) here refl (here.core.gates x))
        | BeginsToDie now alive positive none ↦ subst Fits (sym now) tt
        | IsClosed now dying positive ended ↦ subst Fits (sym now) (ended_gate m t a d x ended)
        | IsBorn now unborn above born none ↦
            subst Fits (sym now) (IsFree (gate_goes_on x Unborn here unborn
            (subst (λ (l : Life). GateFits m.actors x l (m.memory (Gate x))) unborn (here.core.gates x))))
      ]
