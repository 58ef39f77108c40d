-- After its own step too, a thread holds the list that it has locked, and the list's gate names the thread.
use Rattle.std.proofs.Common.{◌≡◌, ℕ, ◌+◌, ◌-◌, ◌≤◌, Bool, true, false, cond, List, [], ◌∷◌, ◌++◌, None, Some, refl, sym, ap, ◌∙◌, subst, arith, ◌<◌}
use Rattle.std.specs.Prelude.{◌==◌, sum_by, count_by}
use Rattle.std.proofs.lemmas.Bool.{eq-eqb, eqb-true}
use Rattle.std.proofs.lemmas.List.Sums.{sum_by-cons, sum_by-append}
use Rattle.brc_word.specs.Words.{free_word, locked_word}
use Rattle.brc_model.specs.declared.duty.Holding.{Holding}
use Rattle.brc_model.specs.declared.duty.Holding.TheVariants.{InFlight}
use Rattle.brc_model.specs.declared.duty.Duty.{Duty}
use Rattle.brc_model.specs.declared.duty.Duty.TheVariants.{ReleaseLoad, Die, Settle, SettleCell, SettleEnd, Leave, Scan, TakeFound, Finish, LockGate, UnlockGate}
use Rattle.brc_model.specs.declared.address.Address.TheVariants.{Gate}
use Rattle.brc_model.specs.declared.actor.Status.{Status}
use Rattle.brc_model.specs.declared.actor.Status.TheVariants.{Running, Leaving, Gone}
use Rattle.brc_model.specs.declared.layout.Layout.{Layout}
use Rattle.brc_model.specs.Duties.{address_of, new_head}
use Rattle.brc_model.specs.declared.actor.Actor.{Actor}
use Rattle.brc_model.specs.Machine.{Machine, is_running, actor_by, machine_by_duty, is_locking}
use Rattle.brc_model.specs.References.{held, one_if, reference_of}
use Rattle.brc_model.specs.Accounts.{Accounts, lacks, HoldsAt}
use Rattle.brc_model.specs.OpenWork.{is_about, about_of, Later, Agenda, AgendaFits}
use Rattle.brc_model.specs.Gates.{making, HasLocked, LocksFit}
use Rattle.brc_model.specs.Knowledge.{IsBacked, ByReference, ByItem}
use Rattle.brc_model.specs.Invariant.{AtDuty}
use Rattle.brc_model.proofs.Basics.Lists.{some_is, none_some}
use Rattle.brc_model.proofs.Basics.Written.{written_here, written_apart, written_load, apart_gate}
use Rattle.brc_model.proofs.Basics.Continuation.{Traits, Continuation, GoesOn, Frees, FreesOld, continues}
use Rattle.brc_model.proofs.Objects.Weights.{IsLight, sum_by-ready}
use Rattle.brc_model.proofs.Frame.Aside.{lacks_counted, extra_counted, gives_counted, lacks_about}
use Rattle.brc_model.proofs.Frame.Leaves.{head_of, locked_lives, live_apart}
use Rattle.brc_model.proofs.Frame.Lives.{next_of}

-- ---- the references that duties make

-- 1 if the duty makes the reference, else 0.
abbrev makes : Holding → ℕ → Duty → ℕ
makes k x d = one_if (lacks d k x)

makes_light : (k : Holding) (x : ℕ) → IsLight (makes k x)
makes_light k x = record { settle = refl; scan = λ w n. refl; take = λ w n. refl }

-- The duties that follow a duty make no more references than it does.
next_makes : {layout : Layout} {t head found : ℕ} (d : Duty) (next : List Duty) (k : Holding) (x : ℕ)
    → Continuation layout t head found d next → sum_by (makes k x) next ≤ makes k x d
next_makes d next k x (GoesOn e leads) =
    let same : makes k x e ≡ makes k x d = ap (λ (s : Traits). one_if (s.makes k x)) leads.same in
    omega (arith, sum_by-cons (makes k x) e [], same)
next_makes d next k x (Frees y i n z e some leads) =
    let same : makes k x e ≡ 0 = ap (λ (s : Traits). one_if (s.makes k x)) leads.same in
    omega (arith, sum_by-cons (makes k x) (ReleaseLoad z InFlight) (e ∷ []), sum_by-cons (makes k x) e [], same)
next_makes d next k x (FreesOld y i w z h some) =
    omega (arith, sum_by-cons (makes k x) (ReleaseLoad z InFlight) [])
next_makes d next k x _ = omega arith

-- A step's thread makes no more references afterwards.
makes_less : (m : Machine) (t : ℕ) (a : Actor) (d : Duty) (rest : List Duty) (k : Holding) (x found : ℕ)
    → a.agenda ≡ d ∷ rest → m.memory (address_of m.layout t a.head d) ≡ found
    → making (actor_by m.layout t a d rest found) k x ≤ making a k x
makes_less m t a d rest k x found is word =
    let next = next_of m t a d in
    let old : sum_by (makes k x) a.agenda ≡ makes k x d + sum_by (makes k x) rest =
    ap (sum_by (makes k x)) is ∙ sum_by-cons (makes k x) d rest in
    let after = actor_by m.layout t a d rest found in
    let now : sum_by (makes k x) after.agenda ≡ sum_by (makes k x) next + sum_by (makes k x) rest =
    ap (λ (w : ℕ). sum_by (makes k x) (actor_by m.layout t a d rest w).agenda) (sym word)
    ∙ sum_by-ready (makes k x) (makes_light k x)
    (new_head a.head d (m.memory (address_of m.layout t a.head d))) (next ++ rest)
    ∙ sum_by-append (makes k x) next rest in
    let less =
    next_makes d next k x
    (continues m.layout t (is_running a.status) a.head d (m.memory (address_of m.layout t a.head d))) in
    omega (arith, old, now, less)

-- What is for later makes no reference.
later_makes : (used : ℕ) (status : Status) (rest : List Duty) (k : Holding) (x : ℕ) → Later used status rest
    → sum_by (makes k x) rest ≡ 0
later_makes used status [] k x later = refl
later_makes used status (Settle ∷ rest) k x later =
    omega (arith, sum_by-cons (makes k x) Settle rest, later_makes used status rest k x later)
later_makes used status (SettleCell y i n ∷ rest) k x later =
    omega (arith, sum_by-cons (makes k x) (SettleCell y i n) rest, later_makes used status rest k x later)
later_makes used status (SettleEnd y ∷ rest) k x later =
    omega (arith, sum_by-cons (makes k x) (SettleEnd y) rest, later_makes used status rest k x later)
later_makes used status (Leave i n ∷ []) k x later = omega (arith, sum_by-cons (makes k x) (Leave i n) [])
later_makes used status (Scan i n ∷ rest) k x later =
    omega (arith, sum_by-cons (makes k x) (Scan i n) rest, later_makes used status rest k x later.2)
later_makes used status (TakeFound w marks ∷ rest) k x later =
    omega (arith, sum_by-cons (makes k x) (TakeFound w marks) rest, later_makes used status rest k x later.2)
later_makes used status (Finish ∷ []) k x later = omega (arith, sum_by-cons (makes k x) Finish [])
later_makes used status _ k x later = absurd later

agenda_makes : (used : ℕ) (status : Status) (d : Duty) (rest : List Duty) (k : Holding) (x : ℕ)
    → Agenda used status (d ∷ rest) → sum_by (makes k x) rest ≡ 0
agenda_makes used status Settle rest k x fits = later_makes used status rest k x fits
agenda_makes used status (Leave i n) [] k x fits = refl
agenda_makes used status (Leave i n) (e ∷ rest) k x fits = absurd fits
agenda_makes used status (Scan i n) rest k x fits = later_makes used status rest k x fits.2
agenda_makes used status (TakeFound w marks) rest k x fits = later_makes used status rest k x fits.2
agenda_makes used status Finish [] k x fits = refl
agenda_makes used status Finish (e ∷ rest) k x fits = absurd fits
agenda_makes used status _ rest k x fits = later_makes used status rest k x fits

-- No duty after an agenda's first makes a reference.
behind_makes : (a : Actor) (status : Status) (d : Duty) (rest : List Duty) (k : Holding) (x : ℕ) → a.agenda ≡ d ∷ rest
    → AgendaFits a status → sum_by (makes k x) rest ≡ 0
behind_makes a Gone d rest k x is fits = absurd (let wrong : [] ≡ d ∷ rest = sym fits.0 ∙ is in cc)
behind_makes a Running d rest k x is fits =
    agenda_makes a.used Running d rest k x (subst (λ (l : List Duty). Agenda a.used Running l) is fits)
behind_makes a Leaving d rest k x is fits =
    agenda_makes a.used Leaving d rest k x (subst (λ (l : List Duty). Agenda a.used Leaving l) is fits)

making_of : (a : Actor) (agenda : List Duty) (k : Holding) (x : ℕ) → a.agenda ≡ agenda → AgendaFits a a.status
    → one_if (about_of x agenda) + count_by (is_about x) a.aside ≡ 0 → making a k x ≡ 0
making_of a [] k x is fits none =
    let agenda : sum_by (makes k x) a.agenda ≡ 0 = ap (sum_by (makes k x)) is in
    omega (arith, agenda, lacks_counted a.aside k x, none)
making_of a (d ∷ rest) k x is fits none =
    let agenda : sum_by (makes k x) a.agenda ≡ makes k x d + sum_by (makes k x) rest =
    ap (sum_by (makes k x)) is ∙ sum_by-cons (makes k x) d rest in
    omega (
      arith,
      agenda,
      lacks_about d k x,
      behind_makes a a.status d rest k x is fits,
      lacks_counted a.aside k x,
      none,
    )

-- A thread none of whose open work is about an object makes no reference to it.
pub making_none : (a : Actor) (k : Holding) (x : ℕ) → AgendaFits a a.status
    → one_if (about_of x a.agenda) + count_by (is_about x) a.aside ≡ 0 → making a k x ≡ 0
making_none a k x fits none = making_of a a.agenda k x refl fits none

-- ---- a lock that is taken

-- A reference of the thread to an object.
record IsHeld (m : Machine) (t x : ℕ) : Type 0 where
  by : Holding
  held_so : 0 < held (reference_of t by x) m.abstract.references

-- A thread that is about to lock a list holds a reference to it: it has locked no other list, whose item it could be.
lock_held : (m : Machine) (t : ℕ) (a : Actor) (x : ℕ) → a.locked ≡ None → IsBacked m t a x → IsHeld m t x
lock_held m t a x unlocked (ByReference by some) = record { by = by; held_so = some }
lock_held m t a x unlocked (ByItem list i e word) = absurd (none_some list (sym unlocked ∙ e))

module _ {p : Accounts} {n : ℕ} {m : Machine} {t : ℕ} {a : Actor} {rest : List Duty} where
  backed_so : (x : ℕ) → AtDuty p n m t a (LockGate x) rest → (backed : IsHeld m t x)
      → sum_by (makes backed.by x) rest ≡ 0 → making a backed.by x < p t backed.by x
  backed_so x here backed none =
      let fits = here.core.each t a here.found in
      let k = backed.by in
      let holds : HoldsAt m.abstract.references t (p t) (LockGate x ∷ rest) a.aside =
      subst (λ (l : List Duty). HoldsAt m.abstract.references t (p t) l a.aside) here.agenda fits.0.holds in
      let about : one_if (about_of x a.agenda) ≡ 1 =
      ap (λ (l : List Duty). one_if (about_of x l)) here.agenda ∙ ap one_if (eq-eqb x x refl) in
      let agenda : sum_by (makes k x) a.agenda ≡ 0 + sum_by (makes k x) rest =
      ap (sum_by (makes k x)) here.agenda ∙ sum_by-cons (makes k x) (LockGate x) rest in
      omega (
        arith,
        holds.each k x,
        backed.held_so,
        about,
        fits.2.apart x,
        lacks_counted a.aside k x,
        extra_counted a.aside k x,
        gives_counted m t a a.aside x fits.2.waits,
        agenda,
        none,
      )

  -- The account of a thread that locks has the reference that backs the lock: none of the thread's work makes a
  -- reference to the list or gives one up.
  backed_account : (x : ℕ) → AtDuty p n m t a (LockGate x) rest → (backed : IsHeld m t x)
      → making a backed.by x < p t backed.by x
  backed_account x here backed =
      backed_so x here backed
      (behind_makes a a.status (LockGate x) rest backed.by x here.agenda (here.core.each t a here.found).1)

  -- The thread still holds the list after `Locks`.
  lock_taken : (x : ℕ) → AtDuty p n m t a (LockGate x) rest → m.memory (Gate x) ≡ free_word
      → HasLocked (p t) (machine_by_duty m t a (LockGate x) rest).memory t
      (actor_by m.layout t a (LockGate x) rest (m.memory (Gate x))) x
  lock_taken x here free =
      let fits = head_of here in
      let holds = lock_held m t a x fits.1 fits.0 in
      let less = makes_less m t a (LockGate x) rest holds.by x (m.memory (Gate x)) here.agenda refl in
      let had = backed_account x here holds in
      let word : cond (m.memory (Gate x) == free_word) (locked_word t) (m.memory (Gate x)) ≡ locked_word t =
      ap (λ (b : Bool). cond b (locked_word t) (m.memory (Gate x))) (eq-eqb (m.memory (Gate x)) free_word free) in
      record {
        by = holds.by;
        held_so = omega (arith, less, had);
        gate = written_here m.memory (Gate x) _ ∙ word;
      }

  -- ---- a lock that was taken before

  -- A thread's step doesn't change the gate of the list that it has locked.
  gate_kept : (d : Duty) (x : ℕ) → AtDuty p n m t a d rest → a.locked ≡ Some x → is_locking d ≡ false
      → (machine_by_duty m t a d rest).memory (Gate x) ≡ m.memory (Gate x)
  gate_kept (Die y) x here e other =
      written_apart m.memory (Gate y) (Gate x) _
      (apart_gate y x (live_apart m t x y (head_of here).1 (locked_lives t a x here.core here.found e)))
  gate_kept Settle x here e other = written_load m.memory (Gate (a.head - 1)) (Gate x)
  gate_kept (SettleEnd y) x here e other =
      written_apart m.memory (Gate y) (Gate x) _
      (apart_gate y x (live_apart m t x y (head_of here).1 (locked_lives t a x here.core here.found e)))
  gate_kept _ x here e other = cc

module _ {p : Accounts} {n : ℕ} {m : Machine} {t : ℕ} {a : Actor} {d : Duty} {rest : List Duty} where
  -- The thread still holds the list after a step that neither locks nor unlocks.
  still_locked : AtDuty p n m t a d rest → is_locking d ≡ false → (x : ℕ) → a.locked ≡ Some x
      → HasLocked (p t) (machine_by_duty m t a d rest).memory t
      (actor_by m.layout t a d rest (m.memory (address_of m.layout t a.head d))) x
  still_locked here other x e =
      let it = (here.core.each t a here.found).0.locks x e in
      let less = makes_less m t a d rest it.by x (m.memory (address_of m.layout t a.head d)) here.agenda refl in
      record {
        by = it.by;
        held_so = omega (arith, less, it.held_so);
        gate = gate_kept d x here e other ∙ it.gate;
      }

-- ---- any step

module _ {p : Accounts} {n : ℕ} {m : Machine} {t : ℕ} {a : Actor} {rest : List Duty} where
  -- After its step a thread holds the list that it has locked, and the gate names the thread.
  pub locks_after : (d : Duty) → AtDuty p n m t a d rest
      → LocksFit (p t) (machine_by_duty m t a d rest) t
      (actor_by m.layout t a d rest (m.memory (address_of m.layout t a.head d)))
  locks_after (LockGate y) here x e =
      let none : a.locked ≡ None = (head_of here).1 in
      let found = m.memory (Gate y) in
      let after = actor_by m.layout t a (LockGate y) rest found in
      elim (found == free_word) as (λ b. (found == free_word) ≡ b → cond b (Some y) a.locked ≡ Some x
      → HasLocked (p t) (machine_by_duty m t a (LockGate y) rest).memory t after x) [
        | true ↦ λ free is.
            subst (λ (z : ℕ). HasLocked (p t) (machine_by_duty m t a (LockGate y) rest).memory t after z)
            (some_is y x is) (lock_taken y here (eqb-true found free_word free))
        | false ↦ λ held is. absurd (none_some x (sym none ∙ is))
      ] refl e
  locks_after (UnlockGate y) here x e = absurd (none_some x e)
  locks_after d here x e = still_locked here refl x e
