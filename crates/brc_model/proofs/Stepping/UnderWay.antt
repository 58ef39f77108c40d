-- A step changes nothing about whether its thread's exit is under way.
use Rattle.std.proofs.Common.{◌≡◌, ℕ, zero, suc, Bool, true, false, List, [], ◌∷◌, ◌++◌, refl, sym, ap, ◌∙◌, subst}
use Rattle.brc_model.specs.declared.duty.Duty.{Duty}
use Rattle.brc_model.specs.declared.layout.Layout.{Layout}
use Rattle.brc_model.specs.declared.duty.Duty.TheVariants.{Settle, Leave, Scan, TakeFound, Finish}
use Rattle.brc_model.specs.Duties.{continuation, ready, new_head}
use Rattle.brc_model.specs.declared.actor.Status.{Status}
use Rattle.brc_model.specs.declared.actor.Status.TheVariants.{Running, Leaving, Gone}
use Rattle.brc_model.specs.declared.actor.Actor.{Actor}
use Rattle.brc_model.specs.Machine.{Machine, is_running, status_by, actor_by}
use Rattle.brc_model.specs.Accounts.{Accounts}
use Rattle.brc_model.specs.OpenWork.{Agenda, AgendaFits, has_leave, exits}
use Rattle.brc_model.specs.Invariant.{AtDuty}
use Rattle.brc_model.proofs.Basics.Continuation.{is_inner, next_inner, Continuation, GoesOn, Frees, continues}

-- ---- the duty to leave

plain_leave : (e : Duty) → is_inner e ≡ true → has_leave (e ∷ []) ≡ false
plain_leave (Leave i n) inner = absurd cc
plain_leave _ inner = refl

leave_behind : (l rest : List Duty) → has_leave l ≡ false → has_leave (l ++ rest) ≡ has_leave rest
leave_behind [] rest none = refl
leave_behind (Leave x k ∷ l) rest none = absurd cc
leave_behind (_ ∷ l) rest none = leave_behind l rest none

leave_ready : (head : ℕ) (l : List Duty) → has_leave (ready head l) ≡ has_leave l
leave_ready zero (Settle ∷ rest) = leave_ready zero rest
leave_ready zero (Scan x zero ∷ rest) = leave_ready zero rest
leave_ready (suc head) (Scan x zero ∷ rest) = leave_ready (suc head) rest
leave_ready zero (TakeFound w zero ∷ rest) = leave_ready zero rest
leave_ready (suc head) (TakeFound w zero ∷ rest) = leave_ready (suc head) rest
leave_ready _ _ = cc

-- No step is followed by the duty to leave.
next_leave : {layout : Layout} {t head found : ℕ} (d : Duty) (next : List Duty)
    → Continuation layout t head found d next → has_leave next ≡ false
next_leave d next (GoesOn e leads) = plain_leave e (next_inner e leads)
next_leave d next (Frees x i n y e some leads) = plain_leave e (next_inner e leads)
next_leave d next _ = refl

agenda_leave : (layout : Layout) (t : ℕ) (running : Bool) (head new found : ℕ) (d : Duty) (rest : List Duty)
    → has_leave (ready new (continuation layout t running head d found ++ rest)) ≡ has_leave rest
agenda_leave layout t running head new found d rest =
    leave_ready new (continuation layout t running head d found ++ rest)
    ∙ leave_behind (continuation layout t running head d found) rest
    (next_leave d _ (continues layout t running head d found))

-- ---- a step

-- Only a leaving thread says that it is gone.
finish_leaves : (used : ℕ) (status : Status) (rest : List Duty)
    → Agenda used status (Finish ∷ rest) → status ≡ Leaving
finish_leaves used status [] fits = fits
finish_leaves used status (e ∷ rest) fits = absurd fits

exits_by : (layout : Layout) (t : ℕ) (a : Actor) (status : Status) (new found : ℕ) (d : Duty) (rest : List Duty)
    → a.agenda ≡ d ∷ rest → AgendaFits a status
    → exits (status_by status d) (ready new (continuation layout t (is_running a.status) a.head d found ++ rest))
    ≡ exits status (d ∷ rest)
exits_by layout t a Running new found (Leave x k) rest is fits = refl
exits_by layout t a Running new found Finish rest is fits =
    let wrong : Running ≡ Leaving =
    finish_leaves a.used Running rest (subst (Agenda a.used Running) is fits) in
    absurd cc
exits_by layout t a Running new found d rest is fits =
    agenda_leave layout t (is_running a.status) a.head new found d rest
exits_by layout t a Leaving new found (Leave x k) rest is fits = refl
exits_by layout t a Leaving new found Finish rest is fits = refl
exits_by layout t a Leaving new found _ rest is fits = refl
exits_by layout t a Gone new found (Leave x k) rest is fits = refl
exits_by layout t a Gone new found Finish rest is fits = refl
exits_by layout t a Gone new found _ rest is fits = refl

module _ {p : Accounts} {n : ℕ} {m : Machine} {t : ℕ} {a : Actor} {d : Duty} {rest : List Duty} where
  -- The thread's exit is under way after its step exactly if it was under way before.
  pub exits_still : (found : ℕ) → AtDuty p n m t a d rest
      → exits (actor_by m.layout t a d rest found).status (actor_by m.layout t a d rest found).agenda ≡ exits a.status
      a.agenda
  exits_still found here =
      exits_by m.layout t a a.status (new_head a.head d found) found d rest here.agenda
      (here.core.each t a here.found).1
      ∙ ap (exits a.status) (sym here.agenda)
