-- A thread fits after a step that changes the head of its chain, the life of a row or the thread's status.
use Rattle.std.proofs.Common.{◌≡◌, ℕ, List, ◌∷◌, None, refl, sym, ap, ◌∙◌, subst}
use Rattle.brc_model.specs.declared.duty.Duty.{Duty}
use Rattle.brc_model.specs.declared.address.Address.TheVariants.{ThreadWord}
use Rattle.brc_model.specs.Duties.{new_head}
use Rattle.brc_model.specs.declared.actor.Status.{Status}
use Rattle.brc_model.specs.declared.actor.Status.TheVariants.{Gone}
use Rattle.brc_model.specs.declared.actor.Actor.{Actor}
use Rattle.brc_model.specs.Machine.{Machine, status_by, actor_by, machine_by_duty, born_row, used_by, locked_by}
use Rattle.brc_model.specs.Accounts.{Accounts, HoldsAt}
use Rattle.brc_model.specs.Knowledge.{HeadOf, status_word}
use Rattle.brc_model.specs.OpenWork.{Agenda, ChainFits, AgendaFits}
use Rattle.brc_model.proofs.Stepping.Behind.{behind_after}
use Rattle.brc_model.proofs.Stepping.UnderWay.{exits_still}
use Rattle.brc_model.proofs.Stepping.Locked.{locks_after}
use Rattle.brc_model.proofs.Stepping.Lending.{lent_after}
use Rattle.brc_model.proofs.Stepping.Own.{HeldStep, holds_step}
use Rattle.brc_model.proofs.Stepping.FitsAfter.{found_by, bag_by, memory_by, agenda_out, uses_same, FitsAfter}
use Rattle.brc_model.specs.Invariant.{AtDuty}

-- What a step has to show that changes the head of the chain, the life of a row or the thread's status.
pub record ShownStep (m : Machine) (t : ℕ) (a : Actor) (d : Duty) (rest agenda : List Duty) (status : Status)
    (head : ℕ) : Type 0 where
  pub head_is : new_head a.head d (found_by m t a d) ≡ head
  pub status_is : status_by a.status d ≡ status
  pub agenda_is : (actor_by m.layout t a d rest (found_by m t a d)).agenda ≡ agenda
  pub word : memory_by m t a d (ThreadWord t) ≡ status_word status
  pub held : HeldStep m.abstract.references (bag_by m t a d) t (d ∷ rest) agenda
  pub chain : ChainFits (machine_by_duty m t a d rest) t head agenda
  pub fits : AgendaFits (actor_by m.layout t a d rest (found_by m t a d)) status
  pub knows : (b : Actor) → b.status ≡ status → b.head ≡ head → b.used ≡ used_by a.used d
      → b.locked ≡ locked_by a.locked d (found_by m t a d) → HeadOf (machine_by_duty m t a d rest) t b agenda

module _ {p : Accounts} {n : ℕ} {m : Machine} {t : ℕ} {a : Actor} {d : Duty} {rest : List Duty} where
  -- The thread fits after a step that shows all this.
  pub own_shown : (agenda : List Duty) (status : Status) (head : ℕ) → AtDuty p n m t a d rest
      → ShownStep m t a d rest agenda status head → FitsAfter p m t a d rest
  own_shown agenda status head here step =
      let old = (here.core.each t a here.found).0 in
      let new = machine_by_duty m t a d rest in
      let after = actor_by m.layout t a d rest (found_by m t a d) in
      let holds : HoldsAt new.abstract.references t (p t) agenda a.aside =
      holds_step m.abstract.references new.abstract.references t (p t) (d ∷ rest) agenda a.aside step.held
      (subst (λ (l : List Duty). HoldsAt m.abstract.references t (p t) l a.aside) here.agenda old.holds) in
      record {
        actor = record {
          word = step.word ∙ ap status_word (sym step.status_is);
          holds = subst (λ (l : List Duty). HoldsAt new.abstract.references t (p t) l a.aside) (sym step.agenda_is)
              holds;
          bounded = old.bounded;
          exited = λ e. old.exited (sym (exits_still (found_by m t a d) here) ∙ e);
          head_fits =
              subst (λ (l : List Duty). HeadOf new t after l) (sym step.agenda_is)
              (step.knows after step.status_is step.head_is refl refl);
          behind = behind_after here;
          chain =
              subst (λ (l : List Duty). ChainFits new t after.head l) (sym step.agenda_is)
              (subst (λ (h : ℕ). ChainFits new t h agenda) (sym step.head_is) step.chain);
          locks = locks_after d here;
          lent = lent_after d here;
        };
        agenda = subst (λ (s : Status). AgendaFits after s) (sym step.status_is) step.fits;
      }

-- The agenda after the step fits a thread that isn't gone.
pub agenda_shown : (m : Machine) (t : ℕ) (a : Actor) (d : Duty) (rest agenda : List Duty) (status : Status)
    → (status ≡ Gone → ⊥) → born_row d ≡ None → (actor_by m.layout t a d rest (found_by m t a d)).agenda ≡ agenda
    → Agenda a.used status agenda
    → AgendaFits (actor_by m.layout t a d rest (found_by m t a d)) status
agenda_shown m t a d rest agenda status alive born is fits =
    agenda_out (actor_by m.layout t a d rest (found_by m t a d)) status alive
    (subst (λ (u : ℕ). Agenda u status (actor_by m.layout t a d rest (found_by m t a d)).agenda)
    (sym (uses_same a.used d born))
    (subst (λ (l : List Duty). Agenda a.used status l) (sym is) fits))
