-- What it is for a thread to fit, and that it fits after its step.
use Rattle.std.proofs.Common.{◌≡◌, ℕ, List, ◌∷◌, Option, None, refl, ap, ◌∙◌, subst, Some}
use Rattle.brc_model.specs.AbstractState.{Reference, moved}
use Rattle.brc_model.specs.declared.duty.Duty.{Duty}
use Rattle.brc_model.specs.declared.address.Address.{Address}
use Rattle.brc_model.specs.Duties.{address_of, new_word}
use Rattle.brc_model.specs.declared.actor.Status.{Status}
use Rattle.brc_model.specs.declared.actor.Status.TheVariants.{Running, Leaving, Gone}
use Rattle.brc_model.specs.declared.actor.Actor.{Actor}
use Rattle.brc_model.specs.Machine.{Dying, Closed, Machine, dies_next, ended_row, with_life, life_by, actor_by, machine_by_duty, written, born_row, used_by, Live}
use Rattle.brc_model.specs.Moves.{reference_effects}
use Rattle.brc_model.specs.Accounts.{Accounts}
use Rattle.brc_model.specs.OpenWork.{Agenda, AgendaFits}
use Rattle.brc_model.specs.Invariant.{AtDuty, ActorFits}
use Rattle.brc_model.proofs.Frame.Lives.{next_of}
use Rattle.brc_model.specs.declared.duty.Duty.TheVariants.{BirthLocal}

-- Everything that the invariant says of one thread, but for the duties that it has put aside.
pub record ThreadFits (p : Accounts) (m : Machine) (t : ℕ) (a : Actor) : Type 0 where
  pub actor : ActorFits (p t) m t a
  pub agenda : AgendaFits a a.status

abbrev pub found_by : Machine → ℕ → Actor → Duty → ℕ
found_by m t a d = m.memory (address_of m.layout t a.head d)

abbrev pub bag_by : Machine → ℕ → Actor → Duty → List Reference
bag_by m t a d = (moved m.abstract (reference_effects m.memory t d (found_by m t a d))).references

abbrev pub memory_by : Machine → ℕ → Actor → Duty → Address → ℕ
memory_by m t a d = written m.memory (address_of m.layout t a.head d) (new_word m.layout t a.head d (found_by m t a d))

-- What the lemmas `thread_after_*` conclude: the thread fits after its step.
abbrev pub FitsAfter : Accounts → Machine → ℕ → Actor → Duty → List Duty → Type 0
FitsAfter p m t a d rest =
    ThreadFits p (machine_by_duty m t a d rest) t (actor_by m.layout t a d rest (found_by m t a d))

-- The thread runs or is leaving.
abbrev pub NotGone : Actor → Type 0
NotGone a = a.status ≡ Gone → ⊥

-- ---- agendas and statuses

-- The agenda of a thread that isn't gone has the form of an agenda.
pub agenda_in : (a : Actor) (status : Status) → (status ≡ Gone → ⊥)
    → AgendaFits a status
    → Agenda a.used status a.agenda
agenda_in a Gone alive fits = absurd (alive refl)
agenda_in a Running alive fits = fits
agenda_in a Leaving alive fits = fits

-- An agenda of that form fits a thread that isn't gone.
pub agenda_out : (a : Actor) (status : Status) → (status ≡ Gone → ⊥)
    → Agenda a.used status a.agenda → AgendaFits a status
agenda_out a Gone alive fits = absurd (alive refl)
agenda_out a Running alive fits = fits
agenda_out a Leaving alive fits = fits

module _ {p : Accounts} {n : ℕ} {m : Machine} {t : ℕ} {a : Actor} {d : Duty} {rest : List Duty} where
  -- An agenda that begins with the duty has the form that the invariant gives it.
  pub agenda_here : AtDuty p n m t a d rest → NotGone a → Agenda a.used a.status (d ∷ rest)
  agenda_here here alive =
      subst (λ (l : List Duty). Agenda a.used a.status l) here.agenda
      (agenda_in a a.status alive (here.core.each t a here.found).1)

-- ---- rows

-- Only a birth raises the number of used rows.
pub uses_same : (used : ℕ) (d : Duty) → born_row d ≡ None → used_by used d ≡ used
uses_same used (BirthLocal x h) none = absurd (let wrong : Some x ≡ None = none in cc)
uses_same used _ none = refl

-- A step that makes no row die, closes none and gives birth to none changes no life.
pub life_same : (m : Machine) (t : ℕ) (a : Actor) (d : Duty) (next : List Duty) (x : ℕ) → next_of m t a d ≡ next
    → dies_next next ≡ None → ended_row d ≡ None → born_row d ≡ None → life_by m.life t d (next_of m t a d) x ≡ m.life x
life_same m t a d next x is dies ends born =
    ap (λ (o : Option ℕ). with_life (with_life (with_life m.life o (Dying t)) (ended_row d) Closed) (born_row d) Live
    x) (ap dies_next is ∙ dies) ∙ ap (λ (o : Option ℕ). with_life (with_life m.life o Closed) (born_row d) Live x)
    ends
    ∙ ap (λ (o : Option ℕ). with_life m.life o Live x) born
