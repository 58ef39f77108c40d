-- A thread at rest takes up duties, and the core invariant holds with its new agenda.
use Rattle.std.proofs.Common.{◌≡◌, ℕ, true, List, [], ◌∷◌, Some, refl, sym, ap, ◌∙◌, subst, arith, false}
use Rattle.std.specs.Prelude.{slice_get, slice_set, sum_by}
use Rattle.std.proofs.lemmas.Bool.{false≢true}
use Rattle.std.proofs.lemmas.List.{set-set}
use Rattle.brc_model.specs.declared.duty.Duty.{Duty}
use Rattle.brc_model.specs.Duties.{address_of}
use Rattle.brc_model.specs.declared.actor.Status.{Status}
use Rattle.brc_model.specs.declared.actor.Status.TheVariants.{Running}
use Rattle.brc_model.specs.declared.actor.Actor.{Actor}
use Rattle.brc_model.specs.Machine.{Machine, with_actor, actor_by, machine_by_duty}
use Rattle.brc_model.specs.RowInvariant.{waits, carries, merges, decides, agenda_weight, weight}
use Rattle.brc_model.specs.Accounts.{Account, Accounts, HoldsAt, HoldsNone, IsBounded}
use Rattle.brc_model.specs.OpenWork.{AsideFits, Agenda, exits, scans, finalised, AgendaFits}
use Rattle.brc_model.specs.Gates.{LocksFit}
use Rattle.brc_model.specs.Invariant.{Fits, looks, CoreInvariant, BlankFits}
use Rattle.brc_model.specs.Knowledge.{HeadOf, BehindOf}
use Rattle.brc_model.proofs.Objects.Weights.{weight-set}
use Rattle.brc_model.proofs.Objects.Finalisers.{list_weight}
use Rattle.brc_model.specs.Counting.{with_account}
use Rattle.brc_model.proofs.Keeping.Replaced.{replaced_core}
use Rattle.brc_model.proofs.Keeping.Weightless.{weighs_any, weightless}
use Rattle.std.specs.List.{list_any}

-- The thread with another agenda.
abbrev pub sitting : Actor → List Duty → Actor
sitting a agenda = record a { agenda = agenda }

-- What a thread has to show to take up work, with its account from then on.
pub record Sits (m : Machine) (t : ℕ) (a : Actor) (agenda : List Duty) (account : Account) : Type 0 where
  pub holds : HoldsAt m.abstract.references t account agenda a.aside
  pub bounded : IsBounded m.layout account
  pub exited : exits Running agenda ≡ true → HoldsNone account × (a.aside ≡ [])
  pub aside : AsideFits (with_actor m t (sitting a agenda)) t (sitting a agenda)
  pub knows : HeadOf (with_actor m t (sitting a agenda)) t (sitting a agenda) agenda
  pub behind : BehindOf (with_actor m t (sitting a agenda)) t agenda
  pub locks : LocksFit account m t (sitting a agenda)
  pub fits : Agenda a.used Running agenda
  pub light : list_any weighs_any agenda ≡ false

-- The thread runs and has nothing to do.
pub record AtRest (p : Accounts) (n : ℕ) (m : Machine) (t : ℕ) (a : Actor) : Type 0 where
  pub core : CoreInvariant p n m
  pub found : slice_get m.actors t ≡ Some a
  pub agenda : a.agenda ≡ []
  pub running : a.status ≡ Running

pub same_weight : (f : Duty → ℕ) (actors : List Actor) (t : ℕ) (a : Actor) (agenda : List Duty)
    → slice_get actors t ≡ Some a → a.agenda ≡ [] → sum_by f agenda ≡ 0
    → weight f (slice_set actors t (sitting a agenda)) ≡ weight f actors
same_weight f actors t a agenda found none weightless =
    let before : sum_by f a.agenda ≡ 0 = ap (sum_by f) none in
    omega (arith, weight-set f actors t a (sitting a agenda) found, before, weightless)

module _ {p : Accounts} {n : ℕ} {m : Machine} {t : ℕ} {a : Actor} where
  sitting_fits : (agenda : List Duty) (account : Account) → AtRest p n m t a → Sits m t a agenda account
      → Fits account (with_actor m t (sitting a agenda)) t (sitting a agenda)
  sitting_fits agenda account rest sits =
      let old = (rest.core.each t a rest.found).0 in
      let none : (x : ℕ) → finalised a.agenda x ≡ finalised agenda x =
      λ x. ap (λ (l : List Duty). finalised l x) rest.agenda ∙ sym (weightless x agenda sits.light).hands in (
        record {
          word = old.word;
          holds = sits.holds;
          bounded = sits.bounded;
          exited = λ e. sits.exited (sym (ap (λ (s : Status). exits s agenda) rest.running) ∙ e);
          head_fits = sits.knows;
          behind = sits.behind;
          chain =
              record {
                chained = old.chain.chained;
                linked = old.chain.linked;
                once = λ x. omega (arith, old.chain.once x, none x);
              };
          locks = sits.locks;
          lent = old.lent;
        },
        subst (λ (s : Status). AgendaFits (sitting a agenda) s) (sym rest.running) sits.fits,
        sits.aside,
      )

  -- All unused rows of a thread at rest are blank, whatever it takes up.
  pub rest_blanks : (agenda : List Duty) → AtRest p n m t a → BlankFits m.layout m.memory t a.used agenda
  rest_blanks agenda rest =
      let old : BlankFits m.layout m.memory t a.used [] =
      subst (λ (l : List Duty). BlankFits m.layout m.memory t a.used l) rest.agenda (rest.core.blanks t a rest.found) in
      record {
        kinds = λ x block past none. old.kinds x block past refl;
        fields = λ x block past none. old.fields x block past refl;
      }

-- The work that a thread takes up weighs nothing, so the thread weighs what it weighed before.
taken_weight : (f : Duty → ℕ) (a : Actor) (agenda : List Duty) → a.agenda ≡ [] → sum_by f agenda ≡ 0
    → agenda_weight f (sitting a agenda) ≡ agenda_weight f a
taken_weight f a agenda none weightless =
    let before : sum_by f a.agenda ≡ 0 = ap (sum_by f) none in omega (arith, before, weightless)

module _ {p : Accounts} {n : ℕ} {m : Machine} {t : ℕ} {a : Actor} where
  -- Taking up work that meets its condition keeps the core invariant.
  pub sits_core : (agenda : List Duty) (account : Account) → AtRest p n m t a → Sits m t a agenda account
      → CoreInvariant (with_account p t account) n (with_actor m t (sitting a agenda))
  sits_core agenda account rest sits =
      let none = λ (x : ℕ). weightless x agenda sits.light in
      replaced_core t a (sitting a agenda) account rest.core rest.found (record {
        fits = sitting_fits agenda account rest sits;
        used = refl;
        locked = refl;
        lent = refl;
        blanks = rest_blanks agenda rest;
        waits = λ x. taken_weight (waits x) a agenda rest.agenda (none x).apart.waiting;
        carries = λ x. taken_weight (carries x) a agenda rest.agenda (none x).apart.carried;
        merges = λ x. taken_weight (merges x) a agenda rest.agenda (none x).apart.merging;
        decides = λ x. taken_weight (decides x) a agenda rest.agenda (none x).apart.deciding;
        looks = λ x. taken_weight (looks x) a agenda rest.agenda (none x).looks;
        finalises = λ x f few.
            taken_weight f a agenda rest.agenda (omega (arith, list_weight x f few agenda, (none x).hands));
        scans = λ x scanned. absurd (false≢true (sym (ap (scans x) rest.agenda) ∙ scanned));
      })

-- ---- taking up a duty and doing it is one step

pub taken_up_step : (m : Machine) (t : ℕ) (a : Actor) (d : Duty) (rest : List Duty)
    → machine_by_duty (with_actor m t (sitting a (d ∷ rest))) t (sitting a (d ∷ rest)) d rest
    ≡ machine_by_duty m t a d rest
taken_up_step m t a d rest =
    let new = machine_by_duty m t a d rest in
    let after = actor_by m.layout t a d rest (m.memory (address_of m.layout t a.head d)) in
    λ i. record new { actors = set-set m.actors t (sitting a (d ∷ rest)) after i }
