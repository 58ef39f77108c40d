-- What a thread of accepted code takes up fits it: its account is then the one of the place where it is.
use Rattle.std.proofs.Common.{◌≡◌, ◌≢◌, ℕ, false, List, [], ◌∷◌, Some, refl, sym, ap, ◌∙◌, subst, None, Option}
use Rattle.std.specs.Prelude.{slice_get}
use Rattle.std.proofs.lemmas.Bool.{false≢true}
use Rattle.brc_model.specs.declared.duty.Duty.{Duty}
use Rattle.brc_model.specs.declared.duty.Duty.TheVariants.{ClaimMark}
use Rattle.brc_model.specs.declared.actor.Status.{Status}
use Rattle.brc_model.specs.declared.actor.Status.TheVariants.{Running, Leaving, Gone}
use Rattle.brc_model.specs.declared.actor.Place.{Place}
use Rattle.brc_model.specs.declared.actor.Place.TheVariants.{Exiting}
use Rattle.brc_model.specs.declared.actor.Actor.{Actor}
use Rattle.brc_model.specs.Machine.{Machine, with_actor, locked_by}
use Rattle.brc_model.specs.Actions.{StepActor}
use Rattle.brc_model.specs.Dispatch.{dispatch}
use Rattle.brc_model.specs.StepMachine.{StepMachine, counting}
use Rattle.brc_model.specs.Accounts.{Account, Accounts, HoldsAt}
use Rattle.brc_model.specs.OpenWork.{Agenda, AgendaFits, has_leave, exits}
use Rattle.brc_model.specs.Invariant.{CoreInvariant}
use Rattle.brc_model.proofs.Frame.Aside.{HoldsAlone, alone_holds, alone_fits}
use Rattle.brc_model.proofs.Dispatch.TakenUp.{starts_leave, follows_leave, starts_sit}
use Rattle.brc_model.proofs.Dispatch.Coded.{PlaceSays, InCode, is_departing, departing_is, place_fits, placed_by, exited_none, says_bounded}
use Rattle.brc_model.proofs.Dispatch.TakingUp.{scene_of, Taken, IsTaken}
use Rattle.brc_model.proofs.Basics.Lists.{none_some}
use Rattle.brc_model.proofs.Dispatch.Taking.{SeesKinds, dispatch_taken}
use Rattle.brc_model.proofs.Keeping.Sits.{Sits, AtRest, sitting}
use Rattle.brc_model.specs.Layout.{block_of}
use Rattle.brc_model.proofs.Dispatch.Programs.{running, Program, IsSound, code_at}

-- The account of the place where the thread then is, with which the work fits the thread.
pub record TakenSits (program : Program) (m : Machine) (t : ℕ) (a : StepActor) (place : Place) (locked : Option ℕ)
    (agenda : List Duty) : Type 0 where
  pub account : Account
  pub says : PlaceSays program place locked account
  pub departs : exits Running agenda ≡ is_departing place
  pub sits : Sits m t a.actor agenda account

pub taken_sits : (program : Program) (c : Accounts) (n : ℕ) (m : Machine) (t : ℕ) (a : StepActor) (found : ℕ)
    (place : Place) (d : Duty) (rest : List Duty)
    → AtRest c n m t a.actor → a.actor.aside ≡ []
    → Taken program (scene_of m t a.actor) found place d rest
    → TakenSits program m t a place (locked_by a.actor.locked d found) (d ∷ rest)
taken_sits program c n m t a found place d rest at alone taken =
    let locked = locked_by a.actor.locked d found in
    let placed = placed_by program m.abstract.references t (d ∷ rest) locked place taken.placed in
    let departs : exits Running (d ∷ rest) ≡ is_departing place =
    starts_leave (scene_of m t a.actor) d rest taken.starts
    ∙ follows_leave m.layout t a.actor.used place rest taken.follows in
    record {
      account = placed.account;
      says = placed.says;
      departs = departs;
      sits =
          starts_sit place d rest placed.account at alone placed.holds
          (says_bounded m.layout program place locked placed.account placed.says)
          (λ e. exited_none program place locked placed.account placed.says (departing_is place (sym departs ∙ e)))
          taken.keeps taken.starts taken.follows;
    }

module _ {p : Accounts} {n : ℕ} {m : Machine} {t : ℕ} {a : Actor} where
  -- A thread at rest may take up a claim of a row of its own block.
  pub claim_sits : (row : ℕ) → AtRest p n m t a → a.aside ≡ [] → a.locked ≡ None → block_of m.layout row ≡ t
      → Sits m t a (ClaimMark row ∷ []) (p t)
  claim_sits row at alone unlocked mine =
      let old = (at.core.each t a at.found).0 in
      let holds : HoldsAt m.abstract.references t (p t) [] a.aside =
      subst (λ (l : List Duty). HoldsAt m.abstract.references t (p t) l a.aside) at.agenda old.holds in
      let now = sitting a (ClaimMark row ∷ []) in
      record {
        holds = record { each = holds.each };
        aside = alone_fits (with_actor m t now) t now alone;
        bounded = old.bounded;
        exited = λ e. absurd cc;
        knows = mine;
        behind = tt;
        locks = λ x e. absurd (none_some x (sym unlocked ∙ e));
        fits = refl;
        light = refl;
      }

-- ---- a thread at rest

agenda_rests : (used : ℕ) (a : Actor) (status : Status) → (status ≡ Gone → ⊥) → a.agenda ≡ []
    → AgendaFits a status → status ≡ Running
agenda_rests used a Gone alive none fits = absurd (alive refl)
agenda_rests used a Running alive none fits =
    subst (λ (l : List Duty). Agenda a.used Running l) none fits
agenda_rests used a Leaving alive none fits =
    subst (λ (l : List Duty). Agenda a.used Leaving l) none fits

-- A thread with an empty agenda that isn't gone is running.
pub rests : (p : Accounts) (n : ℕ) (m : Machine) (t : ℕ) (a : Actor) → CoreInvariant p n m
    → slice_get m.actors t ≡ Some a
    → (a.status ≡ Gone → ⊥) → a.agenda ≡ [] → a.status ≡ Running
rests p n m t a core found alive none = agenda_rests a.used a a.status alive none (core.each t a found).1

-- A running thread with an empty agenda isn't at the place of an exit.
rests_elsewhere : (program : Program) (a : StepActor) (account : Account) → InCode program a account → a.actor.agenda
    ≡ []
    → a.actor.status ≡ Running → a.place ≢ Exiting
rests_elsewhere program a account coded none running e =
    let rests : exits a.actor.status a.actor.agenda ≡ false =
    ap (λ (s : Status). exits s a.actor.agenda) running ∙ ap has_leave none in
    false≢true (sym rests ∙ coded.departs ∙ ap is_departing e)

pub dispatch_fits : (program : Program) (c : Accounts) (n : ℕ) (m : StepMachine) (t : ℕ) (a : StepActor)
    → AtRest c n (counting m) t a.actor → IsSound program → InCode program a (c t)
    → SeesKinds program (scene_of (counting m) t a.actor) a.place
    → IsTaken program (scene_of (counting m) t a.actor)
    (dispatch m.layout t a.actor.used (code_at program a.place) a.place)
dispatch_fits program c n m t a at sound coded sees =
    let holds : HoldsAlone m.abstract.references t (c t) [] =
    alone_holds m.abstract.references t (c t) [] a.actor.aside coded.alone
    (subst (λ (l : List Duty). HoldsAt m.abstract.references t (c t) l a.actor.aside) at.agenda
    (at.core.each t a.actor at.found).0.holds) in
    dispatch_taken program (scene_of (counting m) t a.actor) a.place sound
    (rests_elsewhere program a (c t) coded at.agenda at.running)
    (place_fits program m.abstract.references t [] a.actor.locked a.place (c t) coded.says holds) sees
