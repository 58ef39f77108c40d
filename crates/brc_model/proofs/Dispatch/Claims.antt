-- A thread that may claim a row is outside its calls with nothing to do, and has used the row of its own block. One
-- that may stop is before an instruction, with nothing to do.
use Rattle.std.proofs.Common.{◌≡◌, ℕ, ◌<◌, true, false, [], inl, inr, refl, sym, ◌∙◌}
use Rattle.std.proofs.lemmas.Bool.{cases_Bool, and_parts, eqb-true, ltb-true}
use Rattle.std.proofs.lemmas.List.{nil_from_length}
use Rattle.brc_model.specs.declared.actor.Status.TheVariants.{Running, Gone}
use Rattle.brc_model.specs.declared.actor.Place.{Place}
use Rattle.brc_model.specs.declared.actor.Place.TheVariants.{Idle}
use Rattle.brc_model.specs.Actions.{StepActor}
use Rattle.brc_model.specs.Dispatch.{is_idle, may_claim, is_before_instruction, may_stop}
use Rattle.brc_model.proofs.Stepping.Retains.{running_is}
use Rattle.brc_model.specs.declared.layout.Layout.{Layout}
use Rattle.brc_model.specs.Layout.{block_of, index_of}

-- The thread is between its calls with nothing to do, and has used the row.
pub record IsClaimer (layout : Layout) (t : ℕ) (a : StepActor) (row : ℕ) : Type 0 where
  pub left : ℕ
  pub idle : a.place ≡ Idle left
  pub running : a.actor.status ≡ Running
  pub agenda : a.actor.agenda ≡ []
  pub block : block_of layout row ≡ t
  pub low : index_of layout t row < a.actor.used

idle_is : (place : Place) → is_idle place ≡ true → (left : ℕ) × (place ≡ Idle left)
idle_is (Idle left) e = (left, refl)
idle_is _ e = cc

pub claimer : (layout : Layout) (t : ℕ) (a : StepActor) (row : ℕ) → may_claim layout t a row ≡ true
    → IsClaimer layout t a row
claimer layout t a row e =
    let all = and_parts _ _ e in
    let low = and_parts _ _ all.0 in
    let rests = and_parts _ _ low.0 in
    let runs = and_parts _ _ rests.0 in
    let place = idle_is a.place runs.0 in
    record {
      left = place.0;
      idle = place.1;
      running = running_is a.actor.status runs.1;
      agenda = nil_from_length a.actor.agenda (eqb-true _ _ rests.1);
      block = eqb-true _ _ low.1;
      low = ltb-true _ _ all.1;
    }

-- A thread that is gone may claim no row.
pub gone_claims_none : (layout : Layout) (t : ℕ) (a : StepActor) (row : ℕ) → a.actor.status ≡ Gone
    → may_claim layout t a row ≡ false
gone_claims_none layout t a row gone =
    elim (cases_Bool (may_claim layout t a row)) [
      | inl may ↦ let wrong : Running ≡ Gone = sym (claimer layout t a row may).running ∙ gone in absurd cc
      | inr not_so ↦ not_so
    ]

-- The thread is before an instruction with nothing to do.
pub record IsStopper (a : StepActor) : Type 0 where
  pub before : is_before_instruction a.place ≡ true
  pub running : a.actor.status ≡ Running
  pub agenda : a.actor.agenda ≡ []

pub stopper : (a : StepActor) → may_stop a ≡ true → IsStopper a
stopper a e =
    let rests = and_parts _ _ e in
    let runs = and_parts _ _ rests.0 in
    record {
      before = runs.0;
      running = running_is a.actor.status runs.1;
      agenda = nil_from_length a.actor.agenda (eqb-true _ _ rests.1);
    }

-- A thread that is gone may not stop.
pub gone_stops_not : (a : StepActor) → a.actor.status ≡ Gone → may_stop a ≡ false
gone_stops_not a gone =
    elim (cases_Bool (may_stop a)) [
      | inl may ↦ let wrong : Running ≡ Gone = sym (stopper a may).running ∙ gone in absurd cc
      | inr not_so ↦ not_so
    ]
