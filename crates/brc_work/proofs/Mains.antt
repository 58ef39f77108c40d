-- Main gives out hands to workers, one after the other.
use Rattle.std.proofs.Common.{◌≡◌, ◌⊎◌, ℕ, suc, ◌+◌, ◌<◌, ◌≤◌, Bool, true, false, List, ◌∷◌, ◌++◌, length, arith, inl, inr, refl, sym, ap, ◌∙◌, subst}
use Rattle.std.specs.Prelude.{◌==◌, ◌||◌, count_by}
use Rattle.std.specs.List.{filter, list_any}
use Rattle.std.proofs.lemmas.Bool.{ne_eqb}
use Rattle.std.proofs.lemmas.Bool.Decides.{eqb_tells}
use Rattle.brc_model.specs.declared.duty.Duty.{Duty}
use Rattle.brc_model.specs.Layout.{root_row}
use Rattle.brc_table.specs.declared.view.View.{View}
use Rattle.brc_table.specs.declared.view.Joined.{Joined}
use Rattle.brc_table.specs.Joining.{joining}
use Rattle.brc_model.specs.OpenWork.{is_about}
use Rattle.brc_table.specs.Hands.{IsRunning, HasNoWork, MayWait, most_references}
use Rattle.brc_table.specs.Views.{holds, is_given, HasJoined}
use Rattle.brc_heap.specs.Calls.{HasGiven}
use Rattle.brc_heap.proofs.Keeping.{keeps_first, keeps_then as both_keep, keeps_rest}
use Rattle.brc_work.specs.Mains.{MayFanOut, KeepsMain, JoinsMore}

-- Main has given out no hand yet.
pub keeps_itself : (v : View) → MayFanOut v → KeepsMain v v
keeps_itself v may = record { keeps = keeps_first v; head = refl; waits = may.running.1; work = refl }

-- Main has given out one hand more.
pub keeps_then : (thread : ℕ) (v u w : View) → KeepsMain v u → HasGiven thread u w → KeepsMain v w
keeps_then thread v u w kept given = record {
  keeps =
      both_keep
      (keeps_rest kept.keeps (sym given.keeps.aside) kept.keeps.references (sym given.keeps.given)) given.keeps;
  head = given.head ∙ kept.head;
  waits = subst MayWait (sym given.agenda) tt;
  work = ap (λ (ds : List Duty). ds ++ w.actor.aside) given.agenda ∙ given.keeps.aside ∙ kept.work;
}

-- What `hand_out` asks of main holds before each hand.
module _ (v u : View) (may : MayFanOut v) (kept : KeepsMain v u) where
  pub still_main : u.thread ≡ 0
  still_main = kept.keeps.thread ∙ may.is_main

  pub still_runs : IsRunning u
  still_runs = (kept.keeps.status ∙ may.running.0, kept.waits)

  pub still_holds : 1 ≤ holds u root_row
  still_holds = subst (λ (rows : List ℕ). 1 ≤ count_by (λ y. y == root_row) rows) (sym kept.keeps.references) may.held

  pub still_idle : HasNoWork u root_row
  still_idle = ap (filter (is_about root_row)) kept.work ∙ may.idle

  pub still_few : length u.references < most_references
  still_few = subst (λ (rows : List ℕ). length rows < most_references) (sym kept.keeps.references) may.few

-- No hand of a later worker was given out.
pub free_then : (thread : ℕ) (v w : View) → HasGiven thread v w
    → ((t : ℕ) → thread ≤ t → is_given t v ≡ false) → (t : ℕ) → thread + 1 ≤ t → is_given t w ≡ false
free_then thread v w given free t above =
    ap (list_any (λ (s : ℕ). s == t)) given.keeps.given
    ∙ ap (λ (b : Bool). b || is_given t v) (ne_eqb thread t (λ e. absurd (omega (arith, above, e))))
    ∙ free t (omega (arith, above))

-- A hand that was given out was given out now, or before.
pub given_then : (thread : ℕ) (v w : View) → HasGiven thread v w → (t : ℕ) → is_given t w ≡ true
    → (thread ≡ t) ⊎ (is_given t v ≡ true)
given_then thread v w given t is = elim (eqb_tells thread t) [
  | inl same ↦ inl same.1
  | inr apart ↦
      inr (sym (ap (list_any (λ (s : ℕ). s == t)) given.keeps.given
      ∙ ap (λ (b : Bool). b || is_given t v) apart.0) ∙ is)
]

-- ---- hands that are joined

-- A hand has still joined what it had joined,
pub still_joined : (v gone : View) (hand : Joined) → HasJoined v hand → HasJoined (joining v gone) hand
still_joined v gone hand has = (suc has.0, omega (arith, has.1), has.2)

-- and one hand more.
pub joins_then : (v u w gone : View) → JoinsMore v u → w ≡ joining u gone → JoinsMore v w
joins_then v u w gone more is = record {
  same =
      is
      ∙ (ap (λ (z : View). record z { joined = record { thread = gone.thread; used = gone.actor.used } ∷ u.joined })
      more.same
      ∙ ap (λ (hands : List Joined). record v { joined = hands }) (sym (ap (λ (z : View). z.joined) is)));
  still = λ hand has.
      subst (λ (z : View). HasJoined z hand) (sym is) (still_joined u gone hand (more.still hand has));
}

pub joins_none : (v : View) → JoinsMore v v
joins_none v = record { same = refl; still = λ hand has. has }

pub joined_now : (u w gone : View) → w ≡ joining u gone
    → HasJoined w (record { thread = gone.thread; used = gone.actor.used })
joined_now u w gone is =
    subst (λ (z : View). HasJoined z (record { thread = gone.thread; used = gone.actor.used })) (sym is)
    (0, omega arith, refl)

-- What main kept as it gave out hands it keeps as it joins them.
pub keeps_joined : (v u w : View) → KeepsMain v u → JoinsMore u w → KeepsMain v w
keeps_joined v u w kept more =
    subst (KeepsMain v) (sym more.same) (record {
      keeps = keeps_rest kept.keeps refl kept.keeps.references refl;
      head = kept.head;
      waits = kept.waits;
      work = kept.work;
    })
