-- A thread of the counting machine is the thread of a hand, or it has done nothing.
use Rattle.std.proofs.Common.{◌≡◌, ◌≢◌, ◌⊎◌, ℕ, zero, suc, List, [], ◌∷◌, Some, inl, inr, refl, sym, ap, ◌∙◌, arith}
use Rattle.std.specs.Prelude.{slice_get}
use Rattle.std.proofs.lemmas.Bool.Decides.{eqb_tells}
use Rattle.std.proofs.lemmas.Option.{slice_get_within}
use mathlib.Core.Option.{some, some-injective, some-ne-none}
use lib.ListN.{get_elem?}
use Rattle.brc_model.specs.declared.actor.Actor.{Actor}
use Rattle.brc_model.specs.Machine.{idle_actor}
use Rattle.brc_model.proofs.Basics.Lists.{some_is}
use Rattle.brc_table.specs.Plan.{Plan}
use Rattle.brc_table.specs.declared.view.View.{View}
use Rattle.brc_table.specs.Rule.{Stands}

-- The thread has a hand.
pub record HandOf (views : List View) (t : ℕ) : Type 0 where
  pub id : ℕ
  pub view : View
  pub here : get_elem? views id ≡ some view
  pub thread : view.thread ≡ t

abbrev pub HasNoHand : List View → ℕ → Type 0
HasNoHand views t = (id : ℕ) (v : View) → get_elem? views id ≡ some v → v.thread ≡ t → ⊥

-- A thread that has no hand among the rest, and isn't the first hand's, has none.
none_in : (v : View) (views : List View) (t : ℕ) → v.thread ≢ t → HasNoHand views t → HasNoHand (v ∷ views) t
none_in v views t apart none zero w is same = apart (ap (λ (u : View). u.thread) (some-injective v w is) ∙ same)
none_in v views t apart none (suc id) w is same = none id w is same

-- Each thread has a hand, or has none.
hand_of : (views : List View) (t : ℕ) → HandOf views t ⊎ HasNoHand views t
hand_of [] t = inr (λ id v is same. some-ne-none v (sym is))
hand_of (v ∷ views) t = elim (eqb_tells v.thread t) [
  | inl same ↦ inl (record { id = 0; view = v; here = refl; thread = same.1 })
  | inr apart ↦ elim (hand_of views t) [
    | inl found ↦ inl (record { id = suc found.id; view = found.view; here = found.here; thread = found.thread })
    | inr none ↦ inr (none_in v views t apart.1 none)
  ]
]

-- A thread of the machine is its hand's, or it has done nothing.
pub thread_is : (plan : Plan) (words : List ℕ) (views : List View) (s : Stands plan words views) (t : ℕ)
    (a : Actor) → slice_get s.machine.actors t ≡ Some a
    → ((h : HandOf views t) × (a ≡ h.view.actor)) ⊎ (a ≡ idle_actor 0)
thread_is plan words views s t a found = elim (hand_of views t) [
  | inl h ↦
      inl (
        h,
        some_is a h.view.actor (sym found ∙ (ap (slice_get s.machine.actors) (sym h.thread)
            ∙ s.same_actor h.id h.view h.here)),
      )
  | inr none ↦
      let low = slice_get_within s.machine.actors t a found in
      let idle = s.idle t (omega (arith, low, s.counts.kept.core.threads)) none in
      inr (some_is a (idle_actor 0) (sym found ∙ idle.0))
]
