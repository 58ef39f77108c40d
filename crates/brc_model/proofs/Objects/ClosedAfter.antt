-- What the invariant says of lives and of closed rows holds after a step.
use Rattle.std.proofs.Common.{◌≡◌, ◌≢◌, ℕ, ◌<◌, ◌≤◌, Bool, true, false, List, [], ◌∷◌, ◌++◌, inl, inr, None, Some, refl, sym, ap, ◌∙◌, subst, arith}
use Rattle.std.specs.Prelude.{◌==◌, ◌||◌, AllPairs}
use Rattle.std.proofs.lemmas.Bool.{eqb-true, eq-eqb, ne_eqb}
use Rattle.std.proofs.lemmas.List.{get_or_default}
use Rattle.std.proofs.lemmas.List.Folds.{list_any-append, list_any-from_Any}
use Rattle.std.proofs.lemmas.List.Quantifiers.{all_pairs_push}
use Rattle.std.proofs.lemmas.Option.{slice_get_within}
use Rattle.brc_model.specs.AbstractState.{is_among}
use Rattle.brc_model.specs.declared.duty.Duty.{Duty}
use Rattle.brc_model.specs.Duties.{address_of}
use Rattle.brc_model.specs.declared.actor.Actor.{Actor}
use Rattle.brc_model.specs.Machine.{Life, Unborn, Live, Dying, Closed, Machine, machine_by_duty}
use Rattle.brc_model.proofs.Basics.Lists.{some_is, either_true}
use Rattle.brc_model.specs.Accounts.{Accounts}
use Rattle.brc_model.specs.OpenWork.{dies_by}
use Rattle.brc_model.proofs.Objects.Closing.{GoesOn, BeginsToDie, IsClosed, IsBorn, life_step, SameClosed, OneMore, closed_step}
use Rattle.brc_model.specs.Invariant.{AtDuty}
use Rattle.brc_model.proofs.Basics.Blocks.{immortal_apart}
use Rattle.brc_model.specs.Layout.{is_immortal_row}

pub dying_not_closed : (t : ℕ) → Dying t ≡ Closed → ⊥
dying_not_closed t e = cc

pub live_not_closed : Live ≡ Closed → ⊥
live_not_closed e = cc

pub unborn_not_closed : Unborn ≡ Closed → ⊥
unborn_not_closed e = cc

pub one_is : (x y : ℕ) → is_among x (y ∷ []) ≡ true → y ≡ x
one_is x y e = elim (either_true (y == x) false e) [ inl same ↦ eqb-true y x same | inr wrong ↦ absurd cc ]

module _ {p : Accounts} {n : ℕ} {m : Machine} {t : ℕ} {a : Actor} {d : Duty} {rest : List Duty} where
  -- A closed row stays closed.
  pub closed_stays : (x : ℕ) → AtDuty p n m t a d rest → m.life x ≡ Closed → (machine_by_duty m t a d rest).life x
      ≡ Closed
  closed_stays x here was =
      elim (life_step d x here) [
        | GoesOn same other ↦ same ∙ was
        | BeginsToDie now alive positive none ↦ absurd (live_not_closed (sym alive ∙ was))
        | IsClosed now dying positive ended ↦ now
        | IsBorn now unborn above born none ↦ absurd (unborn_not_closed (sym unborn ∙ was))
      ]

  pub closed_is_after : (x : ℕ) → AtDuty p n m t a d rest → is_among x (machine_by_duty m t a d rest).abstract.closed
      ≡ true
      → (machine_by_duty m t a d rest).life x ≡ Closed
  closed_is_after x here is =
      elim (closed_step m t d (m.memory (address_of m.layout t a.head d))) [
        | SameClosed none same ↦ closed_stays x here (here.core.closed_is x (sym (ap (is_among x) same) ∙ is))
        | OneMore y ended more ↦
            elim (either_true (is_among x m.abstract.closed) (is_among x (y ∷ []))
            (sym (ap (is_among x) more ∙ list_any-append (λ z. z == x) m.abstract.closed (y ∷ [])) ∙ is)) [
              | inl old ↦ closed_stays x here (here.core.closed_is x old)
              | inr new ↦
                  elim (life_step d x here) [
                    | GoesOn same other ↦ absurd (other (ended ∙ ap Some (one_is x y new)))
                    | BeginsToDie now alive positive none ↦ absurd (let wrong : None ≡ Some y = sym none ∙ ended in cc)
                    | IsClosed now dying positive e ↦ now
                    | IsBorn now unborn above born none ↦ absurd (let wrong : None ≡ Some y = sym none ∙ ended in cc)
                  ]
            ]
      ]

pub among_more : (x : ℕ) (xs ys : List ℕ) → is_among x xs ≡ true → is_among x (xs ++ ys) ≡ true
among_more x xs ys e = list_any-append (λ z. z == x) xs ys ∙ ap (λ (b : Bool). b || is_among x ys) e

pub among_last : (x : ℕ) (xs : List ℕ) → is_among x (xs ++ x ∷ []) ≡ true
among_last x xs =
    list_any-append (λ z. z == x) xs (x ∷ []) ∙ elim (is_among x xs) as (λ b. (b || is_among x (x ∷ [])) ≡ true) [
      | true ↦ refl
      | false ↦ ap (λ (b : Bool). b || false) (eq-eqb x x refl)
    ]

module _ {p : Accounts} {n : ℕ} {m : Machine} {t : ℕ} {a : Actor} {d : Duty} {rest : List Duty} where
  pub closed_has_after : (x : ℕ) → AtDuty p n m t a d rest → (machine_by_duty m t a d rest).life x ≡ Closed
      → is_among x (machine_by_duty m t a d rest).abstract.closed ≡ true
  closed_has_after x here is =
      let Q : List ℕ → Type 0 = λ l. is_among x l ≡ true in
      elim (closed_step m t d (m.memory (address_of m.layout t a.head d))) [
        | SameClosed none same ↦
            subst Q (sym same) (elim (life_step d x here) [
              | GoesOn now other ↦ here.core.closed_has x (sym now ∙ is)
              | BeginsToDie now alive positive e ↦ absurd (dying_not_closed t (sym now ∙ is))
              | IsClosed now dying positive ended ↦ absurd (let wrong : None ≡ Some x = sym none ∙ ended in cc)
              | IsBorn now unborn above born e ↦ absurd (live_not_closed (sym now ∙ is))
            ])
        | OneMore y ended more ↦
            subst Q (sym more) (elim (life_step d x here) [
              | GoesOn now other ↦ among_more x m.abstract.closed (y ∷ []) (here.core.closed_has x (sym now ∙ is))
              | BeginsToDie now alive positive e ↦ absurd (dying_not_closed t (sym now ∙ is))
              | IsClosed now dying positive e ↦
                  subst (λ (z : ℕ). is_among x (m.abstract.closed ++ z ∷ []) ≡ true) (some_is x y (sym e ∙ ended))
                  (among_last x m.abstract.closed)
              | IsBorn now unborn above born e ↦ absurd (live_not_closed (sym now ∙ is))
            ])
      ]

  pub closed_once_after : AtDuty p n m t a d rest → AllPairs (λ x y. x ≢ y)
      (machine_by_duty m t a d rest).abstract.closed
  closed_once_after here =
      let Q : List ℕ → Type 0 = λ l. AllPairs (λ x y. x ≢ y) l in
      elim (closed_step m t d (m.memory (address_of m.layout t a.head d))) [
        | SameClosed none same ↦ subst Q (sym same) here.core.once
        | OneMore y ended more ↦
            subst Q (sym more) (all_pairs_push (λ x z. x ≢ z) m.abstract.closed y here.core.once (λ k e lt same.
            let found : is_among y m.abstract.closed ≡ true =
            list_any-from_Any (λ z. z == y) m.abstract.closed
            (k, y, lt, get_or_default m.abstract.closed k y e lt ∙ same, eq-eqb y y refl) in
            elim (life_step d y here) [
              | GoesOn now other ↦ absurd (other ended)
              | BeginsToDie now alive positive none ↦ absurd (live_not_closed (sym alive ∙ here.core.closed_is y found))
              | IsClosed now dying positive last ↦ absurd (dying_not_closed t (sym dying ∙ here.core.closed_is y found))
              | IsBorn now unborn above born none ↦ absurd
                  (unborn_not_closed (sym unborn ∙ here.core.closed_is y found))
            ]))
      ]

  -- ---- rows that are dying

  pub immortals_live_after : (x : ℕ) → AtDuty p n m t a d rest → is_immortal_row m.layout x ≡ true
      → (machine_by_duty m t a d rest).life x ≡ Live
  immortals_live_after x here immortal =
      elim (life_step d x here) [
        | GoesOn now other ↦ now ∙ here.core.immortals_live x immortal
        | BeginsToDie now alive counted none ↦ absurd (immortal_apart m.layout x x counted immortal refl)
        | IsClosed now dying counted ended ↦ absurd (immortal_apart m.layout x x counted immortal refl)
        | IsBorn now unborn counted born none ↦ now
      ]

  pub dying_after : (x u : ℕ) → AtDuty p n m t a d rest → n ≤ u → dies_by ((machine_by_duty m t a d rest).life x) u
      ≡ false
  dying_after x u here past =
      let within : t < n = omega (arith, slice_get_within m.actors t a here.found, here.core.threads) in
      elim (life_step d x here) [
        | GoesOn now other ↦ ap (λ (l : Life). dies_by l u) now ∙ here.core.dying x u past
        | BeginsToDie now alive positive none ↦
            ap (λ (l : Life). dies_by l u) now ∙ ne_eqb t u (λ e. absurd (omega (arith, within, past, e)))
        | IsClosed now dying positive ended ↦ ap (λ (l : Life). dies_by l u) now
        | IsBorn now unborn above born none ↦ ap (λ (l : Life). dies_by l u) now
      ]
