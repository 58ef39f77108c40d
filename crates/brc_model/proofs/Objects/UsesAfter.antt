-- Which rows are born and which are used after a step.
use Rattle.std.proofs.Common.{◌≡◌, ◌≢◌, ℕ, ◌+◌, ◌≤◌, Bool, true, false, cond, List, [], ◌∷◌, ◌++◌, ◌⊎◌, inl, inr, None, Some, refl, sym, ap, ◌∙◌, subst, arith}
use Rattle.std.specs.Prelude.{◌==◌, ◌||◌, slice_get, slice_set, count_by}
use Rattle.std.proofs.lemmas.List.Sums.{sum_by-cons, sum_by-append}
use Rattle.brc_model.specs.References.{one_if}
use Rattle.brc_model.specs.Accounts.{Accounts}
use Rattle.brc_model.specs.Knowledge.{IsNext}
use Rattle.brc_model.specs.Invariant.{AtDuty, UsesFit, CoreInvariant}
use Rattle.std.proofs.lemmas.Bool.{eq-eqb, cases_lt}
use Rattle.std.proofs.lemmas.Bool.Decides.{eqb_tells}
use Rattle.std.proofs.lemmas.List.Folds.{list_any-append}
use Rattle.std.proofs.lemmas.Option.{slice_get_within}
use Rattle.brc_model.specs.AbstractState.{is_among, AbstractState, Move, Born, Gain, Lose, PassOn, Finalise, move, moved}
use Rattle.brc_model.specs.declared.duty.Duty.{Duty}
use Rattle.brc_model.specs.declared.duty.Duty.TheVariants.{BirthLocal}
use Rattle.brc_model.specs.declared.address.Address.{Address}
use Rattle.brc_model.specs.Duties.{address_of}
use Rattle.brc_model.specs.declared.actor.Actor.{Actor}
use Rattle.brc_model.specs.Machine.{Unborn, Live, Dying, Machine, used_by, born_row, actor_by, machine_by_duty}
use Rattle.brc_model.specs.Moves.{reference_effects}
use Rattle.brc_model.proofs.Basics.Lists.{some_is, either_true, slice_get-set_same, slice_get-set_other, none_some}
use Rattle.brc_model.proofs.Basics.Blocks.{row_back, next_index, next_counted, next_block, next_unborn}
use Rattle.std.specs.List.{AllByRecursion}
use Rattle.brc_model.proofs.Basics.Moves.{MoveOf, Bears, each_effect, moved_keeps}
use Rattle.brc_model.proofs.Frame.Leaves.{head_of}
use Rattle.brc_model.proofs.Frame.Lives.{next_of, born_left}
use Rattle.brc_model.proofs.Stepping.FitsAfter.{found_by, uses_same}
use Rattle.brc_model.proofs.Objects.Closing.{GoesOn, BeginsToDie, IsClosed, IsBorn, life_step}
use Rattle.brc_model.proofs.Objects.ClosedAfter.{among_more, among_last, one_is}
use Rattle.brc_model.proofs.Basics.Bag.{one_if_low}
use Rattle.brc_model.specs.Layout.{row_at, index_of, IsCounted}

-- ---- lives

live_not_unborn : Live ≡ Unborn → ⊥
live_not_unborn e = cc

dying_not_unborn : (t : ℕ) → Dying t ≡ Unborn → ⊥
dying_not_unborn t e = cc

module _ {p : Accounts} {n : ℕ} {m : Machine} {t : ℕ} {a : Actor} {d : Duty} {rest : List Duty} where
  -- A born row never becomes unborn.
  pub stays_born : (x : ℕ) → AtDuty p n m t a d rest → m.life x ≢ Unborn → (machine_by_duty m t a d rest).life x ≢
      Unborn
  stays_born x here born = born_left m.life t d (next_of m t a d) x born

  -- An unborn row stays unborn unless the step is the last of its birth.
  pub stays_unborn : (x : ℕ) → AtDuty p n m t a d rest → m.life x ≡ Unborn → (born_row d ≡ Some x → ⊥)
      → (machine_by_duty m t a d rest).life x ≡ Unborn
  stays_unborn x here unborn other =
      elim (life_step d x here) [
        | GoesOn now ends ↦ now ∙ unborn
        | BeginsToDie now alive positive none ↦ absurd (live_not_unborn (sym alive ∙ unborn))
        | IsClosed now dying positive ended ↦ absurd (dying_not_unborn t (sym dying ∙ unborn))
        | IsBorn now was above this none ↦ absurd (other this)
      ]

module _ {p : Accounts} {n : ℕ} {m : Machine} {t : ℕ} {a : Actor} {rest : List Duty} where
  born_next : (d : Duty) (x : ℕ) → AtDuty p n m t a d rest → born_row d ≡ Some x
      → IsNext m t a x × (used_by a.used d ≡ a.used + 1)
  born_next (BirthLocal y h) x here e = (subst (λ (z : ℕ). IsNext m t a z) (some_is y x e) (head_of here).0, refl)
  born_next _ x here e = absurd (none_some x e)

  -- The row that a birth makes is live.
  born_lives : (d : Duty) (x : ℕ) → AtDuty p n m t a d rest → born_row d ≡ Some x
      → (machine_by_duty m t a d rest).life x ≡ Live
  born_lives (BirthLocal y h) x here e = ap (λ (b : Bool). cond b Live (m.life x)) (eq-eqb y x (some_is y x e))
  born_lives _ x here e = absurd (none_some x e)

-- ---- used rows

-- A step is the last of a birth, or it isn't.
either_born : (d : Duty) → (born_row d ≡ None) ⊎ ((x : ℕ) × (born_row d ≡ Some x))
either_born (BirthLocal x h) = inr (x, refl)
either_born _ = inl refl

module _ {p : Accounts} {n : ℕ} {m : Machine} {t : ℕ} {a : Actor} {d : Duty} {rest : List Duty} where
  pub own_uses : AtDuty p n m t a d rest → UsesFit m.layout (machine_by_duty m t a d rest).life t (used_by a.used d)
  own_uses here =
      let old = here.core.uses t a here.found in
      elim (either_born d) [
        | inl none ↦
            let same = uses_same a.used d none in
            let now : UsesFit m.layout (machine_by_duty m t a d rest).life t a.used = record {
              main = old.main;
              few = old.few;
              born = λ x low high. stays_born x here (old.born x low high);
              unborn = λ x block past. stays_unborn x here (old.unborn x block past) (λ e. none_some x (sym none ∙ e));
            } in
            subst (λ (u : ℕ). UsesFit m.layout (machine_by_duty m t a d rest).life t u) (sym same) now
        | inr this ↦
            let next = born_next d this.0 here this.1 in
            let at = next_index m t a this.0 next.0 in
            let now : UsesFit m.layout (machine_by_duty m t a d rest).life t (a.used + 1) = record {
              main = λ e. (let worker = next.0.worker in absurd (omega (arith, e, worker)));
              few = (let room = next.0.room in omega (arith, room));
              born = λ x block low.
                  elim (cases_lt (index_of m.layout t x) a.used) [
                    | inl before ↦ stays_born x here (old.born x block before)
                    | inr past ↦
                        let index : index_of m.layout t x ≡ a.used = omega (arith, low, past) in
                        let same : x ≡ this.0 =
                        sym (row_back m.layout t x block) ∙ ap (row_at m.layout t) index ∙ sym next.0.row in
                        λ e. live_not_unborn (sym (born_lives d this.0 here this.1)
                        ∙ sym (ap (machine_by_duty m t a d rest).life same) ∙ e)
                  ];
              unborn = λ x block past. stays_unborn x here (old.unborn x block (omega (arith, past)))
                  (λ e. let same : index_of m.layout t this.0 ≡ index_of m.layout t x =
                  ap (index_of m.layout t) (some_is this.0 x (sym this.1 ∙ e)) in absurd
                  (omega (arith, at, past, same)));
            } in
            subst (λ (u : ℕ). UsesFit m.layout (machine_by_duty m t a d rest).life t u) (sym next.1) now
      ]

  others_uses : (u : ℕ) (b : Actor) → AtDuty p n m t a d rest → u ≢ t → slice_get m.actors u ≡ Some b
      → UsesFit m.layout (machine_by_duty m t a d rest).life u b.used
  others_uses u b here ne found =
      let old = here.core.uses u b found in
      record {
        main = old.main;
        few = old.few;
        born = λ x low high. stays_born x here (old.born x low high);
        unborn =
            λ x block past. stays_unborn x here (old.unborn x block past)
            (λ e. ne (sym block ∙ next_block m t a x (born_next d x here e).0));
      }

  -- After a thread's step the used rows of each thread's block are born, and the others aren't.
  pub uses_after : AtDuty p n m t a d rest → (u : ℕ) (b : Actor) → slice_get (machine_by_duty m t a d rest).actors u
      ≡ Some b
      → UsesFit m.layout (machine_by_duty m t a d rest).life u b.used
  uses_after here u b is =
      let after = actor_by m.layout t a d rest (found_by m t a d) in
      elim (eqb_tells u t) [
        | inl same ↦
            let written_is : Some after ≡ Some b =
            sym (ap (slice_get (slice_set m.actors t after)) same.1
            ∙ slice_get-set_same m.actors t after (slice_get_within m.actors t a here.found)) ∙ is in
            let own : UsesFit m.layout (machine_by_duty m t a d rest).life u after.used =
            subst (λ (w : ℕ). UsesFit m.layout (machine_by_duty m t a d rest).life w after.used) (sym same.1)
            (own_uses here) in
            subst (λ (c : Actor). UsesFit m.layout (machine_by_duty m t a d rest).life u c.used)
            (some_is after b written_is)
            own
        | inr apart ↦ others_uses u b here apart.1 (sym (slice_get-set_other m.actors t u after apart.1) ∙ is)
      ]

-- ---- the list of born rows

abbrev pub BearsNone : Move → Type 0
BearsNone (Born r kind) = ⊥
BearsNone (Gain r) = Unit {0}
BearsNone (Lose r) = Unit {0}
BearsNone (PassOn r h) = Unit {0}
BearsNone (Finalise x) = Unit {0}

move_bears : (p : AbstractState) (mv : Move) → BearsNone mv → (move p mv).born ≡ p.born
move_bears p (Born r kind) none = absurd none
move_bears p _ none = refl

effect_bears : {t found : ℕ} (d : Duty) (mv : Move) → born_row d ≡ None → MoveOf t found d mv → BearsNone mv
effect_bears d mv none (Bears x h kind of born) = absurd (none_some x (sym none ∙ born))
effect_bears d mv none _ = tt

pub moves_none : (memory : Address → ℕ) (t : ℕ) (d : Duty) (found : ℕ) → born_row d ≡ None
    → AllByRecursion BearsNone (reference_effects memory t d found)
moves_none memory t d found none =
    each_effect BearsNone memory t d found (λ mv sort. effect_bears d mv none sort)

data BornStep (m : Machine) (t : ℕ) (d : Duty) (found : ℕ) : Type 0 where
  SameBorn : born_row d ≡ None → (moved m.abstract (reference_effects m.memory t d found)).born ≡ m.abstract.born
      → BornStep m t d found
  OneBorn : (y : ℕ) → born_row d ≡ Some y
      → (moved m.abstract (reference_effects m.memory t d found)).born ≡ m.abstract.born ++ y ∷ []
      → BornStep m t d found

born_step : (m : Machine) (t : ℕ) (d : Duty) (found : ℕ) → BornStep m t d found
born_step m t (BirthLocal x h) found = OneBorn x refl refl
born_step m t d found =
    SameBorn refl (moved_keeps (λ p. p.born) BearsNone move_bears m.abstract (reference_effects m.memory t d found)
    (moves_none m.memory t d found refl))

module _ {p : Accounts} {n : ℕ} {m : Machine} {t : ℕ} {a : Actor} {d : Duty} {rest : List Duty} where
  pub born_is_after : AtDuty p n m t a d rest → (x : ℕ) → is_among x (machine_by_duty m t a d rest).abstract.born ≡ true
      → (IsCounted m.layout x) × ((machine_by_duty m t a d rest).life x ≢ Unborn)
  born_is_after here x is =
      elim (born_step m t d (m.memory (address_of m.layout t a.head d))) [
        | SameBorn none same ↦
            let old = here.core.born_is x (sym (ap (is_among x) same) ∙ is) in
            (old.0, stays_born x here old.1)
        | OneBorn y born more ↦
            elim (either_true (is_among x m.abstract.born) (is_among x (y ∷ []))
            (sym (ap (is_among x) more ∙ list_any-append (λ z. z == x) m.abstract.born (y ∷ [])) ∙ is)) [
              | inl was ↦ let old = here.core.born_is x was in (old.0, stays_born x here old.1)
              | inr new ↦
                  let this : y ≡ x = one_is x y new in
                  let bears : born_row d ≡ Some x = born ∙ ap Some this in
                  let above = next_counted m t a x (born_next d x here bears).0 in
                  (above, λ e. live_not_unborn (sym (born_lives d x here bears) ∙ e))
            ]
      ]

  -- A row that is born after the step was born before it, or the step is the last of its birth.
  pub before_or_now : (x : ℕ) → AtDuty p n m t a d rest → (machine_by_duty m t a d rest).life x ≢ Unborn
      → (m.life x ≢ Unborn) ⊎ (born_row d ≡ Some x)
  before_or_now x here born =
      elim (life_step d x here) [
        | GoesOn now other ↦ inl (λ e. born (now ∙ e))
        | BeginsToDie now alive positive none ↦ inl (λ e. live_not_unborn (sym alive ∙ e))
        | IsClosed now dying positive ended ↦ inl (λ e. dying_not_unborn t (sym dying ∙ e))
        | IsBorn now unborn above this none ↦ inr this
      ]

  pub born_has_after : AtDuty p n m t a d rest → (x : ℕ) → IsCounted m.layout x → (machine_by_duty m t a d rest).life
      x ≢ Unborn
      → is_among x (machine_by_duty m t a d rest).abstract.born ≡ true
  born_has_after here x above born =
      let Q : List ℕ → Type 0 = λ l. is_among x l ≡ true in
      elim (born_step m t d (m.memory (address_of m.layout t a.head d))) [
        | SameBorn none same ↦
            subst Q (sym same) (elim (before_or_now x here born) [
              | inl was ↦ here.core.born_has x above was
              | inr this ↦ absurd (none_some x (sym none ∙ this))
            ])
        | OneBorn y bears more ↦
            subst Q (sym more) (elim (before_or_now x here born) [
              | inl was ↦ among_more x m.abstract.born (y ∷ []) (here.core.born_has x above was)
              | inr this ↦
                  subst (λ (z : ℕ). is_among x (m.abstract.born ++ z ∷ []) ≡ true) (some_is x y (sym this ∙ bears))
                  (among_last x m.abstract.born)
            ])
      ]

-- ---- no row is born twice

none_counted : (x : ℕ) (l : List ℕ) → is_among x l ≡ false → count_by (λ y. y == x) l ≡ 0
none_counted x [] none = refl
none_counted x (y ∷ ys) none =
    elim (y == x) as (λ b. (y == x) ≡ b → (b || is_among x ys) ≡ false → count_by (λ z. z == x) (y ∷ ys) ≡ 0) [
      | true ↦ λ e wrong. absurd cc
      | false ↦ λ e later.
          let apart : one_if (y == x) ≡ 0 = ap one_if e in
          omega (arith, sum_by-cons (λ (z : ℕ). cond (z == x) 1 0) y ys, apart, none_counted x ys later)
    ] refl none

module _ {p : Accounts} {n : ℕ} {m : Machine} where
  not_listed : (x : ℕ) → CoreInvariant p n m → m.life x ≡ Unborn → is_among x m.abstract.born ≡ false
  not_listed x core unborn =
      elim (is_among x m.abstract.born) as (λ b. is_among x m.abstract.born ≡ b → b ≡ false) [
        | true ↦ λ e. absurd ((core.born_is x e).1 unborn)
        | false ↦ λ e. refl
      ] refl

-- Appending an element that isn't in the list keeps every element at most once in it.
one_more : (x y : ℕ) (l : List ℕ) → count_by (λ z. z == x) l ≤ 1 → is_among y l ≡ false
    → count_by (λ z. z == x) (l ++ y ∷ []) ≤ 1
one_more x y l once none =
    let parts : count_by (λ z. z == x) (l ++ y ∷ []) ≡ count_by (λ z. z == x) l + count_by (λ z. z == x) (y ∷ []) =
    sum_by-append (λ (z : ℕ). cond (z == x) 1 0) l (y ∷ []) in
    let last : count_by (λ z. z == x) (y ∷ []) ≡ one_if (y == x) =
    omega (arith, sum_by-cons (λ (z : ℕ). cond (z == x) 1 0) y []) in
    elim (eqb_tells y x) [
      | inl same ↦
          let zero_before : count_by (λ z. z == x) l ≡ 0 =
          none_counted x l (ap (λ (z : ℕ). is_among z l) (sym same.1) ∙ none) in
          omega (arith, parts, zero_before, last, one_if_low (y == x))
      | inr apart ↦
          let other : one_if (y == x) ≡ 0 = ap one_if apart.0 in
          omega (arith, parts, once, last, other)
    ]

module _ {p : Accounts} {n : ℕ} {m : Machine} {t : ℕ} {a : Actor} {d : Duty} {rest : List Duty} where
  pub born_once_after : AtDuty p n m t a d rest → (x : ℕ)
      → count_by (λ y. y == x) (machine_by_duty m t a d rest).abstract.born ≤ 1
  born_once_after here x =
      let Q : List ℕ → Type 0 = λ l. count_by (λ y. y == x) l ≤ 1 in
      elim (born_step m t d (m.memory (address_of m.layout t a.head d))) [
        | SameBorn none same ↦ subst Q (sym same) (here.core.born_once x)
        | OneBorn y bears more ↦
            let next = (born_next d y here bears).0 in
            let unborn = next_unborn p n m t a y here.core here.found next in
            subst Q (sym more) (one_more x y m.abstract.born (here.core.born_once x) (not_listed y here.core unborn))
      ]
