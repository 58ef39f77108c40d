-- If the words say that an object was born and isn't dying or closed, and no thread is at its birth or its death, then
-- it lives.
use Rattle.std.proofs.Common.{◌≡◌, ℕ, ◌+◌, ◌<◌, Bool, true, false, cond, ◌||◌, List, [], ◌∷◌, Some, inl, inr, refl, sym, ap, ◌∙◌, subst, arith}
use Rattle.std.specs.Prelude.{◌==◌, slice_get, count_by}
use Rattle.std.specs.List.{list_any}
use Rattle.std.proofs.lemmas.Bool.{cases_lt, eq-eqb, eqb-true, false≢true}
use Rattle.std.proofs.lemmas.List.Sums.{sum_by-cons}
use Rattle.brc_model.specs.declared.actor.Actor.{Actor}
use Rattle.brc_model.specs.declared.address.Address.{Address}
use Rattle.brc_model.specs.declared.address.Address.TheVariants.{Gate, KindOf}
use Rattle.brc_model.specs.declared.duty.Duty.{Duty}
use Rattle.brc_model.specs.declared.duty.Duty.TheVariants.{BirthField, BirthLocal}
use Rattle.brc_model.specs.Accounts.{Accounts}
use Rattle.brc_model.specs.Gates.{GateFits}
use Rattle.brc_model.specs.Invariant.{CoreInvariant, kind_stored}
use Rattle.brc_model.specs.Knowledge.{IsDyingWord}
use Rattle.brc_model.specs.Layout.{block_of, index_of}
use Rattle.brc_model.specs.Machine.{Life, Unborn, Live, Dying, Closed, Machine}
use Rattle.brc_model.specs.OpenWork.{is_finalising, finalised, dies_by, Linked}
use Rattle.brc_model.specs.References.{one_if}
use Rattle.brc_model.proofs.Basics.Blocks.{block_within}
use Rattle.brc_table.specs.Agreeing.{is_birth_or_death, IsDeadGate}
use Rattle.brc_table.proofs.Lists.{there_is}

-- ---- agendas without such a duty

none_first : (a b : Bool) → (a || b) ≡ false → a ≡ false
none_first true b none = absurd cc
none_first false b none = refl

none_second : (a b : Bool) → (a || b) ≡ false → b ≡ false
none_second true b none = absurd cc
none_second false b none = none

-- A duty that is of no birth and no death finalises nothing.
finalises_none : (x : ℕ) (d : Duty) → is_birth_or_death x d ≡ false → is_finalising d x ≡ false
finalises_none x (BirthField y h) none = refl
finalises_none x (BirthLocal y h) none = refl
finalises_none x _ none = none

none_finalised : (x : ℕ) (ds : List Duty) → list_any (is_birth_or_death x) ds ≡ false → finalised ds x ≡ 0
none_finalised x [] none = refl
none_finalised x (d ∷ rest) none =
    let first = none_first (is_birth_or_death x d) (list_any (is_birth_or_death x) rest) none in
    let later = none_second (is_birth_or_death x d) (list_any (is_birth_or_death x) rest) none in
    ap (λ (b : Bool). cond b (1 + finalised rest x) (finalised rest x)) (finalises_none x d first)
    ∙ none_finalised x rest later

-- No birth has stored the kind word then.
none_stored : (x : ℕ) (ds : List Duty) → list_any (is_birth_or_death x) ds ≡ false → kind_stored ds x ≡ false
none_stored x (BirthField y h ∷ rest) none = none_first (y == x) (list_any (is_birth_or_death x) rest) none
none_stored x (BirthLocal y h ∷ rest) none = none_first (y == x) (list_any (is_birth_or_death x) rest) none
none_stored x _ none = refl

-- The gate of a row in a chain names the thread.
chained_word : (memory : Address → ℕ) (t head : ℕ) (chained : List ℕ) (x : ℕ) → Linked memory t head chained
    → 0 < count_by (λ y. y == x) chained → IsDyingWord t (memory (Gate x))
chained_word memory t head [] x linked some = absurd (omega (arith, some))
chained_word memory t head (y ∷ ys) x linked some =
    elim (y == x) as (λ b. (y == x) ≡ b → IsDyingWord t (memory (Gate x))) [
      | true ↦ λ same.
          subst (λ (z : ℕ). IsDyingWord t (memory (Gate z))) (eqb-true y x same) (linked.1.0, linked.1.1, linked.1.2)
      | false ↦ λ other.
          let apart : one_if (y == x) ≡ 0 = ap one_if other in
          chained_word memory t linked.1.0 ys x linked.1.3
          (omega (arith, some, sum_by-cons (λ (z : ℕ). cond (z == x) 1 0) y ys, apart))
    ] refl

-- ---- the row

module _ (p : Accounts) (n : ℕ) (m : Machine) (core : CoreInvariant p n m) (x : ℕ)
    (settled : (t : ℕ) (a : Actor) → slice_get m.actors t ≡ Some a → list_any (is_birth_or_death x) a.agenda ≡ false)
    (stored : 0 < m.memory (KindOf x)) (open_gate : IsDeadGate (m.memory (Gate x)) → ⊥) where
  -- A row whose kind word is stored is born, if no thread is at its birth.
  was_born : m.life x ≡ Unborn → ⊥
  was_born life =
      let t = block_of m.layout x in
      let it =
      there_is m.actors t (omega (arith, block_within m.layout x core.some_rows, core.workers, core.threads)) in
      elim (cases_lt (index_of m.layout t x) it.0.used) [
        | inl used ↦ (core.uses t it.0 it.1).born x refl used life
        | inr free ↦
            let none = none_stored x it.0.agenda (settled t it.0 it.1) in
            absurd (omega (arith, stored, (core.blanks t it.0 it.1).kinds x refl (omega (arith, free)) none))
      ]

  -- The gate of a dying row says so, if no thread is just at its death.
  dying_gate : (u : ℕ) → m.life x ≡ Dying u → IsDyingWord u (m.memory (Gate x))
  dying_gate u life =
      let dies : dies_by (m.life x) u ≡ true = ap (λ (l : Life). dies_by l u) life ∙ eq-eqb u u refl in
      elim (cases_lt u n) [
        | inl low ↦
            let it = there_is m.actors u (omega (arith, low, core.threads)) in
            let chain = (core.each u it.0 it.1).0.chain in
            let none = none_finalised x it.0.agenda (settled u it.0 it.1) in
            chained_word m.memory u it.0.head chain.chained x chain.linked
            (omega (arith, chain.once x, ap one_if dies, none))
        | inr high ↦ absurd (false≢true (sym (core.dying x u (omega (arith, high))) ∙ dies))
      ]

  lives_by : (l : Life) → m.life x ≡ l → GateFits m.actors x l (m.memory (Gate x)) → m.life x ≡ Live
  lives_by Unborn life gate = absurd (was_born life)
  lives_by Live life gate = life
  lives_by (Dying u) life gate = absurd (open_gate (inl (u, dying_gate u life)))
  lives_by Closed life gate = absurd (open_gate (inr gate))

  pub lives : m.life x ≡ Live
  lives = lives_by (m.life x) refl (core.gates x)
